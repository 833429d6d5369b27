-- Calls of a worker without others between them; and a sync of them, at any moment and in any zone,
-- after any history after which it may begin.
use Rattle.std.proofs.Common.{◌≡◌, ◌⊎◌, inl, inr, ℕ, zero, suc, ◌+◌, ◌-◌, ◌<◌, ◌≤◌, ◌==◌, Bool, true, false, cond, List, [], ◌∷◌, ◌++◌, length, filter, map as map_list, Option, Some, None, refl, sym, ap, subst, ◌∙◌, arith}
use Rattle.std.specs.Prelude.{Result, Ok, Err, IfSome}
use Rattle.std.specs.List.{AllByRecursion}
use Rattle.std.specs.FinMap as map
use Rattle.std.proofs.lemmas.Bool.{cases_lt}
use Rattle.std.proofs.lemmas.List.{drop_all}
use Rattle.cj_base.specs.declared.refusal.Refusal.{Refusal}
use Rattle.cj_types.specs.Keys.{Place}
use Rattle.cj_types.specs.Made.{made_place}
use Rattle.cj_types.specs.declared.cron.CronJob.{CronJob}
use Rattle.cj_types.specs.declared.cron.CronStatus.{CronStatus}
use Rattle.cj_types.specs.declared.job.Job.{Job}
use Rattle.cj_types.specs.declared.job.JobDraft.{JobDraft}
use Rattle.cj_types.specs.declared.policy.Policy.{Policy}
use Rattle.cj_types.specs.declared.policy.Policy.TheVariants.{Allow, Forbid, Replace}
use Rattle.cj_types.specs.declared.policy.Reason.{Reason}
use Rattle.cj_types.specs.declared.event.Event.{Event}
use Rattle.cj_schedule.specs.Matches.{Sets}
use Rattle.cj_schedule.specs.Grammar.{IsSchedule}
use Rattle.cj_zone.specs.declared.zone.Zone.{Zone}
use Rattle.cj_due.specs.declared.answer.Missed.{Missed}
use Rattle.cj_due.specs.declared.answer.Missed.TheVariants as Kind
use Rattle.cj_due.specs.Due.{due, reach, IsQuiet, IsLeastDue, IsLatestDue, missed_count}
use Rattle.cj_due.specs.Missed.{IsMissed}
use Rattle.cj_due.specs.Window.{window_of}
use Rattle.cj_due.proofs.MissedLemmas.{missed_times-none}
use Rattle.cj_table.specs.jobs.Owners.{is_job_of}
use Rattle.cj_queue.specs.Queue.{taken}
use Rattle.cj_status.specs.declared.refs.JobRef.{JobRef}
use Rattle.cj_decide.specs.declared.start.Claim.{Claim}
use Rattle.cj_decide.specs.declared.start_decision.StartDecision.{StartDecision}
use Rattle.cj_decide.specs.StartDecisions.{by_missed, IsNext, IsUnlessSuspended, IsStartDecision}
use Rattle.cj_decide.specs.Decision.{Planned, IsPlan, running_of}
use Rattle.cj_decide.specs.laws.Laws.{IsIn, IsAllowed, IsClaimed}
use Rattle.cj_decide.proofs.Decided.{some_plan}
use Rattle.cj_decide.proofs.LawsLemmas.Claims.{no_claim}
use Rattle.cj_decide.proofs.LawsLemmas.Ends.{cleans_finished}
use Rattle.cj_calls.specs.declared.call.Call.{Call}
use Rattle.cj_calls.specs.declared.call.Call.TheVariants as Of
use Rattle.cj_calls.specs.declared.end.End.TheVariants.{Well}
use Rattle.cj_calls.specs.declared.reply.Reply.{Reply}
use Rattle.cj_calls.specs.declared.reply.Reply.TheVariants as Say
use Rattle.cj_calls.specs.Rows.{Told}
use Rattle.cj_state.specs.phases.Steps.{Step, drops, makes, sets, makings, settings, all_steps, step_at, is_over}
use Rattle.cj_state.specs.declared.phases.sync.Phase.TheVariants.{Held, Seen, Listed, Checked, Works}
use Rattle.cj_state.specs.declared.phases.sync.Phase.{Phase}
use Rattle.cj_state.specs.declared.phases.sync.Work.{Work}
use Rattle.cj_state.specs.declared.phases.sync.InFlight.{InFlight}
use Rattle.cj_state.specs.declared.state.State.{State}
use Rattle.cj_state.specs.Readings.{listed_of, active_of}
use Rattle.cj_state.specs.WorkerCalls.{Handled, sync_of, with_sync, by_sync, finish_work, finish_well, finish_in, finish}
use Rattle.cj_state.specs.Step.{step_of}
use Rattle.cj_state.specs.Legal.{IsLegal, IsPlanned, ArePlanned, answer_of, state_of}
use Rattle.cj_world_laws.specs.legal.InFlightSyncs.{sync, sync_after}
use Rattle.cj_world_laws.specs.once.Once.{is_ok}
use Rattle.cj_world_laws.proofs.LegalLemmas.HeldSyncs.{syncs_agree}
use Rattle.cj_world_laws.proofs.OnceLemmas.Maps.{sync_here}
use Rattle.cj_history.specs.store.Written.{version, current_job}
use Rattle.cj_history.specs.store.Writes.{entry_written, with_write, writes}
use Rattle.cj_history.specs.store.Mirrors.{fed_after, fed, earliest}
use Rattle.cj_history.specs.queue.Deeds.{deed, operations}
use Rattle.cj_history.specs.queue.LookBacks.{holder}
use Rattle.cj_history.specs.progress.Kept.{operation}
use Rattle.cj_history.specs.progress.Undisturbed.{worker, entry, Leads}
use Rattle.cj_history.specs.progress.Syncs.{calls_left, readings, works_off, IsReady, IsFor, IsLet, IsOpen, IsMade, unmissed, forbidden}
use Rattle.cj_history.specs.progress.Every.{Moment, instant_of, IsSaid, Led, name_of, IsSync}
use Rattle.cj_history.proofs.StoreLemmas.Lists.{values_all}
use Rattle.cj_history.proofs.StoreLemmas.Stores.{store_agrees}
use Rattle.cj_history.proofs.StoreLemmas.Followed.{mirror_agrees}
use Rattle.cj_history.proofs.ProgressLemmas.Calls.{in_flight, take_is, see_cron_is, see_jobs_is, see_active_is}
use Rattle.cj_history.proofs.ProgressLemmas.Aside.{ok_entered}
use Rattle.cj_history.proofs.ProgressLemmas.Started.{IsRead, Starting, starting, plan_of, seen_in, live_in, listed_in, plans_make_job}
use Rattle.cj_history.proofs.ProgressLemmas.Missed.{some_missed}
use Rattle.cj_history.proofs.ProgressLemmas.Rest.{plans_rest}
use Rattle.cj_history.proofs.ProgressLemmas.Closed.{plans_stay}
use Rattle.cj_history.proofs.ProgressLemmas.Whole.{taken_legal, reads_on}
use Rattle.cj_history.proofs.ProgressLemmas.Intervals.{NoneOrLatest, none_or_latest, latest_or_none}
use Rattle.cj_history.proofs.ProgressLemmas.Others.{Holds}
use Rattle.cj_history.proofs.ProgressLemmas.Led.{keeps_key, holds_own}
use Rattle.cj_history.proofs.ProgressLemmas.Synced.{forbids_by}
use Rattle.cj_history.proofs.ProgressLemmas.Kept.{freed}
use Rattle.cj_history.proofs.ProgressLemmas.OneKey.{IsOfKey, IsAlone, alone_with}

-- ---- what is missed, and what is next

-- Within so many seconds after an instant there is a least due time, or none is due.
least_or_none : (s : Sets) (z : Zone) (lo n : ℕ) → ((t : ℕ) × IsLeastDue s z lo (lo + n) t) ⊎ IsQuiet s z lo (lo + n)
least_or_none s z lo zero = inr (λ t b c. absurd (omega (arith, b, c)))
least_or_none s z lo (suc n) = by (least_or_none s z lo n) (due s z (lo + n + 1)) refl
  where
    by : ((t : ℕ) × IsLeastDue s z lo (lo + n) t) ⊎ IsQuiet s z lo (lo + n) → (b : Bool) → due s z (lo + n + 1) ≡ b
        → ((t : ℕ) × IsLeastDue s z lo (lo + suc n) t) ⊎ IsQuiet s z lo (lo + suc n)
    by (inl (t, h)) b e =
        let w = h.within in
        inl (t, record { above = h.above; within = omega (arith, w); is_due = h.is_due; least = h.least })
    by (inr q) true e = inl (
      lo + n + 1,
      record { above = omega arith; within = omega arith; is_due = e; least = λ k x y. q k x (omega (arith, y)) },
    )
    by (inr q) false e = inr (λ t x y. here t x y (cases_lt t (lo + n + 1)))
      where
        here : (t : ℕ) → lo < t → t ≤ lo + suc n → (t < lo + n + 1) ⊎ (lo + n + 1 ≤ t) → due s z t ≡ false
        here t x y (inl l) = q t x (omega (arith, l))
        here t x y (inr l) =
            let same : lo + n + 1 ≡ t = omega (arith, l, y) in subst (λ (k : ℕ). due s z k ≡ false) same e

-- Up to a later instant there is what is told of the missed times.
told_missed : (s : Sets) (z : Zone) (lo n : ℕ) → (m : Missed) × IsMissed s z lo (lo + n) m
told_missed s z lo n = by (latest_or_none s z lo n)
  where
    count : ℕ
    count = missed_count s z lo (lo + n)

    by : ((t : ℕ) × IsLatestDue s z lo (lo + n) t) ⊎ IsQuiet s z lo (lo + n) → (m : Missed) × IsMissed s z lo (lo + n) m
    by (inr q) = (Kind.None, ap length (missed_times-none s z lo (lo + n) q))
    by (inl (t, h)) = few (cases_lt 100 (missed_count s z lo (lo + n)))
      where
        few : (100 < missed_count s z lo (lo + n)) ⊎ (missed_count s z lo (lo + n) ≤ 100)
            → (m : Missed) × IsMissed s z lo (lo + n) m
        few (inl l) = (Kind.Many t, (l, h))
        few (inr l) =
            let c = some_missed s z lo (lo + n) t h in
            (Kind.Some (missed_count s z lo (lo + n)) t, (refl, omega (arith, c), l, h))

-- For the same up to any instant.
missed_upto : (s : Sets) (z : Zone) (lo hi : ℕ) → (m : Missed) × IsMissed s z lo hi m
missed_upto s z lo hi = by (cases_lt hi lo)
  where
    by : (hi < lo) ⊎ (lo ≤ hi) → (m : Missed) × IsMissed s z lo hi m
    by (inl l) = (Kind.None, ap length (missed_times-none s z lo hi (λ t x y. absurd (omega (arith, l, x, y)))))
    by (inr l) =
        let same : lo + (hi - lo) ≡ hi = omega (arith, l) in
        let r = told_missed s z lo (hi - lo) in
        (r.0, subst (λ (n : ℕ). IsMissed s z lo n r.0) same r.1)

-- There is what is told of the next time.
told_next : (s : Sets) (z : Zone) (now : ℕ) → (n : Option ℕ) × IsNext s z now n
told_next s z now = by (least_or_none s z now reach)
  where
    by : ((t : ℕ) × IsLeastDue s z now (now + reach) t) ⊎ IsQuiet s z now (now + reach)
        → (n : Option ℕ) × IsNext s z now n
    by (inl (t, h)) = (Some t, h)
    by (inr q) = (None, q)

-- After the readings there is a plan for the answers at any moment and in any zone, where the
-- CronJob has a schedule and isn't suspended.
pub some_plan_for : (window w : ℕ) (k : Place) (cron : CronJob) (h : List Told) → IsLegal window h
    → IsRead w k cron (state_of window h) → cron.spec.suspend ≡ false → (s : Sets) → IsSchedule cron.spec.schedule s
    → (z : Zone) (now : ℕ) → (p : Planned) × IsFor h w k p × (p.zone ≡ Some z) × (p.at ≡ now)
some_plan_for window w k cron h l r e s reads z now =
    let m = missed_upto s z (window_of cron now) now in
    let n = told_next s z now in
    let v : Bool → StartDecision = λ b. by_missed m.0 cron.spec.policy b n.0 in
    let is : (b : Bool) → IsStartDecision cron (Some z) b now (v b) =
    λ b. subst (λ x. IsUnlessSuspended x cron (Some z) b now (v b)) (sym e) (inl (s, reads, (m.0, n.0, m.1, n.1, refl)))
    in
    let d = some_plan cron r.jobs r.live now (Some z) (v true) (v false) (is true) (is false) in (
      record { cron = Some cron; jobs = r.jobs; active = r.live; at = now; zone = Some z; steps = d.0 },
      record { decided = d.1; rests = sym (syncs_agree window h l w) ∙ r.sync },
      refl,
      refl,
    )

-- ---- calls one after the other

-- the history after the worker's calls, with none of others between
abbrev pub run : ℕ → ℕ → List Told → List Call → List Told
run window w h [] = h
run window w h (call ∷ calls) = run window w (entry window h w call ∷ h) calls

-- They led there.
pub run_led : (window w : ℕ) (k : Place) (q : Option Place) (calls : List Call) (h : List Told)
    → Led window w k q h calls (run window w h calls)
run_led window w k q [] h = refl
run_led window w k q (call ∷ calls) h = ([], tt, run_led window w k q calls (entry window h w call ∷ h))

-- What they lead to holds then, and the history is legal.
pub run_leads : (window w : ℕ) (k : Place) (q : Option Place) (P : List Told → Type 0) (calls : List Call)
    (h : List Told)
    → IsLegal window h → Leads window w k q h calls P
    → IsLegal window (run window w h calls) × P (run window w h calls)
run_leads window w k q P [] h l f = (l, f)
run_leads window w k q P (call ∷ calls) h l f =
    let r = f [] l tt in
    run_leads window w k q P calls (entry window h w call ∷ h)
    (refl, ok_entered (answer_of window h (worker w) call) r.0, l) r.1

-- Where the plans of the calls are decided, those of the history are.
pub run_planned : (window w : ℕ) (calls : List Call) (h : List Told) → AllByRecursion IsPlanned calls → ArePlanned h
    → ArePlanned (run window w h calls)
run_planned window w [] h a b = b
run_planned window w (call ∷ calls) h a b = run_planned window w calls (entry window h w call ∷ h) a.1 (a.0, b)

-- The calls after a claim bring no plan.
left_planned : (reasons : List Reason) (xs : List Step) → AllByRecursion IsPlanned (calls_left reasons xs)
left_planned reasons [] = (tt, tt)
left_planned reasons (drops r ∷ xs) = (tt, left_planned reasons xs)
left_planned reasons (makes d ∷ xs) = (tt, left_planned reasons xs)
left_planned reasons (sets st ∷ xs) = (tt, left_planned reasons xs)

-- ---- the readings write nothing

-- An entry that wrote nothing leaves the writes.
unwritten : (e : Told) (h : List Told) → entry_written (writes h) (sync h e.caller.number) e.call e.answer ≡ None
    → writes (e ∷ h) ≡ writes h
unwritten e h n = ap (λ (o : Option Event). with_write o (writes h)) n

-- A Take writes nothing.
take_none : (ws : List Event) (o : Option InFlight) (x : Result Reply Refusal) → entry_written ws o Of.Take x ≡ None
take_none ws o (Ok r) = refl
take_none ws o (Err e) = refl

-- Nor does a SeeCron.
cron_none : (ws : List Event) (o : Option InFlight) (x : Result Reply Refusal) → entry_written ws o Of.SeeCron x ≡ None
cron_none ws o (Ok r) = refl
cron_none ws o (Err e) = refl

-- Nor a SeeJobs.
jobs_none : (ws : List Event) (o : Option InFlight) (x : Result Reply Refusal) → entry_written ws o Of.SeeJobs x ≡ None
jobs_none ws o (Ok r) = refl
jobs_none ws o (Err e) = refl

-- Nor a SeeActive.
active_none : (ws : List Event) (o : Option InFlight) (x : Result Reply Refusal) → entry_written ws o Of.SeeActive x
    ≡ None
active_none ws o (Ok r) = refl
active_none ws o (Err e) = refl

-- After a Take and its readings the writes are those before.
read_writes : (window w : ℕ) (h : List Told) → writes (run window w (entry window h w Of.Take ∷ h) readings) ≡ writes h
read_writes window w h =
    let a = entry window h w Of.Take in
    let b = entry window (a ∷ h) w Of.SeeCron in
    let c = entry window (b ∷ a ∷ h) w Of.SeeJobs in
    let d = entry window (c ∷ b ∷ a ∷ h) w Of.SeeActive in
    unwritten d (c ∷ b ∷ a ∷ h) (active_none (writes (c ∷ b ∷ a ∷ h)) (sync (c ∷ b ∷ a ∷ h) w) d.answer)
    ∙ (unwritten c (b ∷ a ∷ h) (jobs_none (writes (b ∷ a ∷ h)) (sync (b ∷ a ∷ h) w) c.answer)
    ∙ (unwritten b (a ∷ h) (cron_none (writes (a ∷ h)) (sync (a ∷ h) w) b.answer)
    ∙ unwritten a h (take_none (writes h) (sync h w) a.answer)))

-- ---- what the readings saw

-- After a Take of the first of the line, and the readings, the worker saw what stood before.
saw : (window w : ℕ) (k : Place) (h : List Told) (cron : CronJob) → IsLegal window h → IsReady window h w k cron
    → sync_of (state_of window (run window w (entry window h w Of.Take ∷ h) readings)) w
    ≡ Some (in_flight k (Checked (map.get (state_of window h).store.crons k) (listed_of (state_of window h) k)
    (active_of (state_of window h).store (map.get (state_of window h).store.crons k))))
saw window w k h cron l r =
    let s : State = state_of window h in
    let idle : sync_of s w ≡ None = syncs_agree window h l w ∙ r.idle in
    let c : Option CronJob = map.get s.store.crons k in
    let js : List Job = listed_of s k in
    let z1 : State = with_sync (record s { queue = taken s.queue }) w k Held in
    let z2 : State = with_sync z1 w k (Seen c) in
    let z3 : State = with_sync z2 w k (Listed c js) in
    let z4 : State = with_sync z3 w k (Checked c js (active_of s.store c)) in
    let e1 : (step_of s (worker w) Of.Take).state ≡ z1 = ap (λ (x : Handled). x.state) (take_is s w k idle r.line) in
    let e2 : (step_of z1 (worker w) Of.SeeCron).state ≡ z2 =
    ap (λ (x : Handled). x.state) (see_cron_is z1 w k (sync_here s.syncs w (in_flight k Held))) in
    let e3 : (step_of z2 (worker w) Of.SeeJobs).state ≡ z3 =
    ap (λ (x : Handled). x.state) (see_jobs_is z2 w k c (sync_here z1.syncs w (in_flight k (Seen c)))) in
    let e4 : (step_of z3 (worker w) Of.SeeActive).state ≡ z4 =
    ap (λ (x : Handled). x.state) (see_active_is z3 w k c js (sync_here z2.syncs w (in_flight k (Listed c js)))) in
    ap (λ (x : State). sync_of (step_of (step_of (step_of x (worker w) Of.SeeCron).state (worker w) Of.SeeJobs).state
    (worker w) Of.SeeActive).state w) e1
    ∙ (ap (λ (x : State). sync_of (step_of (step_of x (worker w) Of.SeeJobs).state (worker w) Of.SeeActive).state w) e2
    ∙ (ap (λ (x : State). sync_of (step_of x (worker w) Of.SeeActive).state w) e3
    ∙ (ap (λ (x : State). sync_of x w) e4 ∙ sync_here z3.syncs w (in_flight k (Checked c js (active_of s.store c))))))

-- A list of which nothing can be is empty.
none_at_all : {X : Type 0} (xs : List X) → AllByRecursion (λ (x : X). ⊥) xs → xs ≡ []
none_at_all [] n = refl
none_at_all (x ∷ xs) n = absurd n.0

-- So is one in which nothing is.
none_in : (rs : List JobRef) → ((r : JobRef) → IsIn r rs → ⊥) → rs ≡ []
none_in [] n = refl
none_in (r ∷ rs) n = absurd (n r (inl refl))

-- ---- how long it is

-- So many calls more.
run_length : (window w : ℕ) (calls : List Call) (h : List Told)
    → length (run window w h calls) ≡ length calls + length h
run_length window w [] h = omega arith
run_length window w (call ∷ calls) h =
    let e = run_length window w calls (entry window h w call ∷ h) in omega (arith, e)

-- A call for each step, and the end.
left_length : (reasons : List Reason) (xs : List Step) → length (calls_left reasons xs) ≡ length xs + 1
left_length reasons [] = refl
left_length reasons (drops r ∷ xs) = let e = left_length reasons xs in omega (arith, e)
left_length reasons (makes d ∷ xs) = let e = left_length reasons xs in omega (arith, e)
left_length reasons (sets st ∷ xs) = let e = left_length reasons xs in omega (arith, e)

-- With nothing to drop there are two steps at most.
few_steps : (ds cs : List JobRef) (o : Option JobDraft) (st : Option CronStatus) → ds ≡ [] → cs ≡ []
    → length (map_list drops ds ++ (makings o ++ (map_list drops cs ++ settings st))) ≤ 2
few_steps (r ∷ ds) cs o st e f = absurd (cc e)
few_steps [] (r ∷ cs) o st e f = absurd (cc f)
few_steps [] [] None None e f = omega arith
few_steps [] [] None (Some x) e f = omega arith
few_steps [] [] (Some d) None e f = omega arith
few_steps [] [] (Some d) (Some x) e f = omega arith

-- ---- what is dropped

-- Where nothing runs, nothing is dropped first.
none_dropped : (p : Policy) (running dropped : List JobRef) → IsAllowed p running dropped → running ≡ [] → dropped ≡ []
none_dropped Allow running dropped a e = a
none_dropped Forbid running dropped a e = a.1
none_dropped Replace running dropped a e = a ∙ e

-- Where no write was fed to it, the listing has no Job.
pub none_listed : (window : ℕ) (k : Place) (h : List Told) → IsLegal window h → fed window h ≡ 0
    → listed_of (state_of window h) k ≡ []
none_listed window k h l unfed =
    ap (λ (js : List Job). filter (is_job_of k) js)
    (none_at_all (map.values (state_of window h).mirror.jobs)
    (values_all (λ (x : Job). x.key) (λ (x : Job). true) (λ (x : Job). ⊥) (state_of window h).mirror.jobs none))
  where
    empty : earliest (fed window h) (writes h) ≡ []
    empty = ap (λ (n : ℕ). earliest n (writes h)) unfed ∙ drop_all (length (writes h) - 0) (writes h) (omega arith)

    none : (q : Place) (x : Job) → map.get (state_of window h).mirror.jobs q ≡ Some x → ⊥
    none q x e =
        let f : ◌≡◌ {A = Option Job} None (Some x) =
        sym ((mirror_agrees window h l).jobs q ∙ ap (λ (ws : List Event). current_job ws q) empty) ∙ e in
        absurd (cc f)

-- ---- what such calls leave

-- a call of a sync after its Take
abbrev is_later : Call → Bool
is_later (Of.Finish Well rs) = true
is_later call = keeps_key call

-- each of these is one
abbrev AreLater : List Call → Type 0
AreLater calls = AllByRecursion (λ (c : Call). is_later c ≡ true) calls

-- Those after a claim are.
left_later : (reasons : List Reason) (xs : List Step) → AreLater (calls_left reasons xs)
left_later reasons [] = (refl, tt)
left_later reasons (drops r ∷ xs) = (refl, left_later reasons xs)
left_later reasons (makes d ∷ xs) = (refl, left_later reasons xs)
left_later reasons (sets st ∷ xs) = (refl, left_later reasons xs)

-- Such a call feeds the listing nothing.
later_unfed : (window n was : ℕ) (call : Call) (a : Result Reply Refusal) → is_later call ≡ true
    → fed_after window n was call a ≡ was
later_unfed window n was Of.SeeCron a i = refl
later_unfed window n was Of.SeeJobs a i = refl
later_unfed window n was Of.SeeActive a i = refl
later_unfed window n was (Of.Claim p) a i = refl
later_unfed window n was Of.DropNext a i = refl
later_unfed window n was Of.MakeNext a i = refl
later_unfed window n was Of.SetStatus a i = refl
later_unfed window n was (Of.Finish Well rs) a i = refl
later_unfed window n was call a i = absurd (cc i)

-- Nor do several.
run_unfed : (window w : ℕ) (calls : List Call) (h : List Told) → AreLater calls
    → fed window (run window w h calls) ≡ fed window h
run_unfed window w [] h a = refl
run_unfed window w (call ∷ calls) h a =
    let e = entry window h w call in
    run_unfed window w calls (e ∷ h) a.1
    ∙ later_unfed window (version (writes h)) (fed window h) call e.answer a.0

-- They leave the sync of another worker.
run_aside : (window w v : ℕ) (calls : List Call) (h : List Told) → (v == w) ≡ false
    → sync (run window w h calls) v ≡ sync h v
run_aside window w v [] h n = refl
run_aside window w v (call ∷ calls) h n =
    let e = entry window h w call in
    run_aside window w v calls (e ∷ h) n
    ∙ ap (λ (b : Bool). cond b (sync_after (sync h v) call e.answer) (sync h v)) n

-- Such a call adds and takes no key.
later_of : (k : Place) (o : Option InFlight) (call : Call) (a : Result Reply Refusal) → is_later call ≡ true
    → IsOfKey k (deed o call a)
later_of k o call (Err e) i = tt
later_of k o Of.SeeCron (Ok r) i = tt
later_of k o Of.SeeJobs (Ok r) i = tt
later_of k o Of.SeeActive (Ok r) i = tt
later_of k o (Of.Claim p) (Ok r) i = tt
later_of k o Of.DropNext (Ok r) i = tt
later_of k o Of.MakeNext (Ok r) i = tt
later_of k o Of.SetStatus (Ok r) i = tt
later_of k o (Of.Finish Well rs) (Ok Say.Done) i = tt
later_of k o (Of.Finish Well rs) (Ok r) i = tt
later_of k o call (Ok r) i = absurd (cc i)

-- Nor do several.
run_alone : (window w : ℕ) (k : Place) (calls : List Call) (h : List Told) → AreLater calls
    → IsAlone (operations h) k → IsAlone (operations (run window w h calls)) k
run_alone window w k [] h a x = x
run_alone window w k (call ∷ calls) h a x =
    let e = entry window h w call in
    run_alone window w k calls (e ∷ h) a.1
    (alone_with (operations h) (operation h e) k (later_of k (sync h w) call e.answer a.0) x)

-- For finish_done: by the test whether all steps are made.
over_done : (s : State) (w : ℕ) (k : Place) (work : Work) (b : Bool) → is_ok (finish_work s w k work b).answer ≡ true
    → (finish_work s w k work b).answer ≡ Ok Say.Done
over_done s w k work true i = refl
over_done s w k work false i = absurd (cc i)

-- For finish_done: by the phase.
phase_done : (s : State) (w : ℕ) (k : Place) (p : Phase) → is_ok (finish_well s w k p).answer ≡ true
    → (finish_well s w k p).answer ≡ Ok Say.Done
phase_done s w k (Works work) i = over_done s w k work (is_over (step_at work.plan.steps work.place)) i
phase_done s w k p i = absurd (cc i)

-- For finish_done: by the sync.
sync_done : (s : State) (w : ℕ) (o : Option InFlight) → is_ok (by_sync s (finish_in s w Well) o).answer ≡ true
    → (by_sync s (finish_in s w Well) o).answer ≡ Ok Say.Done
sync_done s w None i = absurd (cc i)
sync_done s w (Some x) i = phase_done s w x.key x.phase i

-- An accepted Finish is answered that it is done.
finish_done : (s : State) (w : ℕ) (rs : List Reason) → is_ok (step_of s (worker w) (Of.Finish Well rs)).answer ≡ true
    → (step_of s (worker w) (Of.Finish Well rs)).answer ≡ Ok Say.Done
unfolding step_of finish
finish_done s w rs i = sync_done s w (sync_of s w) i

-- After the calls that are left to a sync nobody holds its key.
run_freed : (window w : ℕ) (k : Place) (q : Option Place) (P : List Told → Type 0) (reasons : List Reason)
    (xs : List Step) (h : List Told)
    → IsLegal window h → Holds h w k → Leads window w k q h (calls_left reasons xs) P
    → holder (operations (run window w h (calls_left reasons xs))) k ≡ None
run_freed window w k q P reasons [] h l x f =
    freed window h l k Well (entry window h w (Of.Finish Well reasons)) (record {
      sits = x.sits;
      held = x.held;
      key = x.key;
      reasons = reasons;
      call = refl;
      answer = finish_done (state_of window h) w reasons (f [] l tt).0;
    })
run_freed window w k q P reasons (drops r ∷ xs) h l x f =
    let y = f [] l tt in
    run_freed window w k q P reasons xs (entry window h w Of.DropNext ∷ h)
    (refl, ok_entered (answer_of window h (worker w) Of.DropNext) y.0, l) (holds_own window w k Of.DropNext h refl x) y.1
run_freed window w k q P reasons (makes d ∷ xs) h l x f =
    let y = f [] l tt in
    run_freed window w k q P reasons xs (entry window h w Of.MakeNext ∷ h)
    (refl, ok_entered (answer_of window h (worker w) Of.MakeNext) y.0, l) (holds_own window w k Of.MakeNext h refl x) y.1
run_freed window w k q P reasons (sets st ∷ xs) h l x f =
    let y = f [] l tt in
    run_freed window w k q P reasons xs (entry window h w Of.SetStatus ∷ h)
    (refl, ok_entered (answer_of window h (worker w) Of.SetStatus) y.0, l) (holds_own window w k Of.SetStatus h refl x)
    y.1

-- ---- a sync without others

-- h is a history after which the worker w may begin a sync of the key k, whose CronJob is cron,
-- isn't suspended, and has the schedule s.
module _ (window w : ℕ) (k : Place) (cron : CronJob) (h : List Told) (l : IsLegal window h)
    (ready : IsReady window h w k cron) (runs : cron.spec.suspend ≡ false) (s : Sets)
    (reads : IsSchedule cron.spec.schedule s) where
  -- the history after the Take
  abbrev pub took : List Told
  took = entry window h w Of.Take ∷ h

  -- the history after the readings
  abbrev pub seen : List Told
  seen = run window w took readings

  -- what the readings lead to
  pub after_readings : IsLegal window seen × IsRead w k cron (state_of window seen)
  after_readings =
      run_leads window w k None (λ g. IsRead w k cron (state_of window g)) readings took
      (taken_legal window h w k cron l ready)
      (reads_on window h w k cron l ready)

  -- The Jobs that stand are those before.
  pub same_jobs : (q : Place) → map.get (state_of window seen).store.jobs q ≡ current_job (writes h) q
  same_jobs q =
      (store_agrees window seen after_readings.0).jobs q
      ∙ ap (λ (ws : List Event). current_job ws q) (read_writes window w h)

  -- There is a plan for what was read, at any moment and in any zone.
  pub some_plan_then : (z : Zone) (now : ℕ) → (p : Planned) × IsFor seen w k p × (p.zone ≡ Some z) × (p.at ≡ now)
  some_plan_then z now = some_plan_for window w k cron seen after_readings.0 after_readings.1 runs s reads z now

  -- p is a plan for what was read, in the zone z.
  module _ (p : Planned) (f : IsFor seen w k p) (z : Zone) (known : p.zone ≡ Some z) where
    -- the history after the sync
    abbrev pub synced_at : List Told
    synced_at = run window w seen (works_off p)

    plan_is : p.cron ≡ Some cron
    plan_is = sym (ap seen_in (sym after_readings.1.sync ∙ (syncs_agree window seen after_readings.0 w ∙ f.rests)))

    plan : IsPlan (Some cron) p.jobs p.active p.at p.zone p.steps
    plan = plan_of p cron f.decided plan_is

    -- Its live read is what stands of the active names.
    pub live_is : p.active ≡ active_of (state_of window seen).store (Some cron)
    live_is =
        sym (ap live_in (sym after_readings.1.sync ∙ (syncs_agree window seen after_readings.0 w ∙ f.rests)))
        ∙ after_readings.1.found

    -- None was missed, or one was the latest.
    pub either_missed : NoneOrLatest s z (window_of cron p.at) p.at
    either_missed = none_or_latest cron p.jobs p.active p.at p.zone p.steps s z plan runs known reads

    -- Where its calls are accepted nobody holds the key after them.
    leaves_free : (q : Option Place) (P : List Told → Type 0) → Leads window w k q seen (works_off p) P
        → holder (operations synced_at) k ≡ None
    leaves_free q P y =
        let x = y [] after_readings.0 tt in
        run_freed window w k q P p.steps.reasons (all_steps p.steps) (entry window seen w (Of.Claim p) ∷ seen)
        (refl, ok_entered (answer_of window seen (worker w) (Of.Claim p)) x.0, after_readings.0)
        (holds_own window w k (Of.Claim p) seen refl (record { sits = _; held = f.rests; key = refl })) x.1

    -- Where nothing is claimed, its calls are accepted, and no Job is made.
    pub rests_legal : p.steps.claim ≡ None → IsLegal window synced_at × (p.steps.make ≡ None)
        × (holder (operations synced_at) k ≡ None)
    rests_legal none =
        let r = plans_rest window w k cron seen after_readings.0 after_readings.1 p f none in
        ((run_leads window w k None _ (works_off p) seen after_readings.0 r.1).0, r.0, leaves_free None _ r.1)

    -- Where none was missed, nothing is claimed.
    pub none_claimed : missed_count s z (window_of cron p.at) p.at ≡ 0 → p.steps.claim ≡ None
    none_claimed none =
        (plans_stay window w k cron seen after_readings.0 after_readings.1 p f (unmissed z s runs known reads none)).0

    -- Where the policy doesn't let a Job start, nothing is claimed.
    pub forbids_claim : (IsLet cron.spec.policy (running_of cron p.active) → ⊥) → p.steps.claim ≡ None
    forbids_claim never = by either_missed
      where
        by : NoneOrLatest s z (window_of cron p.at) p.at → p.steps.claim ≡ None
        by (inl none) = none_claimed none
        by (inr (time, latest)) =
            let both = forbids_by cron.spec.policy (running_of cron p.active) never in
            let due : IsClaimed cron p.at z time = record { sets = s; schedule = reads; latest = latest } in
            (plans_stay window w k cron seen after_readings.0 after_readings.1 p f
            (forbidden z time runs known due both.0 both.1)).0

    -- where the policy lets it start a Job for the latest time missed
    open_at : (time : ℕ) → IsLatestDue s z (window_of cron p.at) p.at time
        → IsLet cron.spec.policy (running_of cron p.active) → IsOpen cron p time
    open_at time latest allowed = record {
      runs = runs;
      zone = z;
      known = known;
      latest = record { sets = s; schedule = reads; latest = latest };
      allowed = allowed;
    }

    -- Where a time is missed, and its Job's name is free, its calls are accepted, and the Job is made.
    pub makes_legal : (time : ℕ) → IsLatestDue s z (window_of cron p.at) p.at time
        → IsLet cron.spec.policy (running_of cron p.active)
        → map.get (state_of window seen).store.jobs (made_place cron.key time) ≡ None
        → IsLegal window synced_at × IsMade p k cron time (state_of window synced_at).store
        × (holder (operations synced_at) k ≡ None)
    makes_legal time latest allowed free =
        let r = plans_make_job window w k cron seen after_readings.0 after_readings.1 p time f
        (open_at time latest allowed) free in
        let x = run_leads window w k (Some (made_place cron.key time)) _ (works_off p) seen after_readings.0 r in
        (x.0, x.1, leaves_free (Some (made_place cron.key time)) _ r)

    -- The sync took place undisturbed.
    pub is_sync : (m : Moment) → p.at ≡ instant_of m → IsSaid m cron.spec.policy (running_of cron p.active)
        → IfSome (name_of p) (λ q. map.get (state_of window seen).store.jobs q ≡ None)
        → IsSync window k z m h synced_at
    is_sync m at said free = record {
      worker = w;
      cron = cron;
      ready = ready;
      read = seen;
      reads = run_led window w k None readings took;
      plan = p;
      decides = f;
      at = at;
      zone = known;
      said = said;
      free = free;
      works = run_led window w k (name_of p) (works_off p) seen;
    }

    -- The listing is fed nothing.
    pub leaves_unfed : fed window synced_at ≡ fed window h
    leaves_unfed =
        run_unfed window w (works_off p) seen (refl, left_later p.steps.reasons (all_steps p.steps))
        ∙ run_unfed window w readings took (refl, (refl, (refl, tt)))

    -- The syncs of other workers are left.
    pub leaves_aside : (v : ℕ) → (v == w) ≡ false → sync synced_at v ≡ sync h v
    leaves_aside v n =
        let e : Told = entry window h w Of.Take in
        run_aside window w v (works_off p) seen n
        ∙ (run_aside window w v readings took n
        ∙ ap (λ (b : Bool). cond b (sync_after (sync h v) e.call e.answer) (sync h v)) n)

    -- No other key is added or taken.
    pub leaves_alone : IsAlone (operations h) k → IsAlone (operations synced_at) k
    leaves_alone x =
        let take : answer_of window h (worker w) Of.Take ≡ Ok (Say.Key k) =
        ap (λ (m : Handled). m.answer)
        (take_is (state_of window h) w k (syncs_agree window h l w ∙ ready.idle) ready.line)
        in
        let o : IsOfKey k (deed (sync h w) Of.Take (answer_of window h (worker w) Of.Take)) =
        subst (λ (r : Result Reply Refusal). IsOfKey k (deed (sync h w) Of.Take r)) (sym take) refl in
        run_alone window w k (works_off p) seen (refl, left_later p.steps.reasons (all_steps p.steps))
        (run_alone window w k readings took (refl, (refl, (refl, tt)))
        (alone_with (operations h) (operation h (entry window h w Of.Take)) k o x))

    -- Its plan is decided.
    pub is_planned : ArePlanned h → ArePlanned synced_at
    is_planned h = run_planned window w (works_off p) seen (f.decided, left_planned p.steps.reasons (all_steps p.steps))
        (run_planned window w readings took (tt, (tt, (tt, tt))) (tt, h))

    -- Where none was listed, none is cleaned up.
    uncleaned : fed window h ≡ 0 → p.steps.cleanup ≡ []
    uncleaned unfed = none_in p.steps.cleanup (λ r i.
        let c = cleans_finished cron p.jobs p.active p.at p.zone p.steps plan r i in
        absurd (subst (λ (js : List Job). IsIn c.job js) unlisted c.listed))
      where
        unlisted : p.jobs ≡ []
        unlisted =
            ap listed_in
            (sym f.rests ∙ (sym (syncs_agree window seen after_readings.0 w) ∙ saw window w k h cron l ready))
            ∙ none_listed window k h l unfed

    -- And where none is claimed, or none runs, none is dropped first.
    pub undropped : (p.steps.claim ≡ None) ⊎ (running_of cron p.active ≡ []) → p.steps.drop_first ≡ []
    undropped (inl none) = (no_claim (Some cron) p.jobs p.active p.at p.zone p.steps plan none).drops
    undropped (inr alone) = by p.steps.claim refl
      where
        by : (o : Option Claim) → p.steps.claim ≡ o → p.steps.drop_first ≡ []
        by None e = (no_claim (Some cron) p.jobs p.active p.at p.zone p.steps plan e).drops
        by (Some y) e =
            let start : Starting p cron y = starting p cron y f.decided plan_is e in
            none_dropped cron.spec.policy (running_of cron p.active) p.steps.drop_first start.allowed alone

    -- Then the history has nine entries more at most.
    pub is_short : fed window h ≡ 0 → p.steps.drop_first ≡ [] → length synced_at ≤ length h + 9
    is_short unfed none =
        let e = run_length window w (works_off p) seen in
        let f = run_length window w readings took in
        let g = left_length p.steps.reasons (all_steps p.steps) in
        let few = few_steps p.steps.drop_first p.steps.cleanup p.steps.make p.steps.status none (uncleaned unfed) in
        omega (arith, e, f, g, few)
