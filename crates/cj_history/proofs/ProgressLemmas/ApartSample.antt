-- A history after which a sync took place without others is one that leaves a CronJob to its syncs.
use Rattle.std.proofs.Common.{◌≡◌, ℕ, ◌+◌, ◌≤◌, Bool, true, false, List, [], ◌∷◌, ◌++◌, Option, Some, None, refl, sym, ap, subst, ◌∙◌}
use Rattle.std.specs.Prelude.{IfSome, Result, Ok, Err}
use Rattle.cj_base.specs.declared.refusal.Refusal.{Refusal}
use Rattle.cj_types.specs.Keys.{Place}
use Rattle.cj_types.specs.Made.{made_place}
use Rattle.cj_types.specs.declared.cron.CronJob.{CronJob}
use Rattle.cj_types.specs.declared.cron.CronJobDraft.{CronJobDraft}
use Rattle.cj_types.specs.declared.event.Event.{Event}
use Rattle.cj_schedule.specs.Grammar.{IsSchedule}
use Rattle.cj_schedule.specs.Matches.{Sets}
use Rattle.cj_zone.specs.declared.zone.Zone.{Zone}
use Rattle.cj_decide.specs.Decision.{Planned}
use Rattle.cj_calls.specs.Rows.{Told}
use Rattle.cj_calls.specs.declared.caller.Role.{Role}
use Rattle.cj_calls.specs.declared.caller.Role.TheVariants.{Informer}
use Rattle.cj_calls.specs.declared.call.Call.{Call}
use Rattle.cj_calls.specs.declared.call.Call.TheVariants as Of
use Rattle.cj_calls.specs.declared.end.End.TheVariants.{Well}
use Rattle.cj_calls.specs.declared.reply.Reply.{Reply}
use Rattle.cj_calls.specs.declared.reply.Reply.TheVariants as Is
use Rattle.cj_state.specs.phases.Steps.{Step, drops, makes, sets, all_steps}
use Rattle.cj_state.specs.declared.phases.sync.Work.{Work}
use Rattle.cj_state.specs.declared.phases.sync.Phase.{Phase}
use Rattle.cj_state.specs.declared.phases.sync.Phase.TheVariants.{Checked, Works}
use Rattle.cj_state.specs.declared.phases.sync.InFlight.{InFlight}
use Rattle.cj_state.specs.Legal.{IsLegal, answer_of, state_of}
use Rattle.cj_world_laws.specs.legal.InFlightSyncs.{sync}
use Rattle.cj_world_laws.specs.once.Once.{is_ok}
use Rattle.cj_world_laws.proofs.LegalLemmas.HeldSyncs.{one_holder}
use Rattle.cj_history.specs.store.Writes.{entry_written, writes}
use Rattle.cj_history.specs.progress.Undisturbed.{worker, entry, Leads, object_of, is_of}
use Rattle.cj_history.specs.progress.Syncs.{calls_left, readings, works_off, IsFor}
use Rattle.cj_history.specs.progress.Every.{name_of}
use Rattle.cj_history.specs.progress.Apart.{EndsWell, IsOnTime, ClaimsOnTime, KeepsApart, KeepApart}
use Rattle.cj_history.proofs.StoreLemmas.Sample.{a, told, created, new}
use Rattle.cj_history.proofs.ProgressLemmas.Calls.{in_flight}
use Rattle.cj_history.proofs.ProgressLemmas.Aside.{ok_entered}
use Rattle.cj_history.proofs.ProgressLemmas.Started.{IsRead}
use Rattle.cj_history.proofs.ProgressLemmas.Whole.{taken_legal, sits_down, reads_on}
use Rattle.cj_history.proofs.ProgressLemmas.SyncSample.{ready, legal_ready, is_ready, takes}
use Rattle.cj_history.proofs.ProgressLemmas.Others as others
use Rattle.cj_history.proofs.ProgressLemmas.Led.{holds_own}
use Rattle.cj_history.proofs.ProgressLemmas.EverySample.{seen, legal_seen, all_free}
use Rattle.cj_history.proofs.ProgressLemmas.Runs.{run}
use Rattle.cj_history.proofs.ProgressLemmas.Moves.{Moves, sees, lists, checks, starts, goes_on, ends, gives_up, moves}

-- the phase of a sync, or another
abbrev phase_in : Phase → Option InFlight → Phase
phase_in other None = other
phase_in other (Some x) = x.phase

-- whether a call ends a sync
abbrev is_end : Call → Bool
is_end (Of.Finish end reasons) = true
is_end call = false

-- k is the key of the CronJob cron, q the Job's name, if one is named, z a zone, and t a moment.
module _ (window w : ℕ) (k : Place) (q : Option Place) (cron : CronJob) (z : Zone) (t : ℕ) where
  -- An accepted call of the worker that holds the key keeps to that.
  own_apart : (h : List Told) (call : Call) (p : Phase) → IsLegal window h → sync h w ≡ Some (in_flight k p)
      → is_ok (answer_of window h (worker w) call) ≡ true
      → EndsWell call p → ClaimsOnTime cron z t (state_of window h).store call
      → KeepsApart window k cron z t h (entry window h w call)
  own_apart h call p l at ok end claim = record {
    accepted = λ y. ok;
    ends = λ y. subst (EndsWell call) (ap (phase_in p) (sym at ∙ y.sync)) end;
    claims = λ y. claim;
    alone = λ n. absurd (n (record { role = refl; phase = p; sync = at }));
    aside = λ c f not n.
        let number : w ≡ c.number =
        one_holder window h l w c.number (in_flight k p) (in_flight k f.phase) at f.sync refl in
        absurd (not (ap (λ (m : ℕ). worker m) number
        ∙ ap (λ (r : Role). record { number = c.number; role = r }) (sym f.role)));
  }

  -- each of these calls does, one after the other
  abbrev pub AreOwn : List Told → List Call → Type 0
  AreOwn h [] = Unit {0}
  AreOwn h (call ∷ calls) =
      KeepsApart window k cron z t h (entry window h w call) × AreOwn (entry window h w call ∷ h) calls

  -- a history that keeps to that from another on
  pub record Kept (start g : List Told) : Type 0 where
    pub more : List Told
    pub is : g ≡ more ++ start
    pub keep : KeepApart window k cron z (λ h. t) more start

  -- So do several calls.
  run_kept : (start : List Told) (calls : List Call) (h : List Told) → Kept start h → AreOwn h calls
      → Kept start (run window w h calls)
  run_kept start [] h y own = y
  run_kept start (call ∷ calls) h y own =
      run_kept start calls (entry window h w call ∷ h) (record {
        more = entry window h w call ∷ y.more;
        is = ap (λ (g : List Told). entry window h w call ∷ g) y.is;
        keep = (
          subst (λ (g : List Told). KeepsApart window k cron z t g (entry window h w call)) y.is own.0,
          y.keep,
        );
      }) own.1

  -- ---- the steps of the plan p

  -- the worker works off a plan
  record AtWork (p : Planned) (h : List Told) : Type 0 where
    work : Work
    at : sync h w ≡ Some (in_flight k (Works work))
    is : work.plan ≡ p

  -- After a step it does still.
  at_work : (p : Planned) (h : List Told) (call : Call) → IsLegal window (entry window h w call ∷ h) → AtWork p h
      → is_ok (answer_of window h (worker w) call) ≡ true → is_end call ≡ false
      → AtWork p (entry window h w call ∷ h)
  at_work p h call l y ok not =
      by (moves window h (entry window h w call) w k (Works y.work) l refl y.at ok)
    where
      by : Moves k (Works y.work) call (sync (entry window h w call ∷ h) w) → AtWork p (entry window h w call ∷ h)
      by (sees c i f o) = absurd (cc i)
      by (lists c js i f o) = absurd (cc i)
      by (checks c js ks i f o) = absurd (cc i)
      by (starts c js ks plan v i f rests o) = absurd (cc i)
      by (ends other reasons i n f o) = absurd (cc (sym not ∙ ap is_end f))
      by (gives_up now reasons f o) = absurd (cc (sym not ∙ ap is_end f))
      by (goes_on other n i next f o) =
          let same : other ≡ y.work = cc (sym i) in
          record {
            work = record { plan = other.plan; version = other.version; place = other.place + 1 };
            at = o;
            is = ap (λ (x : Work). x.plan) same ∙ y.is;
          }

  -- The calls that are left keep to that.
  steps_own : (p : Planned) (P : List Told → Type 0) (xs : List Step) (h : List Told) → IsLegal window h → AtWork p h
      → Leads window w k q h (calls_left p.steps.reasons xs) P
      → AreOwn h (calls_left p.steps.reasons xs)
  steps_own p P [] h l y f =
      let r = f [] l tt in (
        own_apart h (Of.Finish Well p.steps.reasons) (Works y.work) l y.at r.0
            (ap (λ (x : Planned). x.steps.reasons) (sym y.is)) tt,
        tt,
      )
  steps_own p P (drops d ∷ xs) h l y f =
      let r = f [] l tt in
      let next : IsLegal window (entry window h w Of.DropNext ∷ h) =
      (refl, ok_entered (answer_of window h (worker w) Of.DropNext) r.0, l) in (
        own_apart h Of.DropNext (Works y.work) l y.at r.0 tt tt,
        steps_own p P xs (entry window h w Of.DropNext ∷ h) next (at_work p h Of.DropNext next y r.0 refl) r.1,
      )
  steps_own p P (makes d ∷ xs) h l y f =
      let r = f [] l tt in
      let next : IsLegal window (entry window h w Of.MakeNext ∷ h) =
      (refl, ok_entered (answer_of window h (worker w) Of.MakeNext) r.0, l) in (
        own_apart h Of.MakeNext (Works y.work) l y.at r.0 tt tt,
        steps_own p P xs (entry window h w Of.MakeNext ∷ h) next (at_work p h Of.MakeNext next y r.0 refl) r.1,
      )
  steps_own p P (sets d ∷ xs) h l y f =
      let r = f [] l tt in
      let next : IsLegal window (entry window h w Of.SetStatus ∷ h) =
      (refl, ok_entered (answer_of window h (worker w) Of.SetStatus) r.0, l) in (
        own_apart h Of.SetStatus (Works y.work) l y.at r.0 tt tt,
        steps_own p P xs (entry window h w Of.SetStatus ∷ h) next (at_work p h Of.SetStatus next y r.0 refl) r.1,
      )

  -- Where the worker claimed its plan, it works it off.
  claimed : (p : Planned) (h : List Told) → IsLegal window (entry window h w (Of.Claim p) ∷ h) → IsFor h w k p
      → is_ok (answer_of window h (worker w) (Of.Claim p)) ≡ true → AtWork p (entry window h w (Of.Claim p) ∷ h)
  claimed p h l f ok =
      by (moves window h (entry window h w (Of.Claim p)) w k (Checked p.cron p.jobs p.active) l refl f.rests ok)
    where
      by : Moves k (Checked p.cron p.jobs p.active) (Of.Claim p) (sync (entry window h w (Of.Claim p) ∷ h) w)
          → AtWork p (entry window h w (Of.Claim p) ∷ h)
      by (sees c i g o) = absurd (cc i)
      by (lists c js i g o) = absurd (cc i)
      by (checks c js ks i g o) = absurd (cc i)
      by (goes_on other n i next g o) = absurd (cc i)
      by (ends other reasons i n g o) = absurd (cc i)
      by (gives_up now reasons g o) = absurd (cc g)
      by (starts c js ks plan v i g rests o) =
          record { work = record { plan = plan; version = v; place = 0 }; at = o; is = cc (sym g) }

  -- The claim of a plan that is on time, and what follows, keep to that.
  pub works_own : (p : Planned) (P : List Told → Type 0) (h : List Told) → IsLegal window h → IsFor h w k p
      → Leads window w k q h (works_off p) P → IsOnTime cron z t (state_of window h).store p
      → AreOwn h (works_off p)
  works_own p P h l f lead time =
      let r = lead [] l tt in
      let next : IsLegal window (entry window h w (Of.Claim p) ∷ h) =
      (refl, ok_entered (answer_of window h (worker w) (Of.Claim p)) r.0, l) in (
        own_apart h (Of.Claim p) (Checked p.cron p.jobs p.active) l f.rests r.0 tt time,
        steps_own p P (all_steps p.steps) (entry window h w (Of.Claim p) ∷ h) next (claimed p h next f r.0) r.1,
      )

  -- A reading keeps to that.
  reading_own : (h : List Told) (call : Call) → IsLegal window h → others.Holds h w k
      → is_ok (answer_of window h (worker w) call) ≡ true → ((p : Phase) → EndsWell call p)
      → ClaimsOnTime cron z t (state_of window h).store call → KeepsApart window k cron z t h (entry window h w call)
  reading_own h call l f ok end claim =
      own_apart h call f.sits.phase l
      (f.held ∙ ap (λ (i : Place). Some (in_flight i f.sits.phase)) f.key) ok (end f.sits.phase) claim

  -- So do the readings.
  pub readings_own : (P : List Told → Type 0) (h : List Told) → IsLegal window h → others.Holds h w k
      → Leads window w k q h readings P → AreOwn h readings
  readings_own P h l f lead =
      let a = entry window h w Of.SeeCron in
      let b = entry window (a ∷ h) w Of.SeeJobs in
      let x = lead [] l tt in
      let l1 : IsLegal window (a ∷ h) = (refl, ok_entered (answer_of window h (worker w) Of.SeeCron) x.0, l) in
      let f1 = holds_own window w k Of.SeeCron h refl f in
      let y = x.1 [] l1 tt in
      let l2 : IsLegal window (b ∷ a ∷ h) =
      (refl, ok_entered (answer_of window (a ∷ h) (worker w) Of.SeeJobs) y.0, l1) in
      let f2 = holds_own window w k Of.SeeJobs (a ∷ h) refl f1 in
      let u = y.1 [] l2 tt in (
        reading_own h Of.SeeCron l f x.0 (λ p. tt) tt,
        (
          reading_own (a ∷ h) Of.SeeJobs l1 f1 y.0 (λ p. tt) tt,
          (reading_own (b ∷ a ∷ h) Of.SeeActive l2 f2 u.0 (λ p. tt) tt, tt),
        ),
      )

-- ---- a sync

-- A Take writes nothing.
take_spares : (ws : List Event) (o : Option InFlight) (x : Result Reply Refusal) (k : Place) (q : Option Place)
    → IfSome (entry_written ws o Of.Take x) (λ y. is_of k q (object_of y) ≡ false)
take_spares ws o (Ok r) k q = tt
take_spares ws o (Err e) k q = tt

-- d is the draft of a CronJob that isn't suspended, with a schedule; p is a plan for what was read,
-- in the zone and of the moment, which makes a Job, or none.
module _ (d : CronJobDraft) (runs : d.spec.suspend ≡ false) (s : Sets) (reads : IsSchedule d.spec.schedule s)
    (z : Zone) (t : ℕ) (late : 60 ≤ t) (p : Planned)
    (f : IsFor (seen d runs s reads z t late) 5 a p) (known : p.zone ≡ Some z) (at : p.at ≡ t)
    (P : List Told → Type 0)
    (lead : Leads 3 5 a (name_of p) (seen d runs s reads z t late) (works_off p) P) where
  abbrev c : CronJob
  c = new d 1 1

  -- The creation is followed by an Add of the key, and a Take of it.
  after_take : Kept 3 5 a None c z t (created d) (entry 3 (ready d) 5 Of.Take ∷ ready d)
  after_take =
      let ws : List Event = writes (ready d) in
      let x : Result Reply Refusal = answer_of 3 (ready d) (worker 5) Of.Take in
      record {
        more = entry 3 (ready d) 5 Of.Take ∷ told 2 Informer (Of.Add a) (Ok Is.Done) ∷ [];
        is = refl;
        keep = (
          record {
            accepted = λ y. takes d;
            ends = λ y. tt;
            claims = λ y. tt;
            alone = λ n. take_spares ws (sync (ready d) 5) x a None;
            aside = λ v g not n. take_spares ws (sync (ready d) 5) x a (Some (made_place a n));
          },
          (
            record {
              accepted = λ y. refl;
              ends = λ y. tt;
              claims = λ y. tt;
              alone = λ n. tt;
              aside = λ v g not n. tt;
            },
            tt,
          ),
        );
      }

  -- Then come the readings,
  after_seen : Kept 3 5 a None c z t (created d) (seen d runs s reads z t late)
  after_seen =
      run_kept 3 5 a None c z t (created d) readings (entry 3 (ready d) 5 Of.Take ∷ ready d) after_take
      (readings_own 3 5 a None c z t (λ g. IsRead 5 a c (state_of 3 g)) (entry 3 (ready d) 5 Of.Take ∷ ready d)
      (taken_legal 3 (ready d) 5 a c (legal_ready d) (is_ready d))
      (record { sits = _; held = sits_down 3 (ready d) 5 a c (legal_ready d) (is_ready d); key = refl })
      (reads_on 3 (ready d) 5 a c (legal_ready d) (is_ready d)))

  -- and what the plan says: each entry leaves the CronJob to its syncs.
  pub sample_apart : Kept 3 5 a (name_of p) c z t (created d)
      (run 3 5 (seen d runs s reads z t late) (works_off p))
  sample_apart =
      run_kept 3 5 a (name_of p) c z t (created d) (works_off p) (seen d runs s reads z t late)
      (record { more = after_seen.more; is = after_seen.is; keep = after_seen.keep })
      (works_own 3 5 a (name_of p) c z t p P (seen d runs s reads z t late)
      (legal_seen d runs s reads z t late) f lead
      (record { at = at; zone = λ x g e. known; free = all_free d runs s reads z t late (name_of p) }))
