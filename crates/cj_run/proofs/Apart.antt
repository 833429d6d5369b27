-- In a run nobody but workers and the informer calls while a key is held, so that a CronJob is left
-- to its syncs.
use Rattle.std.proofs.Common.{◌≡◌, ◌≢◌, ◌⊎◌, inl, inr, ◌∙◌, ◌+◌, ◌-◌, ◌*◌, ◌<◌, ◌≤◌, ◌==◌, ◌&&◌, ◌||◌, ℕ, zero, suc, Bool, true, false, List, [], ◌∷◌, ◌++◌, length, Option, Some, None, unwrap_or, refl, sym, ap, subst, arith}
use Rattle.std.specs.Prelude.{Result, Ok, Err, if◌then◌else◌, max}
use Rattle.std.specs.FinMap as map
use Rattle.std.specs.Ordering.{nat_cmp}
use Rattle.std.proofs.lemmas.Bool.{eqb-true, false≢true}
use Rattle.std.proofs.lemmas.List.Elements.{All-head, All-tail}
use Rattle.cj_base.specs.declared.refusal.Refusal.{Refusal}
use Rattle.cj_types.specs.Keys.{Place}
use Rattle.cj_types.specs.Made.{made_place}
use Rattle.cj_types.specs.Uids.{last_uid}
use Rattle.cj_types.specs.declared.cron.CronJob.{CronJob}
use Rattle.cj_types.specs.declared.cron.CronSpec.{CronSpec}
use Rattle.cj_zone.specs.declared.table.ZoneTable.{ZoneTable}
use Rattle.cj_zone.specs.declared.zone.Zone.{Zone}
use Rattle.cj_decide.specs.Decision.{Planned}
use Rattle.cj_calls.specs.Rows.{Told}
use Rattle.cj_calls.specs.declared.call.Call.{Call}
use Rattle.cj_calls.specs.declared.call.Call.TheVariants as Of
use Rattle.cj_calls.specs.declared.caller.Caller.{Caller}
use Rattle.cj_calls.specs.declared.caller.Role.{Role}
use Rattle.cj_calls.specs.declared.caller.Role.TheVariants.{Informer, Runner, User, Worker}
use Rattle.cj_calls.specs.declared.reply.Reply.{Reply}
use Rattle.cj_state.specs.Legal.{IsLegal, ArePlanned, state_of}
use Rattle.cj_state.specs.declared.phases.sync.InFlight.{InFlight}
use Rattle.cj_world_laws.specs.legal.InFlightSyncs.{sync, sync_after}
use Rattle.cj_world_laws.specs.legal.Rest.{IsAtRest}
use Rattle.cj_world_laws.specs.once.Once.{is_ok}
use Rattle.cj_world_laws.proofs.LegalLemmas.Callers.{idle}
use Rattle.cj_world_laws.proofs.LegalLemmas.HeldSyncs.{syncs_agree, one_holder}
use Rattle.cj_worker.specs.Zoned.{zone_for}
use Rattle.cj_history.specs.progress.Every.{looked_upto}
use Rattle.cj_history.specs.progress.Apart.{Holds, IsFree, ClaimsOnTime, Spares, KeepsApart, KeepApart, IsClock, HaveSynced}
use Rattle.cj_history.proofs.ProgressLemmas.Makers.{Good, earlier}
use Rattle.cj_history.proofs.ProgressLemmas.Since.{Fresh, fresh_new, every_time_since}
use Rattle.cj_history.proofs.ProgressLemmas.Apart.{syncs_go_on}
use Rattle.cj_history.proofs.ProgressLemmas.Spared.{cron_spared, job_spared}
use Rattle.cj_script.specs.simulation.Spans.{SpanView, instant}
use Rattle.cj_script.specs.declared.simulation.scenario.Simulation.{Simulation}
use Rattle.cj_world.specs.Worlds.{WorldLog}
use Rattle.cj_schedule.specs.Matches.{Sets}
use Rattle.cj_history.specs.progress.Every.{IsNew}
use Rattle.cj_run.specs.Runs.{IsRun}
use Rattle.cj_run.specs.Simulations.{AreTimed}
use Rattle.cj_run.specs.Syncs.{moment, next_moment, HasFreeName, IsUntroubled, AreUntroubled, AreSyncs, LeavesAlone, RunSyncs}
use Rattle.cj_run.specs.Turns.{are_timely, begins, edits, ends, is_before, is_moment, is_timely, is_within, progress, progress_of, turn}
use Rattle.cj_run.specs.Upkeep.{ComesToRest, KeepsUp, is_over_with}
use Rattle.cj_run.specs.Zones.{AreZoned, HasZone}
use Rattle.cj_run.specs.declared.turns.Progress.{Progress}
use Rattle.cj_run.proofs.Ordered.{both_left, both_right}
use Rattle.cj_run.proofs.Created.{is_created}
use Rattle.cj_run.proofs.Later.{AreSpared, are_spared}

-- ---- the clock

-- An instant that began has begun.
turns_on : (p : Progress) (starts over edit : Bool)
    → p.begun ≤ (if starts then progress (p.begun + 1) true false
    else (if over then progress p.begun false edit else p)).begun
turns_on p true over edit = omega arith
turns_on p false true edit = omega arith
turns_on p false false edit = omega arith

-- A product is no smaller for a larger factor.
pub mul_on : (a b c : ℕ) → a ≤ b → a * c ≤ b * c
mul_on zero b c l = omega arith
mul_on (suc a) zero c l = absurd (omega (arith, l))
mul_on (suc a) (suc b) c l = let r = mul_on a b c (omega (arith, l)) in omega (arith, r)

-- The instants come one after the other.
later_instant : (s : SpanView) (m n : ℕ) → m ≤ n → instant s (m - 1) ≤ instant s (n - 1)
later_instant s m n l =
    let i : m - 1 ≤ n - 1 = omega (arith, l) in
    let j = mul_on (m - 1) (n - 1) s.step i in
    omega (arith, j)

-- So the clock of a run doesn't go back.
pub is_clock : (s : SpanView) → IsClock (moment s)
is_clock s e h =
    later_instant s (turn s h) (turn s (e ∷ h))
    (turns_on (progress_of s h) (begins s (progress_of s h) e.caller.role e.call) (ends e.caller.role e.call)
    (edits e.caller.role || (progress_of s h).edited))

-- the clock of a CronJob that was created at the moment: from then on, the run's
abbrev pub clock_from : ℕ → SpanView → List Told → ℕ
clock_from created s h = max created (moment s h)

-- It doesn't go back.
pub clock_on : (created : ℕ) (s : SpanView) → IsClock (clock_from created s)
clock_on created s e h = let on = is_clock s e h in omega (arith, on)

-- With more entries no fewer instants have begun.
pub turn_on : (s : SpanView) (es start : List Told) → turn s start ≤ turn s (es ++ start)
turn_on s [] start = omega arith
turn_on s (e ∷ es) start =
    let h : List Told = es ++ start in
    let before = turn_on s es start in
    let on = turns_on (progress_of s h) (begins s (progress_of s h) e.caller.role e.call) (ends e.caller.role e.call)
    (edits e.caller.role || (progress_of s h).edited) in
    omega (arith, before, on)

-- Where none goes on, one that goes on later began since.
began_since : (s : SpanView) (es start : List Told) → (progress_of s start).on ≡ false
    → (progress_of s (es ++ start)).on ≡ true → turn s start < turn s (es ++ start)
began_since s [] start off on = absurd (false≢true (sym off ∙ on))
began_since s (e ∷ es) start off on =
    by (begins s p e.caller.role e.call) (ends e.caller.role e.call) (edits e.caller.role || p.edited)
    (began_since s es start off) (turn_on s es start) on
  where
    p : Progress
    p = progress_of s (es ++ start)

    by : (starts over edit : Bool) → (p.on ≡ true → turn s start < p.begun) → turn s start ≤ p.begun
        → (if starts then progress (p.begun + 1) true false
        else (if over then progress p.begun false edit else p)).on ≡ true
        → turn s start < (if starts then progress (p.begun + 1) true false
        else (if over then progress p.begun false edit else p)).begun
    by true over edit before more on = omega (arith, more)
    by false true edit before more on = absurd (false≢true on)
    by false false edit before more on = before on

-- Where an instant began, its moment was reached.
pub reached : (s : SpanView) (n m : ℕ) → n < m → instant s n ≤ instant s (m - 1)
reached s n m l =
    let i : n ≤ m - 1 = omega (arith, l) in
    let j = mul_on n (m - 1) s.step i in
    omega (arith, j)

-- ---- who calls

-- What ends an instant is no worker's call.
no_worker : (role : Role) (call : Call) → ends role call ≡ true → role ≢ Worker
no_worker Worker call t same = false≢true t
no_worker Runner call t same = cc same
no_worker User call t same = cc same
no_worker Informer call t same = cc same

-- An entry of one who is no worker, or a refused one, leaves each sync.
unmoved : (window : ℕ) (e : Told) (h : List Told) → IsLegal window (e ∷ h)
    → (e.caller.role ≢ Worker) ⊎ (is_ok e.answer ≡ false) → (n : ℕ) → sync (e ∷ h) n ≡ sync h n
unmoved window e h l why n = by (n == e.caller.number) why
  where
    refused : (a : Result Reply Refusal) → e.answer ≡ a → is_ok a ≡ false
        → sync_after (sync h n) e.call a ≡ sync h n
    refused (Ok r) f t = absurd (cc t)
    refused (Err x) f t = refl

    by : (b : Bool) → (e.caller.role ≢ Worker) ⊎ (is_ok e.answer ≡ false)
        → (if b then sync_after (sync h n) e.call e.answer else sync h n) ≡ sync h n
    by true (inl not) = (idle window e h l not).syncs (sync h n)
    by true (inr off) = refused e.answer refl off
    by false w = refl

-- Between two instants an entry is of one who is no worker, or is refused.
between_two : (s : SpanView) (p : Progress) (role : Role) (call : Call) (answer : Result Reply Refusal)
    → is_before s p role call answer ≡ true → (role ≢ Worker) ⊎ (is_ok answer ≡ false)
between_two s p Informer call answer t = inl (λ e. cc e)
between_two s p Runner call answer t = inl (λ e. cc e)
between_two s p User call answer t = inl (λ e. cc e)
between_two s p Worker Of.Take (Err x) t = inr refl
between_two s p Worker Of.Take (Ok r) t = absurd (false≢true t)
between_two s p Worker call answer t = absurd (false≢true t)

-- Who comes to rest did so before.
rests_front : (window : ℕ) (s : SpanView) (e : Told) (h : List Told) → ComesToRest window s (e ∷ h)
    → ComesToRest window s h
rests_front window s e h rests later before x is over =
    rests (e ∷ later) before x (ap (λ (y : List Told). e ∷ y) is) over

-- Where the world is at rest nobody has a sync.
pub none_at_rest : (window : ℕ) (h : List Told) → IsLegal window h → IsAtRest (state_of window h) → (n : ℕ)
    → sync h n ≡ None
none_at_rest window h l rest n =
    sym (syncs_agree window h l n) ∙ ap (λ m. map.get m n) rest.1 ∙ map.get-empty nat_cmp n

-- Where an entry ends an instant that goes on, nobody had a sync.
pub none_over : (window : ℕ) (s : SpanView) (e : Told) (h : List Told) → IsLegal window (e ∷ h)
    → ComesToRest window s (e ∷ h) → is_over_with s (progress_of s h) e ≡ true → (n : ℕ) → sync h n ≡ None
none_over window s e h l rests over = none_at_rest window h l.2 (rests [] h e refl over).rest

-- For none_off: by what the entry begins and ends.
off_more : (window : ℕ) (s : SpanView) (e : Told) (h : List Told) → IsLegal window (e ∷ h)
    → is_timely s (progress_of s h) e.caller.role e.call e.answer ≡ true → ComesToRest window s (e ∷ h)
    → ((progress_of s h).on ≡ false → (n : ℕ) → sync h n ≡ None)
    → (on starts over : Bool) → (progress_of s h).on ≡ on
    → begins s (progress_of s h) e.caller.role e.call ≡ starts → ends e.caller.role e.call ≡ over
    → (if starts then progress ((progress_of s h).begun + 1) true false
    else (if over then progress (progress_of s h).begun false (edits e.caller.role || (progress_of s h).edited)
    else progress_of s h)).on ≡ false
    → (n : ℕ) → sync (e ∷ h) n ≡ None
off_more window s e h l timely rests before on true over was b o off = absurd (false≢true (sym off))
off_more window s e h l timely rests before true false false was b o off = absurd (false≢true (sym off ∙ was))
off_more window s e h l timely rests before false false false was b o off = λ n.
    let p = progress_of s h in
    let is : is_before s p e.caller.role e.call e.answer ≡ true =
    sym (ap (λ (x : Bool). (x && is_within s (p.begun - 1) e.caller.role e.call)
    || is_before s p e.caller.role e.call e.answer) was) ∙ timely in
    unmoved window e h l (between_two s p e.caller.role e.call e.answer is) n ∙ before was n
off_more window s e h l timely rests before true false true was b o off = λ n.
    let p = progress_of s h in
    let over : is_over_with s p e ≡ true =
    ap (λ (x : Bool). x && (begins s p e.caller.role e.call || ends e.caller.role e.call)) was
    ∙ ap (λ (x : Bool). x || ends e.caller.role e.call) b ∙ o in
    unmoved window e h l (inl (no_worker e.caller.role e.call o)) n ∙ none_over window s e h l rests over n
off_more window s e h l timely rests before false false true was b o off = λ n.
    unmoved window e h l (inl (no_worker e.caller.role e.call o)) n ∙ before was n

-- Between two instants nobody has a sync.
pub none_off : (window : ℕ) (s : SpanView) (h : List Told) → IsLegal window h → are_timely s h ≡ true
    → ComesToRest window s h → (progress_of s h).on ≡ false → (n : ℕ) → sync h n ≡ None
none_off window s [] l timely rests off n = refl
none_off window s (e ∷ h) l timely rests off n =
    off_more window s e h l (both_right (are_timely s h) _ timely) rests
    (none_off window s h l.2 (both_left (are_timely s h) _ timely) (rests_front window s e h rests))
    (progress_of s h).on (begins s (progress_of s h) e.caller.role e.call) (ends e.caller.role e.call) refl refl refl
    off n

-- e is an entry after h of a run that comes to rest; somebody has a sync.
module _ (window : ℕ) (s : SpanView) (e : Told) (h : List Told) (l : IsLegal window (e ∷ h))
    (timely : are_timely s (e ∷ h) ≡ true) (rests : ComesToRest window s (e ∷ h)) (n : ℕ) (x : InFlight)
    (has : sync h n ≡ Some x) where
  -- Then an instant goes on.
  on_then : (progress_of s h).on ≡ true
  on_then = by (progress_of s h).on refl
    where
      by : (b : Bool) → (progress_of s h).on ≡ b → (progress_of s h).on ≡ true
      by true f = f
      by false f =
          absurd (cc (sym has ∙ none_off window s h l.2 (both_left (are_timely s h) _ timely)
          (rests_front window s e h rests) f n))

  -- What is called doesn't end it.
  not_over : ends e.caller.role e.call ≡ true → ⊥
  not_over o =
      let p = progress_of s h in
      cc (sym has ∙ none_over window s e h l rests
      (ap (λ (b : Bool). b && (begins s p e.caller.role e.call || ends e.caller.role e.call)) on_then
      ∙ ap (λ (b : Bool). begins s p e.caller.role e.call || b) o ∙ or_true (begins s p e.caller.role e.call)) n)
    where
      or_true : (b : Bool) → (b || true) ≡ true
      or_true true = refl
      or_true false = refl

  -- So it is no user's call,
  no_user_then : e.caller.role ≢ User
  no_user_then f = not_over (ap (λ (r : Role). ends r e.call) f)

  -- and no runner's.
  no_runner_then : e.caller.role ≢ Runner
  no_runner_then f = not_over (ap (λ (r : Role). ends r e.call) f)

-- A worker's claim at its time is of the moment.
at_moment : (s : SpanView) (e : Told) (h : List Told) (plan : Planned)
    → is_timely s (progress_of s h) e.caller.role e.call e.answer ≡ true → e.caller.role ≡ Worker
    → e.call ≡ Of.Claim plan → plan.at ≡ moment s h
at_moment s e h plan timely role call =
    let p = progress_of s h in
    let t : is_timely s p Worker (Of.Claim plan) e.answer ≡ true =
    subst (λ (c : Call). is_timely s p Worker c e.answer ≡ true) call
    (subst (λ (r : Role). is_timely s p r e.call e.answer ≡ true) role timely) in
    let within : is_moment s (p.begun - 1) (plan.at * 1000) ≡ true = by p.on t in
    let same : instant s (p.begun - 1) * 1000 ≡ plan.at * 1000 =
    eqb-true (instant s (p.begun - 1) * 1000) (plan.at * 1000) (both_right _ _ within) in
    omega (arith, same)
  where
    by : (on : Bool) → ((on && is_moment s ((progress_of s h).begun - 1) (plan.at * 1000)) || false) ≡ true
        → is_moment s ((progress_of s h).begun - 1) (plan.at * 1000) ≡ true
    by true t = or_false _ t
      where
        or_false : (b : Bool) → (b || false) ≡ true → b ≡ true
        or_false true f = refl
        or_false false f = f
    by false t = absurd (false≢true t)

-- ---- each entry

-- A call is a drop, or it isn't.
is_drop : (call : Call) → (call ≡ Of.DropNext) ⊎ (call ≢ Of.DropNext)
is_drop Of.DropNext = inl refl
is_drop Of.Take = inr (λ e. cc e)
is_drop Of.SeeCron = inr (λ e. cc e)
is_drop Of.SeeJobs = inr (λ e. cc e)
is_drop Of.SeeActive = inr (λ e. cc e)
is_drop (Of.Claim p) = inr (λ e. cc e)
is_drop Of.MakeNext = inr (λ e. cc e)
is_drop Of.SetStatus = inr (λ e. cc e)
is_drop (Of.Finish end rs) = inr (λ e. cc e)
is_drop call = inr (λ e. cc e)

-- s is the span of a run's clock, and zones its table; k is the key of a CronJob, cron, whose zone
-- is z.
module _ (window : ℕ) (s : SpanView) (zones : ZoneTable) (k : Place) (cron : CronJob) (z : Zone)
    (zone : zone_for zones (Some cron) ≡ Some z) where
  -- An entry that doesn't trouble the CronJob leaves it to its syncs.
  keeps_apart : (e : Told) (h : List Told) → Good window (e ∷ h) → are_timely s (e ∷ h) ≡ true
      → ComesToRest window s (e ∷ h) → HasZone zones e.call → IsUntroubled window k h e
      → (e.caller.role ≡ User → Spares h e k None)
      → ((progress_of s h).on ≡ true → cron.meta.created ≤ moment s h)
      → KeepsApart window k cron z (clock_from cron.meta.created s h) h e
  keeps_apart e h good timely rests zoned y spared low = record {
    accepted = y.accepted;
    ends = y.ends;
    claims = λ f. claim_on f e.call refl;
    alone = λ free. by_role free e.caller.role refl;
    aside = λ c f not t. by_call c f not t (is_drop e.call);
  }
    where
      claim_on : Holds h k e.caller → (call : Call) → e.call ≡ call
          → ClaimsOnTime cron z (clock_from cron.meta.created s h) (state_of window h).store call
      claim_on f (Of.Claim plan) call = record {
        at =
            (let at = at_moment s e h plan (both_right (are_timely s h) _ timely) f.role call in
            let came = low (on_then window s e h good.legal timely rests e.caller.number
            (record { key = k; phase = f.phase }) f.sync) in
            omega (arith, at, came));
        zone = λ seen g same.
            subst (HasZone zones) call zoned ∙ ap (zone_for zones) g
            ∙ ap (λ (x : CronSpec). zone_for zones (Some (record cron { spec = x }))) same ∙ zone;
        free = subst (HasFreeName (state_of window h).store) call (y.free f);
      }
      claim_on f call is = tt

      by_role : (Holds h k e.caller → ⊥) → (r : Role) → e.caller.role ≡ r → Spares h e k None
      by_role free User r = spared r
      by_role free Runner r = cron_spared window h e k good (λ f. cc (sym r ∙ f)) free
      by_role free Informer r = cron_spared window h e k good (λ f. cc (sym r ∙ f)) free
      by_role free Worker r = cron_spared window h e k good (λ f. cc (sym r ∙ f)) free

      by_call : (c : Caller) → Holds h k c → e.caller ≢ c → (t : ℕ)
          → (e.call ≡ Of.DropNext) ⊎ (e.call ≢ Of.DropNext) → Spares h e k (Some (made_place k t))
      by_call c f not t why = at why
        where
          free : Holds h k e.caller → ⊥
          free g =
              let number : e.caller.number ≡ c.number =
              one_holder window h good.legal.2 e.caller.number c.number (record { key = k; phase = g.phase })
              (record { key = k; phase = f.phase }) g.sync f.sync refl in
              not (ap (λ (n : ℕ). record { number = n; role = e.caller.role }) number
              ∙ ap (λ (r : Role). record { number = c.number; role = r }) (g.role ∙ sym f.role))

          at : (e.call ≡ Of.DropNext) ⊎ (e.call ≢ Of.DropNext) → Spares h e k (Some (made_place k t))
          at (inl d) = y.drops d free t
          at (inr d) =
              job_spared window h e k good
              (no_user_then window s e h good.legal timely rests c.number (record { key = k; phase = f.phase })
              f.sync) free t
              (no_runner_then window s e h good.legal timely rests c.number (record { key = k; phase = f.phase })
              f.sync) d

  -- So does each.
  keep_apart : (more start : List Told) → Good window (more ++ start) → are_timely s (more ++ start) ≡ true
      → ComesToRest window s (more ++ start) → AreZoned zones (more ++ start) → AreUntroubled window k more start
      → AreSpared k more start
      → ((es : List Told) → (progress_of s (es ++ start)).on ≡ true → cron.meta.created ≤ moment s (es ++ start))
      → KeepApart window k cron z (clock_from cron.meta.created s) more start
  keep_apart [] start good timely rests zoned y spared low = tt
  keep_apart (e ∷ es) start good timely rests zoned y spared low = (
    keeps_apart e (es ++ start) good timely rests
        (All-head (λ (x : Told). HasZone zones x.call) e (es ++ start) zoned) y.0 spared.0 (low es),
    keep_apart es start (earlier window (e ∷ []) (es ++ start) good)
        (both_left (are_timely s (es ++ start)) _ timely) (rests_front window s e (es ++ start) rests)
        (All-tail (λ (x : Told). HasZone zones x.call) e (es ++ start) zoned) y.1 spared.1 low,
  )

-- ---- the whole run

-- Who keeps up comes to rest.
pub rests_of : (window : ℕ) (s : SpanView) (h : List Told) → KeepsUp window s h → ComesToRest window s h
rests_of window s h keeps later before e is over = (keeps later before e is over).settled

-- After a user's call nobody holds a key.
none_new : (window : ℕ) (s : SpanView) (e : Told) (h : List Told) → IsLegal window (e ∷ h)
    → are_timely s (e ∷ h) ≡ true → ComesToRest window s (e ∷ h) → e.caller.role ≡ User → (k : Place) → IsFree k (e ∷ h)
none_new window s e h l timely rests user k c f =
    no_user_then window s e h l timely rests c.number (record { key = k; phase = f.phase })
    (sym (unmoved window e h l (inl (λ g. cc (sym user ∙ g))) c.number) ∙ f.sync) user

-- Where all entries are at their times, so are the earlier ones.
timely_front : (s : SpanView) (more h : List Told) → are_timely s (more ++ h) ≡ true → are_timely s h ≡ true
timely_front s [] h t = t
timely_front s (e ∷ more) h t = timely_front s more h (both_left (are_timely s (more ++ h)) _ t)

-- Who comes to rest did so all along.
rests_back : (window : ℕ) (s : SpanView) (more h : List Told) → ComesToRest window s (more ++ h)
    → ComesToRest window s h
rests_back window s [] h r = r
rests_back window s (e ∷ more) h r = rests_back window s more h (rests_front window s e (more ++ h) r)

-- what is known of a run and of a CronJob that is created with start, and which no entry troubles
-- from then on
pub record Alone (window : ℕ) (s : SpanView) (start more : List Told) (k : Place) (cron : CronJob) (sets : Sets)
    (z : Zone) : Type 0 where
  pub good : Good window (more ++ start)
  pub timely : are_timely s (more ++ start) ≡ true
  pub keeps : KeepsUp window s (more ++ start)
  pub off : (progress_of s (more ++ start)).on ≡ false
  pub fresh : Fresh window start k cron sets
  pub at : cron.meta.created ≡ next_moment s start
  pub first : looked_upto cron [] ≡ cron.meta.created
  pub came : clock_from cron.meta.created s (more ++ start) ≡ moment s (more ++ start)
  pub free : IsFree k start
  pub over : IsFree k (more ++ start)
  pub spared : AreSpared k more start
  pub apart : KeepApart window k cron z (clock_from cron.meta.created s) more start

-- By the end of a run the moment of a creation has come.
came_to : (s : SpanView) (g start : List Told) (created : ℕ) → created ≡ next_moment s start
    → (turn s start < turn s g) ⊎ (turn s start ≡ 0) → clock_from created s g ≡ moment s g
came_to s g start created at (inl lt) = let r = reached s (turn s start) (turn s g) lt in omega (arith, at, r)
came_to s g start created at (inr none) =
    let first : instant s (turn s start) ≡ instant s 0 = ap (instant s) none in omega (arith, at, first)

-- That is known of it.
pub alone : (c : Simulation) (workers : ℕ) (w : WorldLog) (text : List ℕ) (start more : List Told) (k : Place)
    (cron : CronJob) (s : Sets) (z : Zone) → IsRun c workers w text → AreTimed c → w.history ≡ more ++ start
    → length w.history ≤ last_uid → IsNew start k cron s
    → zone_for c.zones (Some cron) ≡ Some z → LeavesAlone c w.history k start
    → AreUntroubled w.limits.window k more start
    → Alone w.limits.window c.span start more k cron s z
alone c workers w text start more k cron s z run timed is short new zone left calm =
    let window : ℕ = w.limits.window in
    let g : List Told = more ++ start in
    let good : Good window g = record {
      short = subst (λ (h : List Told). length h ≤ last_uid) is short;
      legal = subst (IsLegal window) is run.promise.legal;
      planned = subst ArePlanned is run.promise.planned;
    } in
    let timely : are_timely c.span g ≡ true = sym (ap (are_timely c.span) is) ∙ run.time.timely in
    let keeps : KeepsUp window c.span g = subst (KeepsUp window c.span) is run.keeps_up in
    let rests : ComesToRest window c.span g = rests_of window c.span g keeps in
    let off : (progress_of c.span g).on ≡ false =
    sym (ap (λ (h : List Told). (progress_of c.span h).on) is) ∙ run.time.over in
    let old : Good window start = earlier window more start good in
    let fresh = fresh_new window start k cron s old new in
    let spared = are_spared c workers w text k start more run is left in
    let made = is_created c workers w text start more k cron s run timed is new in
    record {
      good = good;
      timely = timely;
      keeps = keeps;
      off = off;
      fresh = fresh;
      at = made.at;
      first = ap (λ (o : Option ℕ). unwrap_or o cron.meta.created) fresh.last;
      came = subst (λ (h : List Told). clock_from cron.meta.created c.span h ≡ moment c.span h) is
          (came_to c.span w.history start cron.meta.created made.at made.begun);
      free = subst (IsFree k) (sym new.is)
          (none_new window c.span new.creation new.before (subst (IsLegal window) new.is old.legal)
          (sym (ap (are_timely c.span) new.is) ∙ timely_front c.span more start timely)
          (subst (ComesToRest window c.span) new.is (rests_back window c.span more start rests))
          made.user k);
      over = λ n f. cc (sym f.sync ∙ none_off window c.span g good.legal timely rests off n.number);
      spared = spared;
      apart = keep_apart window c.span c.zones k cron z zone more start good timely rests
          (subst (AreZoned c.zones) is run.zones) calm spared
          (λ es on. (let at = made.at in
          let r = reached c.span (turn c.span start) (turn c.span (es ++ start))
          (began_since c.span es start made.off on) in
          omega (arith, at, r)));
    }

-- For run_syncs_law: a CronJob that no entry troubles has whole syncs.
pub run_syncs : RunSyncs
run_syncs c workers w text start more k cron s z run timed is short new zone left calm =
    let window : ℕ = w.limits.window in
    let g : List Told = more ++ start in
    let a : Alone window c.span start more k cron s z =
    alone c workers w text start more k cron s z run timed is short new zone left calm in
    let first = a.first in
    let syncs : HaveSynced window k cron z (moment c.span g) start g =
    subst (λ (n : ℕ). HaveSynced window k cron z n start g) a.came
    (syncs_go_on window start more k cron s z (clock_from cron.meta.created c.span) a.good.short a.good.legal
    a.good.planned a.fresh.begun a.free a.over (clock_on cron.meta.created c.span) (omega (arith, first)) a.apart) in
    subst (λ (h : List Told). AreSyncs window k cron s z (moment c.span h) start h) (sym is) (record {
      are = syncs;
      made = every_time_since window start g k cron s z syncs.moments a.good.short a.good.legal a.good.planned new
          syncs.on syncs.synced;
    })
