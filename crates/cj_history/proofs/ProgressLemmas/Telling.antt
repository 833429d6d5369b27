-- Where no sync of a CronJob tells that a Job runs already, nothing was due whenever its policy
-- forbade a Job to start.
use Rattle.std.proofs.Common.{◌≡◌, ◌⊎◌, inl, inr, ℕ, ◌+◌, ◌-◌, ◌<◌, ◌≤◌, max, true, false, List, [], ◌∷◌, ◌++◌, append_assoc, Option, Some, None, refl, sym, ap, subst, ◌∙◌, arith}
use Rattle.std.proofs.lemmas.Bool.{cases_lt}
use Rattle.cj_types.specs.Keys.{Place}
use Rattle.cj_types.specs.declared.cron.CronJob.{CronJob}
use Rattle.cj_types.specs.declared.policy.Reason.{Reason}
use Rattle.cj_types.specs.declared.policy.Reason.TheVariants.{JobAlreadyActive}
use Rattle.cj_schedule.specs.Matches.{Sets}
use Rattle.cj_zone.specs.declared.zone.Zone.{Zone}
use Rattle.cj_due.specs.Due.{due, IsQuiet, IsLatestDue}
use Rattle.cj_due.specs.Window.{deadline_start}
use Rattle.cj_decide.specs.laws.Laws.{IsIn}
use Rattle.cj_calls.specs.Rows.{Told}
use Rattle.cj_calls.specs.declared.call.Call.{Call}
use Rattle.cj_calls.specs.declared.call.Call.TheVariants as Of
use Rattle.cj_calls.specs.declared.end.End.TheVariants.{Well}
use Rattle.cj_state.specs.phases.Steps.{Step, drops, makes, sets, all_steps}
use Rattle.cj_world_laws.specs.legal.InFlightSyncs.{sync}
use Rattle.cj_history.specs.progress.Undisturbed.{worker, entry}
use Rattle.cj_history.specs.progress.Syncs.{calls_left, readings, works_off}
use Rattle.cj_history.specs.progress.Every.{Moment, lets, forbids, Led, name_of, IsSync, Synced, looked_upto, last_moment, interval_start, GoOn, IsBegun, IsAmple}
use Rattle.cj_history.specs.progress.Apart as apart
use Rattle.cj_history.specs.progress.Prompt.{ArePrompt, NoneForbidden}
use Rattle.cj_history.proofs.ProgressLemmas.Calls.{in_flight}
use Rattle.cj_history.proofs.ProgressLemmas.Intervals.{latest_or_none}
use Rattle.cj_history.proofs.ProgressLemmas.Makers.{Good, earlier}
use Rattle.cj_history.proofs.ProgressLemmas.Others.{Holds, holds_aside}
use Rattle.cj_history.proofs.ProgressLemmas.Led.{keeps_key, holds_own, led_earlier}
use Rattle.cj_history.proofs.ProgressLemmas.Whole.{sits_down}
use Rattle.cj_history.proofs.ProgressLemmas.Synced.{sync_begun, looked_low, forbidden_holds_back}
use Rattle.cj_history.proofs.ProgressLemmas.Near.{AreIdle, uncut}

-- ---- calls that took place

-- w is the worker, and k its key.
module _ (window w : ℕ) (k : Place) where
  -- the last entry of a history is the worker's end of its sync, when it held the key, after another
  -- history
  record IsLast (reasons : List Reason) (h g : List Told) : Type 0 where
    before : List Told
    is : g ≡ entry window before w (Of.Finish Well reasons) ∷ before
    holds : Holds before w k
    more : List Told
    from : before ≡ more ++ h

  -- So it is one call later.
  last_on : (reasons : List Reason) (call : Call) (es h g : List Told)
      → IsLast reasons (entry window (es ++ h) w call ∷ (es ++ h)) g → IsLast reasons h g
  last_on reasons call es h g y =
      let e = entry window (es ++ h) w call in
      record {
        before = y.before;
        is = y.is;
        holds = y.holds;
        more = y.more ++ (e ∷ es);
        from = y.from ∙ sym (append_assoc y.more (e ∷ es) h);
      }

-- And q is the Job's name, if one is named.
module _ (window w : ℕ) (k : Place) (q : Option Place) where
  -- The history after calls goes on from the one before them.
  led_from : (calls : List Call) (h g : List Told) → Led window w k q h calls g → (xs : List Told) × (g ≡ xs ++ h)
  led_from [] h g l = ([], l)
  led_from (call ∷ calls) h g l =
      let e = entry window (l.0 ++ h) w call in
      let rest = led_from calls (e ∷ (l.0 ++ h)) g l.2 in
      (rest.0 ++ (e ∷ l.0), rest.1 ∙ sym (append_assoc rest.0 (e ∷ l.0) h))

  -- After a call between Take and Finish its worker holds the key.
  one_holds : (call : Call) (calls : List Call) → keeps_key call ≡ true → (h g : List Told)
      → (l : Led window w k q h (call ∷ calls) g) → Good window g → Holds h w k
      → Holds (entry window (l.0 ++ h) w call ∷ (l.0 ++ h)) w k
  one_holds call calls keeps h g l good f =
      let e = entry window (l.0 ++ h) w call in
      let after : Good window (e ∷ (l.0 ++ h)) = led_earlier window w k q calls (e ∷ (l.0 ++ h)) g l.2 good in
      holds_own window w k call (l.0 ++ h) keeps
      (holds_aside window w k q l.0 h (earlier window (e ∷ []) (l.0 ++ h) after).legal l.1 f)

  -- each of these calls is one between Take and Finish
  abbrev AreKeeping : List Call → Type 0
  AreKeeping [] = Unit {0}
  AreKeeping (call ∷ calls) = (keeps_key call ≡ true) × AreKeeping calls

  -- After such calls it holds the key.
  led_holds : (calls : List Call) → AreKeeping calls → (h g : List Told) → Led window w k q h calls g → Good window g
      → Holds h w k → Holds g w k
  led_holds [] n h g l good f = subst (λ (x : List Told). Holds x w k) (sym l) f
  led_holds (call ∷ calls) n h g l good f =
      led_holds calls n.1 (entry window (l.0 ++ h) w call ∷ (l.0 ++ h)) g l.2 good
      (one_holds call calls n.0 h g l good f)

  -- Of the steps that are left, and the end, the last is the end.
  steps_last : (reasons : List Reason) (xs : List Step) (h g : List Told)
      → Led window w k q h (calls_left reasons xs) g → Good window g → Holds h w k → IsLast window w k reasons h g
  steps_last reasons [] h g l good f =
      let e = entry window (l.0 ++ h) w (Of.Finish Well reasons) in
      let old : Good window (l.0 ++ h) = earlier window (e ∷ []) (l.0 ++ h) (subst (Good window) l.2 good) in
      record {
        before = l.0 ++ h;
        is = l.2;
        holds = holds_aside window w k q l.0 h old.legal l.1 f;
        more = l.0;
        from = refl;
      }
  steps_last reasons (drops r ∷ xs) h g l good f =
      last_on window w k reasons Of.DropNext l.0 h g
      (steps_last reasons xs (entry window (l.0 ++ h) w Of.DropNext ∷ (l.0 ++ h)) g l.2 good
      (one_holds Of.DropNext (calls_left reasons xs) refl h g l good f))
  steps_last reasons (makes d ∷ xs) h g l good f =
      last_on window w k reasons Of.MakeNext l.0 h g
      (steps_last reasons xs (entry window (l.0 ++ h) w Of.MakeNext ∷ (l.0 ++ h)) g l.2 good
      (one_holds Of.MakeNext (calls_left reasons xs) refl h g l good f))
  steps_last reasons (sets s ∷ xs) h g l good f =
      last_on window w k reasons Of.SetStatus l.0 h g
      (steps_last reasons xs (entry window (l.0 ++ h) w Of.SetStatus ∷ (l.0 ++ h)) g l.2 good
      (one_holds Of.SetStatus (calls_left reasons xs) refl h g l good f))

-- ---- syncs

-- The last entry of a sync is its worker's end of it, which tells the reasons of its plan.
sync_last : (window : ℕ) (k : Place) (z : Zone) (m : Moment) (before after : List Told) → Good window after
    → (y : IsSync window k z m before after) → IsLast window y.worker k y.plan.steps.reasons before after
sync_last window k z m before after good y =
    let w : ℕ = y.worker in
    let q : Option Place = name_of y.plan in
    let reasons : List Reason = y.plan.steps.reasons in
    let left : List Call = calls_left reasons (all_steps y.plan.steps) in
    let take = entry window before w Of.Take in
    let claim = entry window (y.works.0 ++ y.read) w (Of.Claim y.plan) in
    let mid : Good window y.read = led_earlier window w k q (works_off y.plan) y.read after y.works good in
    let begun : Good window before = sync_begun window k z m before after y good in
    let taken : Holds (take ∷ before) w k =
    record { sits = _; held = sits_down window before w k y.cron begun.legal y.ready; key = refl } in
    let read : Holds y.read w k =
    led_holds window w k None readings (refl, (refl, (refl, tt))) (take ∷ before) y.read y.reads mid taken in
    let last : IsLast window w k reasons y.read after =
    last_on window w k reasons (Of.Claim y.plan) y.works.0 y.read after
    (steps_last window w k q reasons (all_steps y.plan.steps) (claim ∷ (y.works.0 ++ y.read)) after y.works.2 good
    (one_holds window w k q (Of.Claim y.plan) left refl y.read after y.works good read)) in
    let first = led_from window w k None readings (take ∷ before) y.read y.reads in
    let since : List Told = first.0 ++ (take ∷ []) in
    record {
      before = last.before;
      is = last.is;
      holds = last.holds;
      more = last.more ++ since;
      from = last.from
          ∙ ap (λ (x : List Told). last.more ++ x) (first.1 ∙ sym (append_assoc first.0 (take ∷ []) before))
          ∙ sym (append_assoc last.more since before);
    }

-- Where none tells it from a history on, none tells it up to an earlier one.
none_front : (k : Place) (start xs b : List Told) → NoneForbidden k start (xs ++ b) → NoneForbidden k start b
none_front k start xs b none later es e is =
    none (xs ++ later) es e
    (ap (λ (x : List Told). xs ++ x) is ∙ sym (append_assoc xs later (e ∷ (es ++ start))))

-- Where no time is the greatest that is due, none is.
quiet_of : (s : Sets) (z : Zone) (lo hi : ℕ) → ((t : ℕ) → IsLatestDue s z lo hi t → ⊥) → IsQuiet s z lo hi
quiet_of s z lo hi none = by (cases_lt hi lo)
  where
    at : (n : ℕ) → lo + n ≡ hi → ((t : ℕ) × IsLatestDue s z lo (lo + n) t) ⊎ IsQuiet s z lo (lo + n) → IsQuiet s z lo hi
    at n same (inl (t, latest)) = absurd (none t (subst (λ (x : ℕ). IsLatestDue s z lo x t) same latest))
    at n same (inr quiet) = subst (IsQuiet s z lo) same quiet

    by : (hi < lo) ⊎ (lo ≤ hi) → IsQuiet s z lo hi
    by (inl l) = λ t a b. absurd (omega (arith, a, b, l))
    by (inr l) = at (hi - lo) (omega (arith, l)) (latest_or_none s z lo (hi - lo))

-- What is due neither in an interval nor up to where its deadline cuts it isn't due since a moment in
-- it.
quiet_since : (s : Sets) (z : Zone) (lo line last soon hi : ℕ) → lo ≤ last → line ≤ soon
    → IsQuiet s z (max lo line) hi → IsQuiet s z last soon → IsQuiet s z last hi
quiet_since s z lo line last soon hi low cut late early x a c = by (cases_lt (max lo line) x)
  where
    by : (max lo line < x) ⊎ (x ≤ max lo line) → due s z x ≡ false
    by (inl l) = late x l c
    by (inr l) = early x a (omega (arith, a, l, low, cut))

-- start is the history on, k the key, and cron the CronJob that stands there.
module _ (window : ℕ) (start : List Told) (k : Place) (cron : CronJob) (s : Sets) (z : Zone)
    (b : IsBegun window start k cron s) where
  -- The history after syncs goes on from the one before them.
  synced_from : (ms : List Moment) (g : List Told) → Good window g → Synced window k z start ms g
      → (xs : List Told) × (g ≡ xs ++ start)
  synced_from [] g good (es, others, is) = (es, is)
  synced_from (m ∷ ms) g good (before, after, es, rest, did, others, is) =
      let late : Good window after = earlier window es after (subst (Good window) is good) in
      let last = sync_last window k z m before after late did in
      let old = synced_from ms before (sync_begun window k z m before after did late) rest in
      let e : Told = entry window last.before did.worker (Of.Finish Well did.plan.steps.reasons) in
      let more : List Told = last.more ++ old.0 in
      let from : after ≡ (e ∷ more) ++ start =
      last.is ∙ ap (λ (x : List Told). e ∷ x)
      (last.from ∙ ap (λ (x : List Told). last.more ++ x) old.1 ∙ sym (append_assoc last.more old.0 start)) in
      (es ++ (e ∷ more), is ∙ ap (λ (x : List Told). es ++ x) from ∙ sym (append_assoc es (e ∷ more) start))

  -- So a sync doesn't tell it.
  untold : (ms : List Moment) (m : Moment) (before after : List Told) → Good window after
      → Synced window k z start ms before → (y : IsSync window k z m before after) → NoneForbidden k start after
      → IsIn JobAlreadyActive y.plan.steps.reasons → ⊥
  untold ms m before after good rest y none =
      let last = sync_last window k z m before after good y in
      let old = synced_from ms before (sync_begun window k z m before after y good) rest in
      let e : Told = entry window last.before y.worker (Of.Finish Well y.plan.steps.reasons) in
      let xs : List Told = last.more ++ old.0 in
      let same : last.before ≡ xs ++ start =
      last.from ∙ ap (λ (x : List Told). last.more ++ x) old.1 ∙ sym (append_assoc last.more old.0 start) in
      let held : apart.Holds (xs ++ start) k (worker y.worker) = record {
        role = refl;
        phase = last.holds.sits.phase;
        sync = ap (λ (h : List Told). sync h y.worker) (sym same) ∙ last.holds.held
            ∙ ap (λ (i : Place). Some (in_flight i last.holds.sits.phase)) last.holds.key;
      } in
      none [] xs e (last.is ∙ ap (λ (x : List Told). e ∷ x) same) held

  -- Nothing was due, then, since the moment before one at which the policy forbade a Job to start.
  pub told_idle : IsAmple cron.spec.starting_deadline_seconds → (ms : List Moment) (g : List Told) → Good window g
      → GoOn cron ms → ArePrompt s z cron ms → Synced window k z start ms g → NoneForbidden k start g
      → AreIdle s z cron ms
  told_idle ample [] g good on prompt y none = tt
  told_idle ample (m ∷ ms) g good on prompt (before, after, es, rest, did, others, is) none =
      let late : Good window after = earlier window es after (subst (Good window) is good) in
      let then : NoneForbidden k start after = none_front k start es after (subst (NoneForbidden k start) is none) in
      let last = sync_last window k z m before after late did in
      let e : Told = entry window last.before did.worker (Of.Finish Well did.plan.steps.reasons) in
      let upto : NoneForbidden k start before =
      none_front k start (e ∷ last.more) before
      (subst (NoneForbidden k start) (last.is ∙ ap (λ (x : List Told). e ∷ x) last.from) then) in
      by m did on prompt late then
      (told_idle ample ms before (sync_begun window k z m before after did late) on.1 prompt.1 rest upto)
    where
      by : (x : Moment) → IsSync window k z x before after → GoOn cron (x ∷ ms) → ArePrompt s z cron (x ∷ ms)
          → Good window after → NoneForbidden k start after → AreIdle s z cron ms → AreIdle s z cron (x ∷ ms)
      by (lets t) y on prompt late none idle = idle
      by (forbids t) y on prompt late none idle =
          let back = forbidden_holds_back window start before after k cron s z ms t late.short late.legal late.planned b
          on rest y in
          let quiet : IsQuiet s z (interval_start cron ms t) t =
          quiet_of s z (interval_start cron ms t) t (λ time latest.
          untold ms (forbids t) before after late rest y none (back.tells time latest)) in
          let low = looked_low cron ms on.1 in
          let cut = uncut cron.spec.starting_deadline_seconds t (t - 60) ample (omega arith) in (
            quiet_since s z (looked_upto cron ms) (deadline_start cron.spec.starting_deadline_seconds t)
                (last_moment cron ms) (t - 60) t low cut quiet prompt.0,
            idle,
          )
