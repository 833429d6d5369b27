-- What the calls of a sync that took place leave of the times for which Jobs were made.
use Rattle.std.proofs.Common.{◌≡◌, ℕ, ◌==◌, Bool, true, false, cond, List, [], ◌∷◌, ◌++◌, map as map_list, Option, Some, None, refl, sym, ap, subst, ◌∙◌}
use Rattle.std.specs.Prelude.{Result, Ok, Err, if◌then◌else◌}
use Rattle.cj_base.specs.declared.refusal.Refusal.{Refusal}
use Rattle.cj_types.specs.Keys.{Place}
use Rattle.cj_types.specs.declared.cron.CronJob.{CronJob}
use Rattle.cj_types.specs.declared.cron.CronStatus.{CronStatus}
use Rattle.cj_types.specs.declared.policy.Reason.{Reason}
use Rattle.cj_status.specs.declared.refs.JobRef.{JobRef}
use Rattle.cj_decide.specs.Decision.{Planned}
use Rattle.cj_calls.specs.declared.call.Call.{Call}
use Rattle.cj_calls.specs.declared.call.Call.TheVariants as Of
use Rattle.cj_calls.specs.declared.end.End.TheVariants.{Well}
use Rattle.cj_calls.specs.declared.reply.Reply.{Reply}
use Rattle.cj_calls.specs.declared.reply.Reply.TheVariants as Is
use Rattle.cj_calls.specs.Rows.{Told}
use Rattle.cj_state.specs.phases.Steps.{Step, drops, makes as makes_job, sets, settings, all_steps}
use Rattle.cj_state.specs.declared.phases.sync.Phase.{Phase}
use Rattle.cj_state.specs.declared.phases.sync.Phase.TheVariants.{Seen}
use Rattle.cj_state.specs.declared.phases.sync.InFlight.{InFlight}
use Rattle.cj_state.specs.WorkerCalls.{works, seen_version}
use Rattle.cj_state.specs.Legal.{IsLegal, answer_of}
use Rattle.cj_world_laws.specs.legal.Callers.{is_of_sync}
use Rattle.cj_world_laws.specs.legal.InFlightSyncs.{accepted, going, listing, checking, sync, sync_after}
use Rattle.cj_world_laws.specs.once.Once.{Claimed, claim_of, is_ok, makes_with, with_made, makes}
use Rattle.cj_history.specs.progress.Undisturbed.{worker, entry, AreAside, Leads}
use Rattle.cj_history.specs.progress.Syncs.{calls_left, works_off}
use Rattle.cj_history.specs.progress.Every.{Led, times_of, made_for}
use Rattle.cj_history.proofs.GapsLemmas.Whole.{same_nat}
use Rattle.cj_history.proofs.ProgressLemmas.Only.{Makes, claim_aside, either}
use Rattle.cj_history.proofs.ProgressLemmas.Makers.{Good, earlier}
use Rattle.cj_history.proofs.ProgressLemmas.Restated.{Has, has_after}
use Rattle.cj_history.proofs.ProgressLemmas.Others.{Holds, is_same, holds_aside, has_aside, times_aside}

-- ---- a call of the worker

-- the calls between a Take and its Finish
abbrev pub keeps_key : Call → Bool
keeps_key Of.SeeCron = true
keeps_key Of.SeeJobs = true
keeps_key Of.SeeActive = true
keeps_key (Of.Claim p) = true
keeps_key Of.DropNext = true
keeps_key Of.MakeNext = true
keeps_key Of.SetStatus = true
keeps_key call = false

-- a sync at the key of another
abbrev StillAt : Option InFlight → InFlight → Type 0
StillAt o x = (y : InFlight) × (o ≡ Some y) × (y.key ≡ x.key)

-- a sync at a key
abbrev at_key : Place → Phase → InFlight
at_key k p = record { key = k; phase = p }

-- Such a call, accepted, leaves its worker at its key.
still_accepted : (x : InFlight) (call : Call) (r : Reply) → keeps_key call ≡ true → StillAt (accepted (Some x) call r) x
still_accepted x Of.SeeCron (Is.SeenCron c) i = (at_key x.key (Seen c), refl, refl)
still_accepted x Of.SeeJobs (Is.SeenJobs js) i = (at_key x.key (listing x.phase js), refl, refl)
still_accepted x Of.SeeActive (Is.SeenActive ks) i = (at_key x.key (checking x.phase ks), refl, refl)
still_accepted x (Of.Claim p) (Is.Claimed None) i = (at_key x.key (works p (seen_version p.cron) 0), refl, refl)
still_accepted x (Of.Claim p) (Is.Claimed (Some c)) i = (at_key x.key (works p c.1 0), refl, refl)
still_accepted x Of.DropNext (Is.Dropped d) i = (at_key x.key (going x.phase), refl, refl)
still_accepted x Of.MakeNext (Is.Job j) i = (at_key x.key (going x.phase), refl, refl)
still_accepted x Of.SetStatus (Is.Version v) i = (at_key x.key (going x.phase), refl, refl)
still_accepted x Of.SeeCron r i = (x, refl, refl)
still_accepted x Of.SeeJobs r i = (x, refl, refl)
still_accepted x Of.SeeActive r i = (x, refl, refl)
still_accepted x (Of.Claim p) r i = (x, refl, refl)
still_accepted x Of.DropNext r i = (x, refl, refl)
still_accepted x Of.MakeNext r i = (x, refl, refl)
still_accepted x Of.SetStatus r i = (x, refl, refl)
still_accepted x call r i = absurd (cc i)

-- So does it where it is refused.
still_there : (x : InFlight) (call : Call) (a : Result Reply Refusal) → keeps_key call ≡ true
    → StillAt (sync_after (Some x) call a) x
still_there x call (Ok r) i = still_accepted x call r i
still_there x call (Err e) i = (x, refl, refl)

-- After such a call its worker holds the key.
pub holds_own : (window w : ℕ) (k : Place) (call : Call) (h : List Told) → keeps_key call ≡ true → Holds h w k
    → Holds (entry window h w call ∷ h) w k
holds_own window w k call h i f =
    let a = answer_of window h (worker w) call in
    let y = still_there f.sits call a i in
    record {
      sits = y.0;
      held = ap (λ (b : Bool). if b then sync_after (sync h w) call a else sync h w) (same_nat w)
          ∙ ap (λ (o : Option InFlight). sync_after o call a) f.held ∙ y.1;
      key = y.2 ∙ f.key;
    }

-- ---- calls that took place

-- The history before the calls is such as the one after them.
pub led_earlier : (window w : ℕ) (k : Place) (q : Option Place) (calls : List Call) (h g : List Told)
    → Led window w k q h calls g → Good window g → Good window h
led_earlier window w k q [] h g l good = subst (Good window) l good
led_earlier window w k q (call ∷ calls) h g l good =
    let x = entry window (l.0 ++ h) w call in
    let after = led_earlier window w k q calls (x ∷ (l.0 ++ h)) g l.2 good in
    earlier window l.0 h (earlier window (x ∷ []) (l.0 ++ h) after)

-- What calls lead to holds after them.
pub led_to : (window w : ℕ) (k : Place) (q : Option Place) (calls : List Call) (P : List Told → Type 0)
    (h g : List Told)
    → Leads window w k q h calls P → Led window w k q h calls g → Good window g → P g
led_to window w k q [] P h g f l good = subst P (sym l) f
led_to window w k q (call ∷ calls) P h g f l good =
    let x = entry window (l.0 ++ h) w call in
    let after = led_earlier window w k q calls (x ∷ (l.0 ++ h)) g l.2 good in
    led_to window w k q calls P (x ∷ (l.0 ++ h)) g (f l.0 (earlier window (x ∷ []) (l.0 ++ h) after).legal l.1).1 l.2
    good

-- w is the worker, k its key, q the Job's name, if one is named, and c the CronJob, but for its
-- status and its version.
module _ (window w : ℕ) (k : Place) (q : Option Place) (c : CronJob) where
  abbrev u : ℕ
  u = c.meta.uid

  -- the worker holds the key, the CronJob stands, and no Job was made for it since
  pub record Kept (h g : List Told) : Type 0 where
    pub holds : Holds g w k
    pub has : Has window k c g
    pub times : made_for window u g ≡ made_for window u h

  -- A call between Take and Finish that makes nothing, after what others called aside, leaves it
  -- so.
  pub call_kept : (call : Call) (es h : List Told) → keeps_key call ≡ true → is_of_sync call ≡ true
      → makes_with call (answer_of window (es ++ h) (worker w) call) ≡ false
      → Good window (entry window (es ++ h) w call ∷ (es ++ h)) → AreAside w k q es h → Holds h w k → Has window k c h
      → Kept h (entry window (es ++ h) w call ∷ (es ++ h))
  call_kept call es h i j none good a f x =
      let e = entry window (es ++ h) w call in
      let old : Good window (es ++ h) = earlier window (e ∷ []) (es ++ h) good in
      record {
        holds = holds_own window w k call (es ++ h) i (holds_aside window w k q es h old.legal a f);
        has = has_after window k c e (es ++ h) good.legal j (has_aside window w k q es h c old.legal a x);
        times = ap (λ (b : Bool). times_of u (with_made b (claim_of window (es ++ h) w) (makes window (es ++ h)))) none
            ∙ times_aside window w k q es h c old a f x;
      }

  -- each of these calls is one between Take and Finish that makes nothing
  abbrev pub AreQuiet : List Call → Type 0
  AreQuiet [] = Unit {0}
  AreQuiet (call ∷ calls) =
      (keeps_key call ≡ true) × (is_of_sync call ≡ true) × ((a : Result Reply Refusal) → makes_with call a ≡ false)
      × AreQuiet calls

  -- Such calls leave it so.
  pub quiet_led : (calls : List Call) → AreQuiet calls → (h g : List Told) → Led window w k q h calls g → Good window g
      → Holds h w k → Has window k c h → Kept h g
  quiet_led [] n h g l good f x = subst (Kept h) (sym l) (record { holds = f; has = x; times = refl })
  quiet_led (call ∷ calls) n h g l good f x =
      let es : List Told = l.0 in
      let e = entry window (es ++ h) w call in
      let after : Good window (e ∷ (es ++ h)) = led_earlier window w k q calls (e ∷ (es ++ h)) g l.2 good in
      let one : Kept h (e ∷ (es ++ h)) = call_kept call es h n.0 n.1
      (n.2 (answer_of window (es ++ h) (worker w) call)) after l.1 f x in
      let rest : Kept (e ∷ (es ++ h)) g = quiet_led calls n.3 (e ∷ (es ++ h)) g l.2 good one.holds one.has in
      record { holds = rest.holds; has = rest.has; times = rest.times ∙ one.times }

  -- ---- the steps of a plan

  -- the times that were made, after those that these steps make for one
  abbrev pub after_steps : ℕ → List Step → List ℕ → List ℕ
  after_steps t [] old = old
  after_steps t (drops r ∷ xs) old = after_steps t xs old
  after_steps t (makes_job d ∷ xs) old = after_steps t xs (t ∷ old)
  after_steps t (sets s ∷ xs) old = after_steps t xs old

  -- the CronJob stands, and those times were made
  pub record Ended (times : List ℕ) (g : List Told) : Type 0 where
    pub has : Has window k c g
    pub made : made_for window u g ≡ times

  -- m is what the worker claimed for the CronJob, and P what its calls are known to lead to.
  module _ (m : Claimed) (own : m.owner ≡ u) (reasons : List Reason) (P : List Told → Type 0) where
    -- For steps_led: the end of the sync, after what others called aside.
    end_led : (es h : List Told) → Good window (entry window (es ++ h) w (Of.Finish Well reasons) ∷ (es ++ h))
        → AreAside w k q es h → Holds h w k → Has window k c h
        → Ended (made_for window u h) (entry window (es ++ h) w (Of.Finish Well reasons) ∷ (es ++ h))
    end_led es h good a f x =
        let e = entry window (es ++ h) w (Of.Finish Well reasons) in
        let old : Good window (es ++ h) = earlier window (e ∷ []) (es ++ h) good in
        record {
          has = has_after window k c e (es ++ h) good.legal refl (has_aside window w k q es h c old.legal a x);
          made = times_aside window w k q es h c old a f x;
        }

    -- For steps_led: an accepted making makes the time that was claimed.
    make_led : (es h : List Told) → Good window (entry window (es ++ h) w Of.MakeNext ∷ (es ++ h))
        → AreAside w k q es h → Holds h w k → Has window k c h → claim_of window h w ≡ Some m
        → is_ok (answer_of window (es ++ h) (worker w) Of.MakeNext) ≡ true
        → made_for window u (entry window (es ++ h) w Of.MakeNext ∷ (es ++ h)) ≡ m.time ∷ made_for window u h
    make_led es h good a f x claim ok =
        let e = entry window (es ++ h) w Of.MakeNext in
        let old : Good window (es ++ h) = earlier window (e ∷ []) (es ++ h) good in
        let ms : List Claimed = makes window (es ++ h) in
        ap (λ (b : Bool). times_of u (with_made b (claim_of window (es ++ h) w) ms)) ok
        ∙ ap (λ (o : Option Claimed). times_of u (with_made true o ms))
        (claim_aside window w k q es h old.legal a ∙ claim)
        ∙ ap (λ (b : Bool). cond b (m.time ∷ times_of u ms) (times_of u ms)) (is_same u m.owner (sym own))
        ∙ ap (λ (l : List ℕ). m.time ∷ l) (times_aside window w k q es h c old a f x)

    -- The steps that are left, and the end, leave the times that they make.
    pub steps_led : (xs : List Step) (h g : List Told) → Leads window w k q h (calls_left reasons xs) P
        → Led window w k q h (calls_left reasons xs) g → Good window g → Holds h w k → Has window k c h
        → (Makes xs → claim_of window h w ≡ Some m) → Ended (after_steps m.time xs (made_for window u h)) g
    steps_led [] h g y l good f x claim =
        subst (Ended (made_for window u h)) (sym l.2) (end_led l.0 h (subst (Good window) l.2 good) l.1 f x)
    steps_led (drops r ∷ xs) h g y l good f x claim =
        let es : List Told = l.0 in
        let e = entry window (es ++ h) w Of.DropNext in
        let after : Good window (e ∷ (es ++ h)) = led_earlier window w k q (calls_left reasons xs) (e ∷ (es ++ h)) g l.2
        good in
        let old : Good window (es ++ h) = earlier window (e ∷ []) (es ++ h) after in
        let one : Kept h (e ∷ (es ++ h)) = call_kept Of.DropNext es h refl refl refl after l.1 f x in
        let rest = steps_led xs (e ∷ (es ++ h)) g (y es old.legal l.1).1 l.2 good one.holds one.has
        (λ i. either (w == w) (claim_of window (es ++ h) w) ∙ claim_aside window w k q es h old.legal l.1 ∙ claim i) in
        record { has = rest.has; made = rest.made ∙ ap (after_steps m.time xs) one.times }
    steps_led (makes_job d ∷ xs) h g y l good f x claim =
        let es : List Told = l.0 in
        let e = entry window (es ++ h) w Of.MakeNext in
        let after : Good window (e ∷ (es ++ h)) = led_earlier window w k q (calls_left reasons xs) (e ∷ (es ++ h)) g l.2
        good in
        let old : Good window (es ++ h) = earlier window (e ∷ []) (es ++ h) after in
        let r = y es old.legal l.1 in
        let rest = steps_led xs (e ∷ (es ++ h)) g r.1 l.2 good
        (holds_own window w k Of.MakeNext (es ++ h) refl (holds_aside window w k q es h old.legal l.1 f))
        (has_after window k c e (es ++ h) after.legal refl (has_aside window w k q es h c old.legal l.1 x))
        (λ i. either (w == w) (claim_of window (es ++ h) w) ∙ claim_aside window w k q es h old.legal l.1 ∙ claim tt) in
        record { has = rest.has; made = rest.made ∙ ap (after_steps m.time xs) (make_led es h after l.1 f x (claim tt) r.0) }
    steps_led (sets s ∷ xs) h g y l good f x claim =
        let es : List Told = l.0 in
        let e = entry window (es ++ h) w Of.SetStatus in
        let after : Good window (e ∷ (es ++ h)) = led_earlier window w k q (calls_left reasons xs) (e ∷ (es ++ h)) g l.2
        good in
        let old : Good window (es ++ h) = earlier window (e ∷ []) (es ++ h) after in
        let one : Kept h (e ∷ (es ++ h)) = call_kept Of.SetStatus es h refl refl refl after l.1 f x in
        let rest = steps_led xs (e ∷ (es ++ h)) g (y es old.legal l.1).1 l.2 good one.holds one.has
        (λ i. either (w == w) (claim_of window (es ++ h) w) ∙ claim_aside window w k q es h old.legal l.1 ∙ claim i) in
        record { has = rest.has; made = rest.made ∙ ap (after_steps m.time xs) one.times }

  -- Drops make nothing.
  pub after_drops : (t : ℕ) (rs : List JobRef) (xs : List Step) (old : List ℕ)
      → after_steps t (map_list drops rs ++ xs) old ≡ after_steps t xs old
  after_drops t [] xs old = refl
  after_drops t (r ∷ rs) xs old = after_drops t rs xs old

  -- Nor does a status.
  pub after_settings : (t : ℕ) (o : Option CronStatus) (old : List ℕ) → after_steps t (settings o) old ≡ old
  after_settings t None old = refl
  after_settings t (Some s) old = refl

  -- The claim of a plan, its steps and the end leave the times that the steps make.
  pub works_led : (m : Claimed) → m.owner ≡ u → (p : Planned) (P : List Told → Type 0) (h g : List Told)
      → Leads window w k q h (works_off p) P → Led window w k q h (works_off p) g → Good window g → Holds h w k
      → Has window k c h
      → ((es : List Told) → IsLegal window (es ++ h) → AreAside w k q es h → Makes (all_steps p.steps)
      → claim_of window (entry window (es ++ h) w (Of.Claim p) ∷ (es ++ h)) w ≡ Some m)
      → Ended (after_steps m.time (all_steps p.steps) (made_for window u h)) g
  works_led m own p P h g y l good f x claim =
      let es : List Told = l.0 in
      let e = entry window (es ++ h) w (Of.Claim p) in
      let after : Good window (e ∷ (es ++ h)) = led_earlier window w k q
      (calls_left p.steps.reasons (all_steps p.steps))
      (e ∷ (es ++ h)) g l.2 good in
      let old : Good window (es ++ h) = earlier window (e ∷ []) (es ++ h) after in
      let one : Kept h (e ∷ (es ++ h)) = call_kept (Of.Claim p) es h refl refl refl after l.1 f x in
      let rest = steps_led m own p.steps.reasons P (all_steps p.steps) (e ∷ (es ++ h)) g (y es old.legal l.1).1 l.2 good
      one.holds one.has (claim es old.legal l.1) in
      record { has = rest.has; made = rest.made ∙ ap (after_steps m.time (all_steps p.steps)) one.times }
