-- What others call leaves the times for which Jobs were made for a CronJob: during a sync of it,
-- and between its syncs.
use Rattle.std.proofs.Common.{◌≡◌, ℕ, ◌<◌, ◌==◌, true, false, List, [], ◌∷◌, ◌++◌, Option, Some, None, refl, sym, ap, subst, ◌∙◌, arith}
use Rattle.std.specs.Prelude.{IfSome}
use Rattle.std.specs.FinMap as map
use Rattle.cj_types.specs.Keys.{Place}
use Rattle.cj_types.specs.declared.cron.CronJob.{CronJob}
use Rattle.cj_types.specs.declared.event.Event.{Event}
use Rattle.cj_decide.specs.laws.Fits.{upto}
use Rattle.cj_decide.specs.laws.Laws.{IsIn}
use Rattle.cj_calls.specs.Rows.{Told}
use Rattle.cj_state.specs.declared.phases.sync.InFlight.{InFlight}
use Rattle.cj_state.specs.Legal.{IsLegal, state_of}
use Rattle.cj_world_laws.specs.legal.InFlightSyncs.{sync}
use Rattle.cj_world_laws.specs.once.Once.{Claimed, makes}
use Rattle.cj_world_laws.proofs.LegalLemmas.HeldSyncs.{one_holder}
use Rattle.cj_world_laws.proofs.OnceLemmas.Facts.{EachTime}
use Rattle.cj_history.specs.store.Written.{current_cron}
use Rattle.cj_history.specs.store.Writes.{entry_written, with_write, writes}
use Rattle.cj_history.specs.progress.Undisturbed.{worker, object_of, is_of, AreAside}
use Rattle.cj_history.specs.progress.Every.{AreOthers, times_of, made_for}
use Rattle.cj_history.proofs.StoreLemmas.Stores.{store_agrees}
use Rattle.cj_history.proofs.GapsLemmas.Whole.{same_nat}
use Rattle.cj_history.proofs.ProgressLemmas.Aside.{caller_is, cron_aside, sync_aside, same_aside}
use Rattle.cj_history.proofs.ProgressLemmas.Makers.{Good, earlier, Makes, of_times, times_left}
use Rattle.cj_history.proofs.ProgressLemmas.Restated.{Has}

-- ---- during a sync

-- the worker holds the key
pub record Holds (h : List Told) (w : ℕ) (k : Place) : Type 0 where
  pub sits : InFlight
  pub held : sync h w ≡ Some sits
  pub key : sits.key ≡ k

-- Equal numbers are equal by the test.
pub is_same : (a b : ℕ) → a ≡ b → (b == a) ≡ true
is_same a b e = ap (λ (x : ℕ). b == x) e ∙ same_nat b

-- Who holds the key of a CronJob is the one that makes for it.
holder_makes : (window w : ℕ) (k : Place) (e : Told) (h : List Told) (c : CronJob) (m : Claimed) → IsLegal window h
    → Holds h w k → Makes window e h k c m → e.caller ≡ worker w
holder_makes window w k e h c m l f x =
    let one : e.caller.number ≡ w = one_holder window h l e.caller.number w x.sits f.sits x.held f.held
    (x.key ∙ sym f.key) in
    caller_is w e.caller (is_same e.caller.number w one) x.role

-- What others call aside leaves the worker holding its key.
pub holds_aside : (window w : ℕ) (k : Place) (q : Option Place) (es h : List Told) → IsLegal window (es ++ h)
    → AreAside w k q es h → Holds h w k → Holds (es ++ h) w k
holds_aside window w k q es h l a f = record {
  sits = f.sits;
  held = sync_aside window w k q es h l a ∙ f.held;
  key = f.key;
}

-- It leaves the CronJob.
pub has_aside : (window w : ℕ) (k : Place) (q : Option Place) (es h : List Told) (c : CronJob)
    → IsLegal window (es ++ h)
    → AreAside w k q es h → Has window k c h → Has window k c (es ++ h)
has_aside window w k q es h c l a f = record {
  now = f.now;
  stands = (same_aside window w k q es h l a).cron ∙ f.stands;
  same = f.same;
}

-- And it leaves the times that were made for it.
pub times_aside : (window w : ℕ) (k : Place) (q : Option Place) (es h : List Told) (c : CronJob) → Good window (es ++ h)
    → AreAside w k q es h → Holds h w k → Has window k c h
    → made_for window c.meta.uid (es ++ h) ≡ made_for window c.meta.uid h
times_aside window w k q [] h c g a f x = refl
times_aside window w k q (e ∷ es) h c g a f x =
    let old : Good window (es ++ h) = earlier window (e ∷ []) (es ++ h) g in
    let here : Holds (es ++ h) w k = holds_aside window w k q es h old.legal a.2 f in
    let there : Has window k c (es ++ h) = has_aside window w k q es h c old.legal a.2 x in
    subst (λ (u : ℕ). made_for window u (e ∷ (es ++ h)) ≡ made_for window u (es ++ h)) there.same.uid
    (times_left window e (es ++ h) g k there.now there.stands
    (λ m y. a.0 (holder_makes window w k e (es ++ h) there.now m old.legal here y)))
    ∙ times_aside window w k q es h c old a.2 f x

-- ---- between syncs

-- the last time that was scheduled, if there is one, has its Job
abbrev pub LastMade : ℕ → CronJob → List Told → Type 0
LastMade window c h = IfSome c.status.last_schedule_time (λ t. IsIn t (made_for window c.meta.uid h))

-- Where the last time has its Job, none is about to be made.
none_made : (u : ℕ) (last : Option ℕ) (t : ℕ) (ms : List Claimed) → IfSome last (λ x. IsIn x (times_of u ms))
    → t < upto last
    → EachTime u (λ x. x < t) ms → ⊥
none_made u None t ms f l a = absurd (omega (arith, l))
none_made u (Some x) t ms f l a = let b = of_times u (λ y. y < t) ms x a f in absurd (omega (arith, l, b))

-- For others_cron: a write that isn't of the CronJob, or none, leaves it.
cron_with : (k : Place) (ws : List Event) (o : Option Event) → IfSome o (λ x. is_of k None (object_of x) ≡ false)
    → current_cron (with_write o ws) k ≡ current_cron ws k
cron_with k ws None f = refl
cron_with k ws (Some x) f = cron_aside x k None (current_cron ws k) f

-- Entries that don't write the CronJob leave it.
pub others_cron : (window : ℕ) (k : Place) (es h : List Told) → IsLegal window (es ++ h) → IsLegal window h
    → AreOthers k es h → map.get (state_of window (es ++ h)).store.crons k ≡ map.get (state_of window h).store.crons k
others_cron window k es h l m a =
    (store_agrees window (es ++ h) l).crons k ∙ by es a ∙ sym ((store_agrees window h m).crons k)
  where
    by : (xs : List Told) → AreOthers k xs h → current_cron (writes (xs ++ h)) k ≡ current_cron (writes h) k
    by [] b = refl
    by (x ∷ xs) b =
        cron_with k (writes (xs ++ h)) (entry_written (writes (xs ++ h)) (sync (xs ++ h) x.caller.number) x.call
        x.answer) b.0
        ∙ by xs b.1

-- They leave the times that were made for it, where its last time has its Job.
pub others_times : (window : ℕ) (k : Place) (es h : List Told) (c : CronJob) → Good window (es ++ h) → AreOthers k es h
    → map.get (state_of window h).store.crons k ≡ Some c → LastMade window c h
    → made_for window c.meta.uid (es ++ h) ≡ made_for window c.meta.uid h
others_times window k [] h c g a at f = refl
others_times window k (e ∷ es) h c g a at f =
    let old : Good window (es ++ h) = earlier window (e ∷ []) (es ++ h) g in
    let rest = others_times window k es h c old a.1 at f in
    times_left window e (es ++ h) g k c
    (others_cron window k es h old.legal (earlier window es h old).legal a.1 ∙ at)
    (λ m y. none_made c.meta.uid c.status.last_schedule_time m.time (makes window (es ++ h))
    (last_still c.status.last_schedule_time rest f) y.last y.above)
    ∙ rest
  where
    last_still : (o : Option ℕ) → made_for window c.meta.uid (es ++ h) ≡ made_for window c.meta.uid h
        → IfSome o (λ t. IsIn t (made_for window c.meta.uid h))
        → IfSome o (λ t. IsIn t (made_for window c.meta.uid (es ++ h)))
    last_still None e n = tt
    last_still (Some t) e n = subst (λ (l : List ℕ). IsIn t l) (sym e) n
