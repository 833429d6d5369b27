-- Undisturbed syncs, entry by entry.
use Rattle.std.proofs.Common.{◌≡◌, ◌⊎◌, inl, inr, ℕ, ◌==◌, Bool, true, false, List, [], ◌∷◌, ◌++◌, refl, sym, ap, subst}
use Rattle.std.specs.Prelude.{if◌then◌else◌}
use Rattle.cj_fence.specs.declared.call.Call.{Call}
use Rattle.cj_fence.specs.declared.answer.Answer.{Answer}
use Rattle.cj_fence.specs.declared.answer.Stamp.{Stamp}
use Rattle.cj_fence.specs.Server.{served}
use Rattle.cj_fence.specs.Protocol.{Own, seen_of, advanced, May}
use Rattle.cj_fence.specs.History.{Deed, Asked, Wrote, Told, state_of, IsFresh, IsHeard, Answered, IsLegal, AllFollow, own_after, own}
use Rattle.cj_fence.specs.Others.{DeedKeepsTo, OthersKeepTo}
use Rattle.cj_fence.specs.Help.{IsPlain, IsOthers, LeavesAlone, IsBeside, Undisturbed}
use Rattle.cj_fence.proofs.FenceLemmas.Basics.{is_false}
use Rattle.cj_fence.proofs.FenceLemmas.Facts.{Inv}
use Rattle.cj_fence.proofs.FenceLemmas.Grows.{Grows}
use Rattle.cj_fence.proofs.FenceLemmas.Kept.{inv_kept}
use Rattle.cj_fence.proofs.FenceLemmas.Moves.{next}
use Rattle.cj_fence.proofs.FenceLemmas.Entries.{same_number, call_kept}
use Rattle.cj_fence.proofs.FenceLemmas.Whole.{followed, MayDo, may_do, self_number, entry_kept, always}

-- a call of an undisturbed sync
pub record Plain (me : List ℕ) (g : List Told) (t : Stamp) (y : ℕ) (call : Call) (a : Answer) : Type 0 where
  pub inv : Inv me g
  pub may : May (seen_of (own y g)) call
  pub is : a ≡ (served (state_of g) t call).answer
  pub grows : Grows me g (next g t (Asked y call true a)) t
  pub inv_next : Inv me (next g t (Asked y call true a))

-- What the sync knows after its call.
pub seen_next : (g : List Told) (t : Stamp) (y : ℕ) (call : Call) (reached : Bool) (a : Answer)
    → seen_of (own y (next g t (Asked y call reached a))) ≡ advanced (seen_of (own y g)) call a
seen_next g t y call reached a =
    ap (λ (b : Bool). seen_of (if b then record { call = call; answer = a } ∷ own y g else own y g)) (self_number y)

-- A call of an undisturbed sync keeps all facts.
plain_call : {me : List ℕ} (g : List Told) (t : Stamp) (y : ℕ) (call : Call) (a : Answer) → Inv me g → IsFresh g t
    → May (seen_of (own y g)) call → a ≡ (served (state_of g) t call).answer → Plain me g t y call a
plain_call {me} g t y call a f fresh m e =
    let k = call_kept g t y call true a f fresh m (Answered refl e) in
    record {
      inv = f;
      may = m;
      is = e;
      grows = k.change.grows;
      inv_next = inv_kept me g (next g t (Asked y call true a)) t f k.change;
    }

-- An entry of an undisturbed sync is such a call.
by_deed : {me : List ℕ} (y : ℕ) (P : List Told → Type 0)
    → ((g : List Told) (t : Stamp) (call : Call) (a : Answer) → Plain me g t y call a → P g
    → P (next g t (Asked y call true a)))
    → (g : List Told) (t : Stamp) (d : Deed) → IsPlain y g t d → Inv me g → IsFresh g t → MayDo g d → P g
    → P (next g t d)
by_deed y P step g t (Wrote w) p f fresh m before = absurd p
by_deed y P step g t (Asked x call false a) p f fresh m before = absurd (cc p.1)
by_deed y P step g t (Asked x call true a) p f fresh m before =
    let may = subst (λ (z : ℕ). May (seen_of (own z g)) call) p.0 m in
    subst (λ (z : ℕ). P (next g t (Asked z call true a))) (sym p.0)
    (step g t call a (plain_call g t y call a f fresh may p.2) before)

-- an entry of others that leaves the CronJob of this uid alone
pub record Beside (me : List ℕ) (g : List Told) (t : Stamp) (y : ℕ) (d : Deed) : Type 0 where
  pub inv : Inv me g
  pub grows : Grows me g (next g t d) t
  pub inv_next : Inv me (next g t d)
  pub same : own y (next g t d) ≡ own y g
  pub leaves : LeavesAlone me (state_of g) (state_of (next g t d))

-- What others do is no call of the sync.
same_own : (y : ℕ) (d : Deed) (os : List Own) → IsOthers y d → own_after y d os ≡ os
same_own y (Wrote w) os n = refl
same_own y (Asked x call reached a) os n =
    ap (λ (b : Bool). if b then record { call = call; answer = a } ∷ os else os)
    (is_false (x == y) (λ e. n (same_number x y e)))

-- An entry of others keeps all facts.
beside : {me : List ℕ} (g : List Told) (t : Stamp) (y : ℕ) (d : Deed) → Inv me g → IsFresh g t → IsHeard g t d
    → MayDo g d → DeedKeepsTo me (state_of g) d → IsBeside me y (state_of g) t d → Beside me g t y d
beside {me} g t y d f fresh heard m o b =
    let k = entry_kept g t d f fresh heard m o in
    record {
      inv = f;
      grows = k.change.grows;
      inv_next = inv_kept me g (next g t d) t f k.change;
      same = same_own y d (own y g) b.others;
      leaves = b.leaves;
    }

-- An entry of an undisturbed sync, or of others meanwhile, is one of the two.
by_entry : {me : List ℕ} (y : ℕ) (P : List Told → Type 0)
    → ((g : List Told) (t : Stamp) (call : Call) (a : Answer) → Plain me g t y call a → P g
    → P (next g t (Asked y call true a)))
    → ((g : List Told) (t : Stamp) (d : Deed) → Beside me g t y d → P g → P (next g t d))
    → (g : List Told) (t : Stamp) (d : Deed) → IsPlain y g t d ⊎ IsBeside me y (state_of g) t d → Inv me g
    → IsFresh g t → IsHeard g t d → MayDo g d → DeedKeepsTo me (state_of g) d → P g → P (next g t d)
by_entry y P step aside g t d (inl p) f fresh heard m o before = by_deed y P step g t d p f fresh m before
by_entry y P step aside g t d (inr b) f fresh heard m o before =
    aside g t d (beside g t y d f fresh heard m o b) before

-- What each call of an undisturbed sync keeps, and each entry of others meanwhile, holds at its end.
pub run : (me : List ℕ) (y : ℕ) (h : List Told) (P : List Told → Type 0) → P h
    → ((g : List Told) (t : Stamp) (call : Call) (a : Answer) → Plain me g t y call a → P g
    → P (next g t (Asked y call true a)))
    → ((g : List Told) (t : Stamp) (d : Deed) → Beside me g t y d → P g → P (next g t d))
    → (es : List Told) → IsLegal (es ++ h) → AllFollow (es ++ h) → OthersKeepTo me (es ++ h) → Undisturbed me y es h
    → P (es ++ h)
run me y h P base step aside [] l a o u = base
run me y h P base step aside (e ∷ es) l a o u =
    let before = λ (z : ℕ). followed z e.deed (own z (es ++ h)) (a z) in
    by_entry y P step aside (es ++ h) e.stamp e.deed u.0 (always me (es ++ h) l.2 before o.1) l.0 l.1
    (may_do (es ++ h) e.deed a) o.0 (run me y h P base step aside es l.2 before o.1 u.1)

-- What each entry keeps holds after any number of them.
pub onward : (me : List ℕ) (h : List Told) (P : List Told → Type 0) → (Inv me h → P h)
    → ((g : List Told) (t : Stamp) (d : Deed) → Inv me g → Grows me g (next g t d) t → Inv me (next g t d) → P g
    → P (next g t d))
    → (es : List Told) → IsLegal (es ++ h) → AllFollow (es ++ h) → OthersKeepTo me (es ++ h) → P (es ++ h)
onward me h P base step [] l a o = base (always me h l a o)
onward me h P base step (e ∷ es) l a o =
    let before = λ (z : ℕ). followed z e.deed (own z (es ++ h)) (a z) in
    let f = always me (es ++ h) l.2 before o.1 in
    let k = entry_kept (es ++ h) e.stamp e.deed f l.0 l.1 (may_do (es ++ h) e.deed a) o.0 in
    step (es ++ h) e.stamp e.deed f k.change.grows
    (inv_kept me (es ++ h) (next (es ++ h) e.stamp e.deed) e.stamp f k.change)
    (onward me h P base step es l.2 before o.1)

-- The histories behind an undisturbed sync keep what is asked of the whole.
pub legal_before : (h es : List Told) → IsLegal (es ++ h) → IsLegal h
legal_before h [] l = l
legal_before h (e ∷ es) l = legal_before h es l.2

-- Each sync followed the protocol in what came before.
pub followed_before : (h es : List Told) → AllFollow (es ++ h) → AllFollow h
followed_before h [] a = a
followed_before h (e ∷ es) a = followed_before h es (λ z. followed z e.deed (own z (es ++ h)) (a z))

-- Others kept to the premises in what came before.
pub kept_before : (me : List ℕ) (h es : List Told) → OthersKeepTo me (es ++ h) → OthersKeepTo me h
kept_before me h [] o = o
kept_before me h (e ∷ es) o = kept_before me h es o.1
