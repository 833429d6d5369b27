-- A history that is read once, from its oldest entry on: what it tells, and how far its syncs came.
use Rattle.std.proofs.Common.{◌≡◌, ◌∙◌, ◌&&◌, ◌||◌, ℕ, Bool, true, false, cond, if◌then◌else◌, List, [], ◌∷◌, Option, Some, None, refl, ap, arith}
use Rattle.std.specs.Prelude.{◌==◌}
use Rattle.std.proofs.lemmas.Bool.Decides.{nat_tests}
use Rattle.std.specs.Ordering.{nat_cmp, is_eq, ordering_then}
use Rattle.std.specs.declared.cmp.Ordering.{Ordering}
use Rattle.std.specs.declared.cmp.Ordering.TheVariants.{Less, Equal, Greater}
use Rattle.std.specs.BTreeMap as tree
use Rattle.std.specs.BTreeSet as set
use Rattle.std.specs.List.{list_any}
use Rattle.std.specs.Map.{lookup}
use Rattle.cj_calls.specs.Rows.{Told}
use Rattle.cj_history.specs.declared.gaps.mark.Deed.{Deed}
use Rattle.cj_history.specs.declared.gaps.mark.Deed.TheVariants.{Claimed, Refused, Made}
use Rattle.cj_history.specs.declared.gaps.mark.Start.{Start}
use Rattle.cj_history.specs.declared.gaps.mark.Mark.{Mark}
use Rattle.cj_history.specs.declared.gaps.marks.Marks.{Marks}
use Rattle.cj_history.specs.contracts.gaps.mark.DeedOrd.TheImpl as deed
use Rattle.cj_history.specs.gaps.Marks.{is_deed, is_mark, newer, start_in, claim_mark, making_mark, mark_of, says}
use Rattle.cj_history.specs.gaps.reading.Known.{mark_cmp, claim_by, has_in, Claims, Tells, Knows}

-- ---- marks

-- Numbers compare as equal just where they are one.
pub eq_nat : (a b : ℕ) → is_eq (nat_cmp a b) ≡ (a == b)
eq_nat a b = grind (arith, nat_tests)

-- Two orders, one asked after the other, say equal just where both do.
pub both_eq : (o p : Ordering) → is_eq (ordering_then o p) ≡ (is_eq o && is_eq p)
both_eq Less p = refl
both_eq Equal p = refl
both_eq Greater p = refl

-- Deeds compare as equal just where they are one.
eq_deed : (a b : Deed) → is_eq (deed.ghosts.cmp a b) ≡ is_deed a b
eq_deed Claimed Claimed = refl
eq_deed Claimed Refused = refl
eq_deed Claimed Made = refl
eq_deed Refused Claimed = refl
eq_deed Refused Refused = refl
eq_deed Refused Made = refl
eq_deed Made Claimed = refl
eq_deed Made Refused = refl
eq_deed Made Made = refl

-- Marks compare as equal just where they are one.
pub eq_mark : (a b : Mark) → is_eq (mark_cmp a b) ≡ is_mark a b
eq_mark a b =
    both_eq (nat_cmp a.uid b.uid) (ordering_then (nat_cmp a.time b.time) (deed.ghosts.cmp a.deed b.deed))
    ∙ ap (λ (x : Bool). x && is_eq (ordering_then (nat_cmp a.time b.time) (deed.ghosts.cmp a.deed b.deed)))
    (eq_nat a.uid b.uid)
    ∙ ap (λ (x : Bool). (a.uid == b.uid) && x) (
    both_eq (nat_cmp a.time b.time) (deed.ghosts.cmp a.deed b.deed)
    ∙ ap (λ (x : Bool). x && is_eq (deed.ghosts.cmp a.deed b.deed)) (eq_nat a.time b.time)
    ∙ ap (λ (x : Bool). (a.time == b.time) && x) (eq_deed a.deed b.deed)
    )

-- For tells_one: what is put in stands there, beside what stood there.
cond_or : (x y : Bool) → cond x true y ≡ (x || y)
cond_or true y = refl
cond_or false y = refl

-- With one mark put in, just that is told more.
pub tells_one : (m : Mark) (before after : set.BTreeSet Mark) → set.Updates mark_cmp before after m true
    → Tells (Some m) before after
tells_one m before after u = λ q.
    u.0 q ∙ ap (λ (x : Bool). cond x true (has_in before q)) (eq_mark m q) ∙ cond_or (is_mark m q) (has_in before q)

-- Of no entry nothing is told.
pub knows_nothing : (t : Marks) → tree.IsEmpty t.claims → set.IsEmpty t.marks → Knows t []
knows_nothing t claims marks = record {
  claims = λ number. ap (λ (es : List (ℕ × Start)). lookup (tree.is_at (nat_cmp number)) es) claims;
  told = λ m. ap (λ (ks : List Mark). list_any (tree.is_at (mark_cmp m)) ks) marks;
}

-- One entry more: what it tells of the time that its caller had claimed before it, and what it claims.
pub knows_more : (e : Told) (a b c : Marks) (number : ℕ) (start : Option Start) (making : Option Mark)
    → number ≡ e.caller.number → start ≡ start_in e.call e.answer
    → making ≡ making_mark (claim_by a.claims number) e.call e.answer
    → Tells (newer (claim_mark start) making) a.marks b.marks → b.claims ≡ a.claims
    → Claims number start b.claims c.claims → c.marks ≡ b.marks → (h : List Told) → Knows a h → Knows c (e ∷ h)
knows_more e a b c number start making n s m tells claims_stay claims marks_stay h knows = record {
  claims = λ other.
      claims other
      ∙ ap (λ (t : tree.BTreeMap ℕ Start). newer (if number == other then start else None) (claim_by t other))
      claims_stay
      ∙ ap (λ (x : ℕ). newer (if x == other then start else None) (claim_by a.claims other)) n
      ∙ ap (λ (o : Option Start). newer (if e.caller.number == other then o else None) (claim_by a.claims other)) s
      ∙ ap (λ (o : Option Start). newer (if e.caller.number == other then start_in e.call e.answer else None) o)
      (knows.claims other);
  told = λ q.
      ap (λ (t : set.BTreeSet Mark). has_in t q) marks_stay
      ∙ tells q
      ∙ ap (λ (o : Option Start). says (newer (claim_mark o) making) q || has_in a.marks q) s
      ∙ ap (λ (o : Option Mark). says (newer (claim_mark (start_in e.call e.answer)) o) q || has_in a.marks q)
      (m ∙ ap (λ (x : ℕ). making_mark (claim_by a.claims x) e.call e.answer) n
      ∙ ap (λ (o : Option Start). making_mark o e.call e.answer) (knows.claims e.caller.number))
      ∙ ap (λ (x : Bool). says (mark_of h e) q || x) (knows.told q);
}
