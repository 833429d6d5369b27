-- What a set of starts gains, step by step.
use Rattle.std.proofs.Common.{◌≡◌, ◌⊎◌, inl, inr, Bool, true, false, cond, refl, sym, ap, ◌∙◌}
use Rattle.std.specs.BTreeSet.{BTreeSet, contains, Updates}
use Rattle.std.specs.Ordering.{is_eq}
use Rattle.std.specs.declared.cmp.Ordering.{Ordering}
use Rattle.std.specs.declared.cmp.Ordering.TheVariants.{Less, Equal, Greater}
use Rattle.std.proofs.lemmas.Cmp.{tied_itself}
use Rattle.cj_upcoming.specs.declared.start.Start.{Start}
use Rattle.cj_upcoming.specs.Starts.{start_cmp, starts_total}
use Rattle.cj_upcoming.specs.Notes.{Notes}
use Rattle.cj_upcoming.proofs.Orders.{starts_exact}

-- Of the three orders only Equal is a tie.
pub tie : (r : Ordering) → is_eq r ≡ true → r ≡ Equal
tie Less e = absurd (cc e)
tie Equal e = refl
tie Greater e = absurd (cc e)

-- For note: with one start put in, the set has gained just this one.
pub note_one : (f : Start) (old new : BTreeSet Start) → Updates start_cmp old new f true
    → Notes (λ g. g ≡ f) old new
note_one f old new updates = record {
  found = λ g h. by (is_eq (start_cmp f g)) (contains start_cmp old g) g refl (sym (updates.0 g) ∙ h);
  kept = λ g h. updates.0 g ∙ either (is_eq (start_cmp f g)) (contains start_cmp old g) h;
  noted = λ g h. updates.0 g ∙ ap (λ b. cond b true (contains start_cmp old g)) (
      ap (λ x. is_eq (start_cmp f x)) h ∙ ap is_eq (tied_itself starts_total f)
      );
}
  where
    by : (b was : Bool) (g : Start) → is_eq (start_cmp f g) ≡ b → cond b true was ≡ true → (was ≡ true) ⊎ (g ≡ f)
    by true was g e h = inr (sym (starts_exact f g (tie (start_cmp f g) e)))
    by false was g e h = inl h

    either : (b was : Bool) → was ≡ true → cond b true was ≡ true
    either true was h = refl
    either false was h = h

module _ (P Q : Start → Type 0) where
  -- What gains P and then Q gains both.
  pub notes_then : (a b c : BTreeSet Start) → Notes P a b → Notes Q b c → Notes (λ f. P f ⊎ Q f) a c
  notes_then a b c n m = record {
    found = λ f h. elim (m.found f h) [
      | inl was ↦ elim (n.found f was) [ inl older ↦ inl older | inr p ↦ inr (inl p) ]
      | inr q ↦ inr (inr q)
    ];
    kept = λ f h. m.kept f (n.kept f h);
    noted = λ f h. elim h [ inl p ↦ m.kept f (n.noted f p) | inr q ↦ m.noted f q ];
  }

  -- What gains P gains what is the same in other words.
  pub notes_as : (a b : BTreeSet Start) → ((f : Start) → P f → Q f) → ((f : Start) → Q f → P f) → Notes P a b
      → Notes Q a b
  notes_as a b to from n = record {
    found = λ f h. elim (n.found f h) [ inl was ↦ inl was | inr p ↦ inr (to f p) ];
    kept = n.kept;
    noted = λ f q. n.noted f (from f q);
  }

-- Where P holds of no start, a set that stays as it is has gained P.
pub notes_none : (P : Start → Type 0) (a : BTreeSet Start) → ((f : Start) → P f → ⊥) → Notes P a a
notes_none P a none = record { found = λ f h. inl h; kept = λ f h. h; noted = λ f p. absurd (none f p) }
