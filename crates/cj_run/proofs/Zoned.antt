-- The zones of what a history claims, whichever entry comes first.
use Rattle.std.proofs.Common.{Bool, List, [], ◌∷◌, sym, subst}
use mathlib.Core.List.{reverse}
use Rattle.std.proofs.lemmas.List.{reverse-append, reverse-reverse}
use Rattle.std.proofs.lemmas.List.Elements.{All-append, All-cons, All-head, All-nil, All-tail}
use Rattle.std.specs.Prelude.{◌↔◌, All, IsTrue}
use Rattle.cj_zone.specs.declared.table.ZoneTable.{ZoneTable}
use Rattle.cj_calls.specs.Rows.{Told}
use Rattle.cj_run.specs.Zones.{AreZoned, HasZone}

-- What holds of all of a list holds of all of it from its end on.
all_reversed : {X : Type 0} (P : X → Type 0) (xs : List X) → All P xs → All P (reverse xs)
all_reversed P [] h = All-nil P
all_reversed P (x ∷ xs) h =
    subst (λ ys. All P ys) (sym (reverse-append (x ∷ []) xs))
    (All-append P (reverse xs) (x ∷ []) (all_reversed P xs (All-tail P x xs h))
    (All-cons P x [] (All-head P x xs h) (All-nil P)))

-- For are_zoned: the entries have their zones just where the history has them.
pub are_zoned : (zones : ZoneTable) (es : List Told) (b : Bool)
    → (IsTrue b ↔ All (λ e. HasZone zones e.call) es) → IsTrue b ↔ AreZoned zones (reverse es)
are_zoned zones es b iff = (
  (λ t. all_reversed (λ (e : Told). HasZone zones e.call) es (iff.0 t)),
  (λ all.
      iff.1 (subst (λ xs. All (λ (e : Told). HasZone zones e.call) xs) (reverse-reverse es)
      (all_reversed (λ (e : Told). HasZone zones e.call) (reverse es) all))),
)
