-- Lists without some of their members.
use Rattle.std.proofs.Common.{List, [], ◌∷◌, ◌++◌, refl, inl, inr}
use Rattle.cj_runner.specs.Ends.{IsPart}

-- A part of a list is a part of it with a member more in front.
pub part_skip : {X : Type 0} (xs ys : List X) (y : X) → IsPart xs ys → IsPart xs (y ∷ ys)
part_skip [] ys y h = tt
part_skip (x ∷ xs) ys y h = inr h

-- A part of a list is a part of it with any others in front.
pub part_after : {X : Type 0} (xs ys zs : List X) → IsPart xs ys → IsPart xs (zs ++ ys)
part_after xs ys [] h = h
part_after xs ys (z ∷ zs) h = part_skip xs (zs ++ ys) z (part_after xs ys zs h)

-- A part of a list, with others in front of both, is a part still.
pub part_both : {X : Type 0} (xs ys zs : List X) → IsPart xs ys → IsPart (zs ++ xs) (zs ++ ys)
part_both xs ys [] h = h
part_both xs ys (z ∷ zs) h = inl (refl, part_both xs ys zs h)

-- A part of a list is a part of it with any others behind.
pub part_before : {X : Type 0} (xs ys zs : List X) → IsPart xs ys → IsPart xs (ys ++ zs)
part_before [] ys zs h = tt
part_before (x ∷ xs) [] zs h = absurd h
part_before (x ∷ xs) (y ∷ ys) zs h = elim h [
  | inl a ↦ inl (a.0, part_before xs ys zs a.1)
  | inr b ↦ inr
      (part_before (x ∷ xs) ys zs b)
]

-- A part of a list, with the same member behind both, is a part still.
pub part_kept : {X : Type 0} (xs ys : List X) (y : X) → IsPart xs ys → IsPart (xs ++ y ∷ []) (ys ++ y ∷ [])
part_kept [] [] y h = inl (refl, tt)
part_kept [] (z ∷ ys) y h = inr (part_kept [] ys y tt)
part_kept (x ∷ xs) [] y h = absurd h
part_kept (x ∷ xs) (z ∷ ys) y h = elim h [
  | inl a ↦ inl (a.0, part_kept xs ys y a.1)
  | inr b ↦ inr
      (part_kept (x ∷ xs) ys y b)
]
