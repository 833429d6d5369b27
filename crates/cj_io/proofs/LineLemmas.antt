-- Bytes up to a line's end, and what a reader has still to give out.
use Rattle.std.specs.Prelude.{if◌then◌else◌}
use Rattle.std.proofs.Common.{Bool, true, false, subst, ◌≡◌, ℕ, ◌+◌, ◌<◌, ◌≤◌, List, [], ◌∷◌, ◌++◌, None, Some, length, take, drop, sym, ap, ◌∙◌, append_assoc, append-nil, Option, get_or, take-append-drop, take_all, le_refl, drop_of_length-le}
use Rattle.std.proofs.lemmas.List.{take_more, drop-drop}
use Rattle.std.specs.Io.KnownBytes.{Consumes, IsAtEnd, prepend_known}
use Rattle.std.proofs.KnownBytes.{Consumes-trans}
use Rattle.cj_io.specs.declared.taken.Kept.{Kept}
use Rattle.cj_io.specs.Lines.{IsKept}

-- bytes in two at a place where a line ends
pub split_at_end : (bytes : List ℕ) (k : ℕ) → k < length bytes → get_or bytes k 0 ≡ 10
    → bytes ≡ take k bytes ++ 10 ∷ drop (k + 1) bytes
split_at_end bytes k lt is =
    sym (take-append-drop (k + 1) bytes)
    ∙ ap (λ l. l ++ drop (k + 1) bytes) (take_more bytes k 0 lt ∙ ap (λ y. take k bytes ++ y ∷ []) is)
    ∙ append_assoc (take k bytes) (10 ∷ []) (drop (k + 1) bytes)

-- the same of what waits in a chunk from a place on
pub waits_behind_end : (chunk rest : List ℕ) (begin k : ℕ) → rest ≡ drop begin chunk → k < length rest
    → get_or rest k 0 ≡ 10 → drop begin chunk ≡ take k rest ++ 10 ∷ drop (begin + (k + 1)) chunk
waits_behind_end chunk rest begin k is lt at =
    sym is ∙ split_at_end rest k lt at
    ∙ ap (λ l. take k rest ++ 10 ∷ l) (ap (drop (k + 1)) is ∙ drop-drop (k + 1) begin chunk)

-- where no line ends in it all of it is taken
pub waits_no_more : (chunk rest : List ℕ) (begin k : ℕ) → rest ≡ drop begin chunk → length rest ≤ k
    → drop begin chunk ≡ take k rest ++ drop (length chunk) chunk
waits_no_more chunk rest begin k is all =
    sym is ∙ sym (take_all k rest all) ∙ sym (append-nil (take k rest))
    ∙ ap (λ l. take k rest ++ l) (sym (drop_of_length-le chunk (le_refl _)))

-- a read into an empty chunk leaves what is coming as it was
pub filled : (left left' : Option (List ℕ)) (waits : List ℕ) → Consumes left left' waits
    → Consumes (prepend_known [] left) (prepend_known waits left') []
filled None left' waits read = tt
filled (Some xs) None waits read = absurd read
filled (Some xs) (Some ys) waits read = read

-- a part that is taken is what was coming first
pub taken : (left : Option (List ℕ)) (waits part rest : List ℕ) → waits ≡ part ++ rest
    → Consumes (prepend_known waits left) (prepend_known rest left) part
taken None waits part rest is = tt
taken (Some xs) waits part rest is = ap (λ l. l ++ xs) is ∙ append_assoc part rest xs

-- at the end of the input with nothing waiting nothing is coming
pub ended : (left : Option (List ℕ)) → IsAtEnd left → IsAtEnd (prepend_known [] left)
ended None end = tt
ended (Some xs) end = end

-- where nothing was seen and nothing is coming, nothing was coming
pub nothing_came : (old new : Option (List ℕ)) → Consumes old new [] → IsAtEnd new → IsAtEnd old
nothing_came None new came end = tt
nothing_came (Some xs) None came end = absurd came
nothing_came (Some xs) (Some ys) came end = came ∙ end

-- up to a line's end, with the end
pub takes_line : (chunk rest : List ℕ) (begin k : ℕ) (left : Option (List ℕ)) → rest ≡ drop begin chunk
    → k < length rest
    → get_or rest k 0 ≡ 10
    → Consumes (prepend_known (drop begin chunk) left) (prepend_known (drop (begin + (k + 1)) chunk) left)
    (take k rest ++ 10 ∷ [])
takes_line chunk rest begin k left is lt at =
    let behind = drop (begin + (k + 1)) chunk in
    taken left (drop begin chunk) (take k rest ++ 10 ∷ []) behind
    (waits_behind_end chunk rest begin k is lt at ∙ sym (append_assoc (take k rest) (10 ∷ []) behind))

-- all that waits
pub takes_part : (chunk rest : List ℕ) (begin k : ℕ) (left : Option (List ℕ)) → rest ≡ drop begin chunk
    → length rest ≤ k
    → Consumes (prepend_known (drop begin chunk) left) (prepend_known (drop (length chunk) chunk) left)
    (take k rest ++ [])
takes_part chunk rest begin k left is all =
    let behind = drop (length chunk) chunk in
    taken left (drop begin chunk) (take k rest ++ []) behind
    (waits_no_more chunk rest begin k is all ∙ ap (λ l. l ++ behind) (sym (append-nil (take k rest))))

-- where nothing more came, what was seen stays so
pub seen_same : (start mid now : Option (List ℕ)) (seen : List ℕ) → Consumes start mid seen → Consumes mid now []
    → Consumes start now seen
seen_same start mid now seen came more =
    subst (Consumes start now) (append-nil seen) (Consumes-trans start mid now seen [] came more)

-- a part more is seen
pub seen_more : (start mid now : Option (List ℕ)) (seen part : List ℕ) (end : Bool) → end ≡ false
    → Consumes start mid seen
    → Consumes mid now (part ++ (if end then 10 ∷ [] else [])) → Consumes start now (seen ++ part)
seen_more start mid now seen part end is came more =
    Consumes-trans start mid now seen part came
    (subst (Consumes mid now) (ap (λ b. part ++ (if b then 10 ∷ [] else [])) is ∙ append-nil part) more)

-- and a part with the line's end
pub seen_line : (start mid now : Option (List ℕ)) (seen part : List ℕ) (end : Bool) → end ≡ true
    → Consumes start mid seen
    → Consumes mid now (part ++ (if end then 10 ∷ [] else [])) → Consumes start now ((seen ++ part) ++ 10 ∷ [])
seen_line start mid now seen part end is came more =
    subst (Consumes start now) (sym (append_assoc seen part (10 ∷ [])))
    (Consumes-trans start mid now seen (part ++ 10 ∷ []) came
    (subst (Consumes mid now) (ap (λ b. part ++ (if b then 10 ∷ [] else [])) is) more))

-- what is kept, by values that are the same
pub kept_same : (state state' : Kept) (kept kept' line : List ℕ) → state' ≡ state → kept' ≡ kept
    → IsKept state kept line
    → IsKept state' kept' line
kept_same state state' kept kept' line is same h =
    subst (λ (x : Kept). IsKept x kept' line) (sym is) (subst (λ (x : List ℕ). IsKept state x line) (sym same) h)
