-- The elements and fields of a schedule's text: POSIX crontab, "fields .. separated by <blank>
-- characters", "elements separated by commas".
use Rattle.std.specs.Prelude.{◌≡◌, ◌⊎◌, ℕ, suc, ◌==◌, ◌||◌, Bool, true, false, List, [], ◌∷◌, drop, if◌then◌else◌}
use Rattle.std.specs.List.{before_first}
use Rattle.std.specs.Str.{IsCharBoundary}

-- a space or a tab
abbrev pub is_blank : ℕ → Bool
is_blank b = (b == 32) || (b == 9)

-- what an element ends before
abbrev pub is_end : ℕ → Bool
is_end b = (b == 44) || is_blank b

-- the text before the first comma or blank
abbrev pub element_of : List ℕ → List ℕ
element_of text = before_first is_end text

-- the element that begins at the byte; nothing where no character begins there
abbrev pub IsShown : List ℕ → ℕ → List ℕ → Type 0
IsShown text byte shown = (shown ≡ element_of (drop byte text))
    ⊎ (¬ (IsCharBoundary text byte) × (shown ≡ []))

-- a field begins where a byte that is no blank follows a blank or nothing
abbrev pub count_from : Bool → List ℕ → ℕ
count_from is_inside [] = 0
count_from true (b ∷ bs) = count_from (if is_blank b then false else true) bs
count_from false (b ∷ bs) = if is_blank b then count_from false bs else suc (count_from true bs)

abbrev pub field_count : List ℕ → ℕ
field_count text = count_from false text
