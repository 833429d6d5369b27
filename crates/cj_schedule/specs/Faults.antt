-- The fault of a text that is no schedule, by the grammar: a fault of the whole text, or the first
-- faulty element from the left, with its place.
use Rattle.std.specs.Prelude.{◌≡◌, ◌≢◌, ◌⊎◌, ℕ, ◌+◌, ◌<◌, ◌≤◌, ◌==◌, true, false, not, List, [], ◌∷◌, ◌++◌, length, None, codes}
use Rattle.std.specs.List.{list_all}
use Rattle.cj_base.specs.declared.schedule_fault.ScheduleCause.{ScheduleCause}
use Rattle.cj_base.specs.declared.schedule_fault.ScheduleCause.TheVariants.{Length, Empty, Zone, Macro, Fields, Syntax, Range, Order, Step}
use Rattle.cj_base.specs.declared.schedule_fault.ScheduleFault.{ScheduleFault}
use Rattle.cj_schedule.specs.declared.element.Element.{Element}
use Rattle.cj_schedule.specs.declared.field_kind.FieldKind.{FieldKind}
use Rattle.cj_schedule.specs.declared.field_kind.FieldKind.TheVariants.{Minute, Hour, Day, Month, Weekday}
use Rattle.cj_schedule.specs.Kinds.{field_number}
use Rattle.cj_schedule.specs.Pieces.{Piece, is_blank, comma}
use Rattle.cj_schedule.specs.Grammar.{are_blanks, IsApart, AreWords, IsElement, IsList, meaning_of}
use Rattle.cj_schedule.specs.Causes.{IsCause}
use Rattle.cj_schedule.specs.Reading.{begins, has_zone}

-- the words of a text that begins at this place, each with the place of its first byte
abbrev pub ArePlaced : ℕ → List ℕ → List Piece → Type 0
ArePlaced place text [] = are_blanks text ≡ true
ArePlaced place text (word ∷ words) =
    (blanks rest : List ℕ) × (text ≡ blanks ++ (word.text ++ rest)) × (are_blanks blanks ≡ true)
    × (word.place ≡ place + length blanks) × (1 ≤ length word.text)
    × (list_all (λ b. not (is_blank b)) word.text ≡ true) × IsApart rest
    × ArePlaced (word.place + length word.text) rest words

-- the text is at its end or goes on with a comma
abbrev pub EndsElement : List ℕ → Type 0
EndsElement [] = Unit {0}
EndsElement (b ∷ bs) = b ≡ comma

-- the word, which begins at this place, has these elements, each with a comma after it, and then,
-- at the byte, one that is refused for the cause
abbrev pub IsListFault : FieldKind → ℕ → List ℕ → List Element → ℕ → ScheduleCause → Type 0
IsListFault kind place word [] byte cause =
    (element rest : List ℕ) × (word ≡ element ++ rest)
    × (list_all (λ b. not (b == comma)) element ≡ true)
    × EndsElement rest × IsCause kind element cause × (byte ≡ place)
IsListFault kind place word (e ∷ es) byte cause =
    (front back : List ℕ) × (word ≡ front ++ comma ∷ back) × IsElement kind front e
    × IsListFault kind (place + (length front + 1)) back es byte cause

-- the fault is one of the field with this word
abbrev pub IsFieldFault : FieldKind → Piece → ScheduleFault → Type 0
IsFieldFault kind word fault =
    (es : List Element) × IsListFault kind word.place word.text es fault.byte fault.cause
    × (fault.field ≡ field_number kind)

-- the word is a list of the field
abbrev pub IsField : FieldKind → Piece → Type 0
IsField kind word = (es : List Element) × IsList kind word.text es

-- the fault is that of the first faulty one of the five fields
abbrev pub IsFirstFault : Piece → Piece → Piece → Piece → Piece → ScheduleFault → Type 0
IsFirstFault minute hour day month weekday fault =
    IsFieldFault Minute minute fault
    ⊎ (IsField Minute minute × (IsFieldFault Hour hour fault
    ⊎ (IsField Hour hour × (IsFieldFault Day day fault
    ⊎ (IsField Day day × (IsFieldFault Month month fault
    ⊎ (IsField Month month × IsFieldFault Weekday weekday fault)))))))

-- the text has five words, and the fault is one of a field
abbrev pub HasFieldFault : List ℕ → ScheduleFault → Type 0
HasFieldFault text fault =
    (minute hour day month weekday : Piece)
    × ArePlaced 0 text (minute ∷ hour ∷ day ∷ month ∷ weekday ∷ [])
    × IsFirstFault minute hour day month weekday fault

-- the first word names no zone, and is no macro
abbrev pub BeginsAsField : List ℕ → Type 0
BeginsAsField word = (has_zone word ≡ false) × (begins (codes "@") word ≡ false)

-- a fault of the whole text, the first row that holds: longer than 1,024 bytes, nothing but blanks,
-- a zone in the first word, a macro that isn't in the table or isn't alone, and not five words
abbrev pub IsTextFault : List ℕ → ScheduleCause → Type 0
IsTextFault text Length = 1024 < length text
IsTextFault text Empty = (length text ≤ 1024) × (are_blanks text ≡ true)
IsTextFault text Zone =
    (word : List ℕ) × (words : List (List ℕ)) × (length text ≤ 1024) × AreWords text (word ∷ words)
    × (has_zone word ≡ true)
IsTextFault text Macro =
    (word : List ℕ) × (words : List (List ℕ)) × (length text ≤ 1024) × AreWords text (word ∷ words)
    × (has_zone word ≡ false)
    × (begins (codes "@") word ≡ true) × ((words ≢ []) ⊎ (meaning_of word ≡ None))
IsTextFault text Fields =
    (word : List ℕ) × (words : List (List ℕ)) × (length text ≤ 1024) × AreWords text (word ∷ words)
    × BeginsAsField word
    × (length words ≢ 4)
IsTextFault text Syntax = ⊥
IsTextFault text Range = ⊥
IsTextFault text Order = ⊥
IsTextFault text Step = ⊥

-- the fault is one of the whole text, at field 0 and byte 0, or one of a field
-- rule: one-fault
abbrev pub IsFault : List ℕ → ScheduleFault → Type 0
IsFault text fault =
    ((fault.field ≡ 0) × (fault.byte ≡ 0) × IsTextFault text fault.cause)
    ⊎ ((length text ≤ 1024) × HasFieldFault text fault)
