-- A field is refused with its first fault, and five of them with that of the first faulty one.
use Rattle.std.proofs.Common.{◌≡◌, ℕ, ◌+◌, ◌==◌, not, Bool, true, List, [], ◌∷◌, ◌++◌, length, Some, Result, Err, refl, sym, ap, ◌∙◌, arith, inl, inr, append-nil}
use Rattle.std.proofs.lemmas.Bool.Decides.{nat_tests}
use Rattle.cj_base.specs.declared.schedule_fault.ScheduleCause.{ScheduleCause}
use Rattle.cj_base.specs.declared.schedule_fault.ScheduleFault.{ScheduleFault}
use Rattle.cj_schedule.specs.Causes.{IsCause}
use Rattle.cj_schedule.specs.Faults.{EndsElement, IsListFault, IsFieldFault, IsFirstFault}
use Rattle.cj_schedule.specs.Grammar.{IsElement}
use Rattle.cj_schedule.specs.Kinds.{field_number}
use Rattle.cj_schedule.specs.Numbers.{Lists}
use Rattle.cj_schedule.specs.Pieces.{Piece, comma, split, pieces_at}
use Rattle.cj_schedule.specs.Reading.{fault_at, elements_of, list_of, Five, lists_of}
use Rattle.cj_schedule.proofs.FirstSplits.{lacks, split_none, split_some}
use Rattle.cj_schedule.proofs.Elements.{is_inner, element_inner, element_complete}
use Rattle.cj_schedule.proofs.Lists.{elements_step, list_complete}
use Rattle.cj_schedule.proofs.Names.{list_all-weaker}
use Rattle.cj_schedule.proofs.Pieces.{pieces_split}
use Rattle.cj_schedule.proofs.OneFaultLemmas.Bases.{Kind, Element}
use Rattle.cj_schedule.proofs.OneFaultLemmas.Forms.{cause_read}

abbrev is_comma : ℕ → Bool
is_comma b = b == comma

abbrev bad : ScheduleFault → Result (List Element) ScheduleFault
bad fault = Err fault

abbrev failed : ScheduleFault → Result Lists ScheduleFault
failed fault = Err fault

-- ---- a list

-- A byte that an element may have is no comma.
inner_no_comma : (b : ℕ) → is_inner b ≡ true → not (is_comma b) ≡ true
inner_no_comma b h = grind (arith, nat_tests)

-- The text of an element has no comma.
no_comma : (kind : Kind) (text : List ℕ) (e : Element) → IsElement kind text e → lacks is_comma text ≡ true
no_comma kind text e h = list_all-weaker is_inner (λ b. not (is_comma b)) text inner_no_comma
    (element_inner kind text e h).1

-- Where the first element of a list is refused for a cause, the list is, at its first byte.
faulty_here : (kind : Kind) (place : ℕ) (element rest : List ℕ) (cause : ScheduleCause) → lacks is_comma element ≡ true
    → EndsElement rest → IsCause kind element cause
    → elements_of kind (pieces_at is_comma place (element ++ rest)) ≡ bad (fault_at kind place cause)
faulty_here kind place element [] cause plain ends is =
    rw (append-nil element, pieces_split is_comma place element, split_none is_comma element plain)
    (elements_step kind (record { place = place; text = element }) [] ∙ rw (cause_read kind element cause is) refl)
faulty_here kind place element (b ∷ bs) cause plain ends is =
    let here : split is_comma (element ++ b ∷ bs) ≡ (element, Some bs) = rw ends
    (split_some is_comma element comma bs plain refl) in
    rw (pieces_split is_comma place (element ++ b ∷ bs), here)
    (elements_step kind (record { place = place; text = element })
    (pieces_at is_comma (place + (length element + 1)) bs) ∙ rw (cause_read kind element cause is) refl)

-- A list with right elements up to one that is refused for a cause is refused so, at its byte.
list_faulty : (kind : Kind) (es : List Element) (place : ℕ) (word : List ℕ) (byte : ℕ) (cause : ScheduleCause)
    → IsListFault kind place word es byte cause
    → elements_of kind (pieces_at is_comma place word) ≡ bad (fault_at kind byte cause)
list_faulty kind [] place word byte cause (element, rest, is, plain, ends, refused, at) =
    ap (λ text. elements_of kind (pieces_at is_comma place text)) is
    ∙ faulty_here kind place element rest cause plain ends refused
    ∙ ap (λ n. bad (fault_at kind n cause)) (sym at)
list_faulty kind (e ∷ es) place word byte cause (front, back, is, first, more) =
    let here : split is_comma word ≡ (front, Some back) = ap (split is_comma) is
    ∙ split_some is_comma front comma back (no_comma kind front e first) refl in
    let next = list_faulty kind es (place + (length front + 1)) back byte cause more in
    rw (pieces_split is_comma place word, here)
    (elements_step kind (record { place = place; text = front }) (pieces_at is_comma (place + (length front + 1)) back)
    ∙ rw (element_complete kind front e first, next) refl)

-- A field that has a fault is refused with it.
field_faulty : (kind : Kind) (word : Piece) (fault : ScheduleFault) → IsFieldFault kind word fault
    → list_of kind word ≡ bad fault
unfolding list_of
field_faulty kind word fault (es, h, field) =
    list_faulty kind es word.place word.text fault.byte fault.cause h
    ∙ ap (λ n. bad (record { field = n; byte = fault.byte; cause = fault.cause })) (sym field)

-- ---- the five of them

-- Five fields are refused with the fault of the first faulty one.
pub first_faulty : (fields : Five) (fault : ScheduleFault)
    → IsFirstFault fields.minute fields.hour fields.day fields.month fields.weekday fault
    → lists_of fields ≡ failed fault
unfolding lists_of
first_faulty fields fault (inl h) = rw (field_faulty _ fields.minute fault h) refl
first_faulty fields fault (inr ((a, one), inl h)) =
    rw (list_complete _ fields.minute a one, field_faulty _ fields.hour fault h) refl
first_faulty fields fault (inr ((a, one), inr ((b, two), inl h))) =
    rw (list_complete _ fields.minute a one, list_complete _ fields.hour b two, field_faulty _ fields.day fault h) refl
first_faulty fields fault (inr ((a, one), inr ((b, two), inr ((c, three), inl h)))) =
    rw (
      list_complete _ fields.minute a one,
      list_complete _ fields.hour b two,
      list_complete _ fields.day c three,
      field_faulty _ fields.month fault h,
    ) refl
first_faulty fields fault (inr ((a, one), inr ((b, two), inr ((c, three), inr ((d, four), h))))) =
    rw (
      list_complete _ fields.minute a one,
      list_complete _ fields.hour b two,
      list_complete _ fields.day c three,
      list_complete _ fields.month d four,
      field_faulty _ fields.weekday fault h,
    ) refl

-- the number of the field
abbrev IsNumbered : ScheduleFault → Type 0
IsNumbered fault = (kind : Kind) × (fault.field ≡ field_number kind)

-- The fault of one field has the number of a field.
numbered : (kind : Kind) (word : Piece) (fault : ScheduleFault) → IsFieldFault kind word fault → IsNumbered fault
numbered kind word fault (es, h, field) = (kind, field)

-- The fault of the first faulty one of five fields has the number of a field.
first_numbered : (a b c d e : Piece) (fault : ScheduleFault) → IsFirstFault a b c d e fault → IsNumbered fault
first_numbered a b c d e fault (inl h) = numbered _ a fault h
first_numbered a b c d e fault (inr (one, inl h)) = numbered _ b fault h
first_numbered a b c d e fault (inr (one, inr (two, inl h))) = numbered _ c fault h
first_numbered a b c d e fault (inr (one, inr (two, inr (three, inl h)))) = numbered _ d fault h
first_numbered a b c d e fault (inr (one, inr (two, inr (three, inr (four, h))))) = numbered _ e fault h

-- No field has the number 0.
not_zero : (kind : Kind) (n : ℕ) → n ≡ 0 → n ≡ field_number kind → ⊥
not_zero kind n z h = grind arith

-- a fault of a field isn't at field 0
pub first_not_zero : (a b c d e : Piece) (fault : ScheduleFault) → IsFirstFault a b c d e fault → fault.field ≡ 0 → ⊥
first_not_zero a b c d e fault h zero =
    let (kind, field) = first_numbered a b c d e fault h in not_zero kind fault.field zero field
