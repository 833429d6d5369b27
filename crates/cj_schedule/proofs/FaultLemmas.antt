-- The fault that the reading gives is the one of the text.
use Rattle.std.proofs.Common.{◌≡◌, ◌≢◌, ◌⊎◌, ℕ, zero, suc, ◌+◌, ◌<◌, ◌≤◌, ◌||◌, nat_lt, Bool, true, false, cond, if◌then◌else◌, List, [], ◌∷◌, ◌++◌, length, Option, Some, None, Result, Ok, Err, IfErr, refl, sym, ap, ◌∙◌, arith, inl, inr, subst, codes, length-append, append-nil}
use Rattle.std.proofs.lemmas.Bool.Decides.{nat_tests}
use Rattle.std.specs.Str.{bytes_eq}
use Rattle.cj_base.specs.declared.schedule_fault.ScheduleCause.{ScheduleCause}
use Rattle.cj_base.specs.declared.schedule_fault.ScheduleCause.TheVariants.{Length, Empty, Zone, Macro, Fields}
use Rattle.cj_base.specs.declared.schedule_fault.ScheduleFault.{ScheduleFault}
use Rattle.cj_schedule.specs.declared.element.Element.{Element}
use Rattle.cj_schedule.specs.declared.field_kind.FieldKind.{FieldKind}
use Rattle.cj_schedule.specs.declared.field_kind.FieldKind.TheVariants.{Minute, Hour, Day, Month, Weekday}
use Rattle.cj_schedule.specs.declared.text.Mark.TheVariants.{Comma}
use Rattle.cj_schedule.specs.Faults.{ArePlaced, IsListFault, IsFieldFault, IsFirstFault, IsFault}
use Rattle.cj_schedule.specs.Grammar.{value, AreWords, meaning_of}
use Rattle.cj_schedule.specs.Kinds.{field_number}
use Rattle.cj_schedule.specs.Matches.{Sets}
use Rattle.cj_schedule.specs.Numbers.{Lists}
use Rattle.cj_schedule.specs.Pieces.{Piece, is_mark, split, pieces_at, placed}
use Rattle.cj_schedule.specs.Reading.{fault_at, is_digits, number_of, name_of, value_of, base_of, step_of, element_of, then_element, elements_of, list_of, then_list, Five, five, lists_of, fault, by_five, fields_of, begins, has_zone, by_meaning, macro_of, words_lists, lists_or_fault}
use Rattle.cj_schedule.specs.Readers.{IsParsed}
use Rattle.cj_schedule.proofs.Causes.{cause_sound}
use Rattle.cj_schedule.proofs.FirstSplits.{IsSplit, is_split}
use Rattle.cj_schedule.proofs.Elements.{element_sound}
use Rattle.cj_schedule.proofs.Laws.{five_is}
use Rattle.cj_schedule.proofs.Lists.{elements_step, elements_none, comma_here, list_sound}
use Rattle.cj_schedule.proofs.Pieces.{rejoin, pieces_split}
use Rattle.cj_schedule.proofs.Words.{texts, words_at, words_sound, words_placed}

abbrev bad : ScheduleFault → Result (List Element) ScheduleFault
bad f = Err f

-- Refusals of a list that are equal have the same fault.
one_bad : (a b : ScheduleFault) → bad a ≡ bad b → a ≡ b
one_bad a b h = cc

abbrev failed : ScheduleFault → Result Lists ScheduleFault
failed f = Err f

-- Refusals of the five lists that are equal have the same fault.
one_failed : (a b : ScheduleFault) → failed a ≡ failed b → a ≡ b
one_failed a b h = cc

-- ---- a list

abbrev Refused : FieldKind → ℕ → List ℕ → ScheduleFault → Type 0
Refused kind place text f = (cause : ScheduleCause) × (element_of kind text ≡ Err cause)
    × (fault_at kind place cause ≡ f)

abbrev GoesOn : FieldKind → List ℕ → Result (List Element) ScheduleFault → ScheduleFault → Type 0
GoesOn kind text more f = (e : Element) × (element_of kind text ≡ Ok e) × (more ≡ bad f)

-- For first_step: the same, by what the first piece is read as.
piece_fault : (kind : FieldKind) (place : ℕ) (text : List ℕ) (r : Result Element ScheduleCause) (more : Result
    (List Element) ScheduleFault) (f : ScheduleFault)
    → element_of kind text ≡ r → then_element kind place r more ≡ bad f → Refused kind place text f
    ⊎ GoesOn kind text more f
piece_fault kind place text (Err cause) more f e h = inl (cause, e, one_bad (fault_at kind place cause) f h)
piece_fault kind place text (Ok x) (Err g) f e h = inr (x, e, h)
piece_fault kind place text (Ok x) (Ok xs) f e h = cc

abbrev HasListFault : FieldKind → ℕ → List ℕ → ScheduleFault → Type 0
HasListFault kind place text f = (es : List Element) × IsListFault kind place text es f.byte f.cause
    × (f.field ≡ field_number kind)

-- Where pieces are refused, the first is, or it is read and the others are refused.
first_step : (kind : FieldKind) (place : ℕ) (text : List ℕ) (ps : List Piece) (f : ScheduleFault)
    → elements_of kind (record { place = place; text = text } ∷ ps) ≡ bad f
    → Refused kind place text f ⊎ GoesOn kind text (elements_of kind ps) f
first_step kind place text ps f h = piece_fault kind place text _ (elements_of kind ps) f refl
    (sym (elements_step kind (record { place = place; text = text }) ps) ∙ h)

-- A byte at which a list is split is a comma.
is_comma : (c : ℕ) → is_mark Comma c ≡ true → c ≡ 44
is_comma c h = grind (arith, nat_tests)

-- For list_fault_at: the same, by the split at the first comma, if it holds of each shorter text.
list_fault_by : (kind : FieldKind) (place : ℕ) (text : List ℕ) (parts : List ℕ × Option (List ℕ)) (f : ScheduleFault)
    → IsSplit (is_mark Comma) text parts → elements_of kind (rejoin (is_mark Comma) (placed place parts)) ≡ bad f
    → ((n : ℕ) (xs : List ℕ) → length xs < length text → elements_of kind (pieces_at (is_mark Comma) n xs) ≡ bad f
    → HasListFault kind n xs f)
    → HasListFault kind place text f
list_fault_by kind place text (front, None) f (plain, is) h next =
    elim (first_step kind place front [] f h) [
      | inl (cause, e, same) ↦ subst (HasListFault kind place text) same
          ([], (front, [], is ∙ sym (append-nil front), plain, tt, cause_sound kind front cause e, refl), refl)
      | inr (x, e, more) ↦ let none = elements_none kind in absurd (cc (none, more))
    ]
list_fault_by kind place text (front, Some back) f (plain, (c, here, is)) h next =
    let sizes = ap length is in
    let sum : length (front ++ c ∷ back) ≡ length front + suc (length back) = length-append front (c ∷ back) in
    let less : length back < length text = omega (arith, sizes, sum) in
    elim (first_step kind place front (pieces_at (is_mark Comma) (place + (length front + 1)) back) f h) [
      | inl (cause, e, same) ↦ subst (HasListFault kind place text) same
          ([], (front, c ∷ back, is, plain, is_comma c here, cause_sound kind front cause e, refl), refl)
      | inr (x, e, more) ↦
          let rest = next (place + (length front + 1)) back less more in (
            x ∷ rest.0,
            (front, back, comma_here c front back text here is, element_sound kind front x e, rest.1),
            rest.2,
          )
    ]

-- For list_fault: the same of a text at any place, by a bound on its length.
list_fault_at : (kind : FieldKind) (bound place : ℕ) (text : List ℕ) (f : ScheduleFault) → length text ≤ bound
    → elements_of kind (pieces_at (is_mark Comma) place text) ≡ bad f → HasListFault kind place text f
list_fault_at kind zero place text f le h =
    list_fault_by kind place text (split (is_mark Comma) text) f (is_split (is_mark Comma) text)
    (sym (ap (elements_of kind) (pieces_split (is_mark Comma) place text)) ∙ h)
    (λ n xs less more. absurd (omega (arith, less, le)))
list_fault_at kind (suc bound) place text f le h =
    list_fault_by kind place text (split (is_mark Comma) text) f (is_split (is_mark Comma) text)
    (sym (ap (elements_of kind) (pieces_split (is_mark Comma) place text)) ∙ h)
    (λ n xs less more. list_fault_at kind bound n xs f (omega (arith, less, le)) more)

-- The fault for which a field's word is refused is a fault of that field.
list_fault : (kind : FieldKind) (word : Piece) (f : ScheduleFault) → list_of kind word ≡ bad f
    → IsFieldFault kind word f
unfolding list_of
list_fault kind word f h = list_fault_at kind (length word.text) word.place word.text f (omega arith) h

-- ---- five lists

-- Where the fields from one on are refused, that one is, or it is read and the next are.
list_either : (r : Result (List Element) ScheduleFault) (next : List Element
    → Result Lists ScheduleFault) (f : ScheduleFault) → then_list r next ≡ failed f
    → (r ≡ bad f) ⊎ ((es : List Element) × (r ≡ Ok es) × (next es ≡ failed f))
list_either (Err g) next f h = inl (ap bad (one_failed g f h))
list_either (Ok es) next f h = inr (es, refl, h)

-- The fault for which five fields are refused is that of the first faulty one.
five_fault : (fields : Five) (f : ScheduleFault) → lists_of fields ≡ failed f
    → IsFirstFault fields.minute fields.hour fields.day fields.month fields.weekday f
unfolding lists_of
five_fault fields f h = elim (list_either (list_of Minute fields.minute) _ f h) [
  | inl here ↦ inl (list_fault Minute fields.minute f here)
  | inr (a, one, h1) ↦ inr (
    (a, list_sound Minute fields.minute a one),
    elim (list_either (list_of Hour fields.hour) _ f h1) [
      | inl here ↦ inl (list_fault Hour fields.hour f here)
      | inr (b, two, h2) ↦ inr (
        (b, list_sound Hour fields.hour b two),
        elim (list_either (list_of Day fields.day) _ f h2) [
          | inl here ↦ inl (list_fault Day fields.day f here)
          | inr (c, three, h3) ↦ inr (
            (c, list_sound Day fields.day c three),
            elim (list_either (list_of Month fields.month) _ f h3) [
              | inl here ↦ inl (list_fault Month fields.month f here)
              | inr (d, four, h4) ↦ inr (
                (d, list_sound Month fields.month d four),
                elim (list_either (list_of Weekday fields.weekday) _ f h4) [
                  | inl here ↦ list_fault Weekday fields.weekday f here
                  | inr (e, last, h5) ↦ absurd cc
                ],
              )
            ],
          )
        ],
      )
    ],
  )
]

-- ---- the words

-- Words that are not five are, after the first, not four.
not_five : (word : Piece) (ps : List Piece) → five (word ∷ ps) ≡ None → length (texts ps) ≢ 4
not_five word [] h = λ e. absurd (omega (arith, e))
not_five word (a ∷ []) h = λ e. absurd (omega (arith, e))
not_five word (a ∷ b ∷ []) h = λ e. absurd (omega (arith, e))
not_five word (a ∷ b ∷ c ∷ []) h = λ e. absurd (omega (arith, e))
not_five word (a ∷ b ∷ c ∷ d ∷ []) h = absurd cc
not_five word (a ∷ b ∷ c ∷ d ∷ x ∷ rest) h = λ e. absurd (omega (arith, e))

-- Words that are five are those of the five fields in their order.
some_five : (ps : List Piece) (fields : Five) → five ps ≡ Some fields → ps ≡ fields.minute ∷ fields.hour ∷ fields.day
    ∷ fields.month ∷ fields.weekday ∷ []
some_five ps fields h = (five_is ps fields h).are

abbrev IsShort : List ℕ → Type 0
IsShort text = length text ≤ 1024

-- For words_by: the fault that refuses a text which begins as a field is the text's.
five_by : (text : List ℕ) (word : Piece) (ps : List Piece) (o : Option Five) (f : ScheduleFault) → IsShort text
    → words_at 0 text ≡ word ∷ ps → has_zone word.text ≡ false → begins (codes "@") word.text ≡ false
    → five (word ∷ ps) ≡ o → by_five o ≡ failed f → IsFault text f
five_by text word ps None f short e zone at is h =
    subst (IsFault text) (one_failed (fault Fields) f h)
    (inl (
      refl,
      refl,
      (
        word.text,
        texts ps,
        short,
        subst (λ qs. AreWords text (texts qs)) e (words_sound 0 text),
        (zone, at),
        not_five word ps is,
      ),
    ))
five_by text word ps (Some fields) f short e zone at is h =
    inr (
      short,
      (
        fields.minute,
        fields.hour,
        fields.day,
        fields.month,
        fields.weekday,
        subst (ArePlaced 0 text) (e ∙ some_five (word ∷ ps) fields is)
            (words_placed (texts (words_at 0 text)) 0 text (words_sound 0 text)),
        five_fault fields f h,
      ),
    )

-- what a macro stands for has no fault
abbrev IsFaultless : List ℕ → Type 0
IsFaultless meaning = (f : ScheduleFault) → fields_of (words_at 0 meaning) ≡ failed f → ⊥

-- For meaning_good: what one row of the table, or a row after it, stands for has no fault.
meaning_row : (t : Bool) (here meaning : List ℕ) (next : Option (List ℕ)) → IsFaultless here
    → (next ≡ Some meaning → IsFaultless meaning) → cond t (Some here) next ≡ Some meaning → IsFaultless meaning
meaning_row true here meaning next f g h = let same : here ≡ meaning = cc in subst IsFaultless same f
meaning_row false here meaning next f g h = g h

-- A text whose five fields are read has no fault.
good : (meaning : List ℕ) (lists : Lists) → fields_of (words_at 0 meaning) ≡ Ok lists → IsFaultless meaning
good meaning lists e = λ f h. absurd (cc (e, h))

-- What @yearly and @annually stand for has no fault.
yearly : IsFaultless (codes "0 0 1 1 *")
unfolding fields_of lists_of list_of elements_of element_of base_of step_of value_of number_of name_of is_digits value
    split pieces_at
yearly = good (codes "0 0 1 1 *") _ refl

-- What @monthly stands for has no fault.
monthly : IsFaultless (codes "0 0 1 * *")
unfolding fields_of lists_of list_of elements_of element_of base_of step_of value_of number_of name_of is_digits value
    split pieces_at
monthly = good (codes "0 0 1 * *") _ refl

-- What @weekly stands for has no fault.
weekly : IsFaultless (codes "0 0 * * 0")
unfolding fields_of lists_of list_of elements_of element_of base_of step_of value_of number_of name_of is_digits value
    split pieces_at
weekly = good (codes "0 0 * * 0") _ refl

-- What @daily and @midnight stand for has no fault.
daily : IsFaultless (codes "0 0 * * *")
unfolding fields_of lists_of list_of elements_of element_of base_of step_of value_of number_of name_of is_digits value
    split pieces_at
daily = good (codes "0 0 * * *") _ refl

-- What @hourly stands for has no fault.
hourly : IsFaultless (codes "0 * * * *")
unfolding fields_of lists_of list_of elements_of element_of base_of step_of value_of number_of name_of is_digits value
    split pieces_at
hourly = good (codes "0 * * * *") _ refl

-- For meaning_good: after the last row of the table nothing is found.
no_meaning : (meaning : List ℕ) (o : Option (List ℕ)) → o ≡ None → o ≡ Some meaning → IsFaultless meaning
no_meaning meaning o e h = absurd (cc (e, h))

abbrev is : List ℕ → List ℕ → Bool
is name macro = bytes_eq name macro

-- the rows of the table from one on
abbrev from_hourly : List ℕ → Option (List ℕ)
from_hourly name = if is name (codes "@hourly") then Some (codes "0 * * * *") else None

abbrev from_daily : List ℕ → Option (List ℕ)
from_daily name = if is name (codes "@daily") || is name (codes "@midnight") then Some (codes "0 0 * * *")
    else from_hourly name

abbrev from_weekly : List ℕ → Option (List ℕ)
from_weekly name = if is name (codes "@weekly") then Some (codes "0 0 * * 0") else from_daily name

abbrev from_monthly : List ℕ → Option (List ℕ)
from_monthly name = if is name (codes "@monthly") then Some (codes "0 0 1 * *") else from_weekly name

-- What a macro of the table stands for has no fault.
meaning_good : (name meaning : List ℕ) → meaning_of name ≡ Some meaning → IsFaultless meaning
unfolding meaning_of
meaning_good name meaning h =
    meaning_row (is name (codes "@yearly") || is name (codes "@annually")) (codes "0 0 1 1 *") meaning
    (from_monthly name) yearly
    (meaning_row (is name (codes "@monthly")) (codes "0 0 1 * *") meaning (from_weekly name) monthly
    (meaning_row (is name (codes "@weekly")) (codes "0 0 * * 0") meaning (from_daily name) weekly
    (meaning_row (is name (codes "@daily") || is name (codes "@midnight")) (codes "0 0 * * *") meaning
    (from_hourly name) daily
    (meaning_row (is name (codes "@hourly")) (codes "0 * * * *") meaning None hourly (no_meaning meaning None refl)))))
    h

-- A macro that is refused though it's alone isn't in the table, and its fault is Macro.
macro_by : (text name : List ℕ) (o : Option (List ℕ)) (f : ScheduleFault) → meaning_of name ≡ o
    → by_meaning o ≡ failed f → (meaning_of name ≡ None) × (fault Macro ≡ f)
macro_by text name None f e h = (e, one_failed (fault Macro) f h)
macro_by text name (Some meaning) f e h = absurd (meaning_good name meaning e f h)

-- For words_by: the fault that refuses a text which begins with @ is the text's.
macro_fault : (text : List ℕ) (word : Piece) (ps : List Piece) (f : ScheduleFault) → IsShort text
    → words_at 0 text ≡ word ∷ ps → has_zone word.text ≡ false → begins (codes "@") word.text ≡ true
    → macro_of word.text ps ≡ failed f → IsFault text f
unfolding macro_of
macro_fault text word [] f short e zone at h =
    let none = macro_by text word.text (meaning_of word.text) f refl h in
    subst (IsFault text) none.1 (inl (
      refl,
      refl,
      (word.text, [], short, subst (λ qs. AreWords text (texts qs)) e (words_sound 0 text), zone, at, inr none.0),
    ))
macro_fault text word (p ∷ ps) f short e zone at h =
    subst (IsFault text) (one_failed (fault Macro) f h)
    (inl (
      refl,
      refl,
      (
        word.text,
        texts (p ∷ ps),
        short,
        subst (λ qs. AreWords text (texts qs)) e (words_sound 0 text),
        zone,
        at,
        inl (λ none. absurd cc),
      ),
    ))

-- For words_fault: the same, by whether the first word names a zone or begins with @.
words_by : (text : List ℕ) (word : Piece) (ps : List Piece) (f : ScheduleFault) (zone at : Bool) → IsShort text
    → words_at 0 text ≡ word ∷ ps → has_zone word.text ≡ zone → begins (codes "@") word.text ≡ at
    → cond zone (Err (fault Zone)) (cond at (macro_of word.text ps) (fields_of (word ∷ ps))) ≡ failed f → IsFault text f
unfolding fields_of
words_by text word ps f true at short e z a h =
    subst (IsFault text) (one_failed (fault Zone) f h)
    (inl (refl, refl, (word.text, texts ps, short, subst (λ qs. AreWords text (texts qs)) e (words_sound 0 text), z)))
words_by text word ps f false true short e z a h = macro_fault text word ps f short e z a h
words_by text word ps f false false short e z a h = five_by text word ps (five (word ∷ ps)) f short e z a refl h

-- The fault for which the words of a text that isn't too long are refused is the text's.
words_fault : (text : List ℕ) (ps : List Piece) (f : ScheduleFault) → IsShort text → words_at 0 text ≡ ps
    → words_lists ps ≡ failed f → IsFault text f
unfolding words_lists
words_fault text [] f short e h =
    subst (IsFault text) (one_failed (fault Empty) f h)
    (inl (refl, refl, (short, subst (λ qs. AreWords text (texts qs)) e (words_sound 0 text))))
words_fault text (word ∷ ps) f short e h = words_by text word ps f (has_zone word.text)
    (begins (codes "@") word.text) short e refl refl h

-- For fault_sound: the same, by whether the text is longer than 1,024 bytes.
fault_by : (text : List ℕ) (f : ScheduleFault) (long : Bool) → nat_lt 1024 (length text) ≡ long
    → cond long (failed (fault Length)) (words_lists (words_at 0 text)) ≡ failed f → IsFault text f
fault_by text f true e h = subst (IsFault text) (one_failed (fault Length) f h)
    (inl (refl, refl, grind (arith, nat_tests)))
fault_by text f false e h = words_fault text (words_at 0 text) f (grind (arith, nat_tests)) refl h

-- The fault for which the reading refuses a text is the text's.
fault_sound : (text : List ℕ) (f : ScheduleFault) → lists_or_fault text ≡ failed f → IsFault text f
unfolding lists_or_fault
fault_sound text f h = fault_by text f _ refl h

-- For Schedule::parse, clause faulty: an answer that refuses the text has the text's fault.
pub faulty_by : (text : List ℕ) (r : Result Sets ScheduleFault) → IsParsed r (lists_or_fault text)
    → IfErr r (λ f. IsFault text f)
faulty_by text (Ok s) h = tt
faulty_by text (Err f) h = fault_sound text f h
