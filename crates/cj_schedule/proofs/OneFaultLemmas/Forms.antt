-- An element is refused for the cause that the table states.
use Rattle.std.proofs.Common.{◌≡◌, ℕ, ◌≤◌, ◌==◌, not, nat_lt, Bool, true, false, List, ◌∷◌, ◌++◌, length, Option, Some, None, Result, Ok, Err, refl, sym, ap, ◌∙◌, arith, inl, inr, append-nil}
use Rattle.std.proofs.lemmas.Bool.Decides.{nat_tests}
use Rattle.std.specs.Char.{is_ascii_digit}
use Rattle.std.specs.List.{list_all}
use Rattle.cj_base.specs.declared.schedule_fault.ScheduleCause.{ScheduleCause}
use Rattle.cj_base.specs.declared.schedule_fault.ScheduleCause.TheVariants.{Length, Empty, Zone, Macro, Fields, Syntax, Range, Order, Step}
use Rattle.cj_schedule.specs.Numbers.{base_first, last_by}
use Rattle.cj_schedule.specs.Pieces.{split, dash, slash}
use Rattle.cj_schedule.specs.Grammar.{IsNumber, IsValue, IsBase, IsStep, IsElement}
use Rattle.cj_schedule.specs.Causes.{IsNumeral, IsValueForm, IsBaseForm, IsStepForm, IsForm, IsCause}
use Rattle.cj_schedule.specs.Reading.{is_digits, number_of, value_of, base_of, step_of, element_of}
use Rattle.cj_schedule.proofs.Causes.{cause_sound}
use Rattle.cj_schedule.proofs.FirstSplits.{lacks, split_none, split_some}
use Rattle.cj_schedule.proofs.Names.{is_plain, list_all-weaker, digit_plain, value_plain, value_complete}
use Rattle.cj_schedule.proofs.Elements.{not_star, not_star_dash, lacks-append, element_sound}
use Rattle.cj_schedule.proofs.OneFaultLemmas.Bases.{Kind, Base, Element, star, single, between, base_cases, star_is, StarForm, BetweenForm, star_form, single_form, between_form, star_right, single_right, between_right}

abbrev is_slash : ℕ → Bool
is_slash b = b == slash

abbrev is_dash : ℕ → Bool
is_dash b = b == dash

-- ---- what has a form is read as that element

-- A numeral is read as the number that it stands for.
numeral_read : (text : List ℕ) (n : ℕ) → IsNumeral text n → number_of text ≡ Some n
unfolding number_of is_digits
numeral_read text n h =
    let some = h.some in
    let not_empty : not (length text == 0) ≡ true = grind (arith, nat_tests) in
    rw (not_empty, h.digits) (ap Some (sym h.is))

-- A numeral, or a name of the field, is read as the number that it stands for.
value_read : (kind : Kind) (text : List ℕ) (n : ℕ) → IsValueForm kind text n → value_of kind text ≡ Some n
unfolding value_of
value_read kind text n (inl h) = rw (numeral_read text n h) refl
value_read kind text n (inr h) = value_complete kind text n (inr h)

-- A numeral, or a name of the field, has one byte at least, and plain ones alone.
form_plain : (kind : Kind) (text : List ℕ) (n : ℕ) → IsValueForm kind text n
    → (1 ≤ length text) × (list_all is_plain text ≡ true)
form_plain kind text n (inl h) = (h.some, list_all-weaker is_ascii_digit is_plain text digit_plain h.digits)
form_plain kind text n (inr h) = value_plain kind text n (inr h)

-- A text of plain bytes has no slash.
slash_free : (text : List ℕ) → list_all is_plain text ≡ true → lacks is_slash text ≡ true
slash_free text h = list_all-weaker is_plain (λ b. not (is_slash b)) text (λ b plain. grind (arith, nat_tests)) h

-- A text of plain bytes has no dash.
dash_free : (text : List ℕ) → list_all is_plain text ≡ true → lacks is_dash text ≡ true
dash_free text h = list_all-weaker is_plain (λ b. not (is_dash b)) text (λ b plain. grind (arith, nat_tests)) h

-- A text in the form of the star is read as the star, and has no slash.
star_read : (kind : Kind) (text : List ℕ) → StarForm text → (base_of kind text ≡ star kind)
    × (lacks is_slash text ≡ true)
unfolding base_of
star_read kind text (inl e) = rw e (refl, refl)
star_read kind text (inr e) = rw e (refl, refl)

-- A text in the form of one number is read as that one, and has no slash.
single_read : (kind : Kind) (text : List ℕ) (n : ℕ) → IsValueForm kind text n
    → (base_of kind text ≡ single kind n) × (lacks is_slash text ≡ true)
unfolding base_of
single_read kind text n h =
    let p = form_plain kind text n h in (
      rw (not_star text p.1, split_none is_dash text (dash_free text p.1), value_read kind text n h) refl,
      slash_free text p.1,
    )

-- A text in the form of two numbers is read as those, and has no slash.
between_read : (kind : Kind) (text : List ℕ) (a b : ℕ) → BetweenForm kind text a b
    → (base_of kind text ≡ between kind a b) × (lacks is_slash text ≡ true)
unfolding base_of
between_read kind text a b (x, y, e, first, last) =
    let p = form_plain kind x a first in
    let q = form_plain kind y b last in
    rw e (
      rw (
        not_star_dash x y p.0,
        split_some is_dash x dash y (dash_free x p.1) refl,
        value_read kind x a first,
        value_read kind y b last,
      ) refl,
      lacks-append is_slash x (dash ∷ y) (slash_free x p.1) (slash_free y q.1),
    )

-- A text in the form of a base is read as that base, and has no slash.
base_read : (kind : Kind) (text : List ℕ) (base : Base) → IsBaseForm kind text base
    → (base_of kind text ≡ Some base) × (lacks is_slash text ≡ true)
base_read kind text base h = elim (base_cases kind base) [
  | inl starred ↦
      let e = star_is kind base starred in
      let r = star_read kind text (star_form kind text base e h) in (r.0 ∙ e, r.1)
  | inr (inl e) ↦ let r = single_read kind text (base_first kind base)
      (single_form kind text (base_first kind base) base e h) in (r.0 ∙ e, r.1)
  | inr (inr e) ↦
      let r = between_read kind text (base_first kind base) (last_by kind base None)
      (between_form kind text (base_first kind base) (last_by kind base None) base e h) in
      (r.0 ∙ e, r.1)
]

-- A front without a slash, and a step's form behind it, are split apart and read as that step.
step_read : (front back : List ℕ) (step : Option ℕ) → lacks is_slash front ≡ true → IsStepForm back step
    → (parts : List ℕ × Option (List ℕ)) × (split is_slash (front ++ back) ≡ parts) × (parts.0 ≡ front)
    × (step_of parts.1 ≡ Some step)
unfolding step_of
step_read front back None h e = ((front, None), rw e (rw (append-nil front) (split_none is_slash front h)), refl, refl)
step_read front back (Some s) h (digits, e, number) = (
  (front, Some digits),
  rw e (split_some is_slash front slash digits h refl),
  refl,
  rw (numeral_read digits s number) refl,
)

-- In a text in the form of an element, what stands before the first slash is read as its base, and
-- what stands after it as its step.
form_read : (kind : Kind) (text : List ℕ) (e : Element) → IsForm kind text e
    → (base_of kind (split is_slash text).0 ≡ Some e.base) × (step_of (split is_slash text).1 ≡ Some e.step)
form_read kind text e (front, back, is, base, step) =
    let f = base_read kind front e.base base in
    let s = step_read front back e.step f.1 step in
    let c : split is_slash text ≡ s.0 = ap (split is_slash) is ∙ s.1 in
    (ap (λ parts. base_of kind parts.0) c ∙ ap (base_of kind) s.2 ∙ f.0, ap (λ parts. step_of parts.1) c ∙ s.3)

-- ---- an element has its form

-- A number by the grammar, which has at most nine digits, is a numeral.
numeral_form : (text : List ℕ) (n : ℕ) → IsNumber text n → IsNumeral text n
numeral_form text n h =
    let short = h.short in
    let fits : nat_lt 9 (length text) ≡ false = grind (arith, nat_tests) in
    record { some = h.some; digits = h.digits; is = rw fits h.is }

-- A value by the grammar has a value's form.
value_form : (kind : Kind) (text : List ℕ) (n : ℕ) → IsValue kind text n → IsValueForm kind text n
value_form kind text n (inl h) = inl (numeral_form text n h)
value_form kind text n (inr h) = inr h

-- A base by the grammar has its form.
base_right : (kind : Kind) (text : List ℕ) (base : Base) → IsBase kind text base → IsBaseForm kind text base
base_right kind text base = elim (base_cases kind base) [
  | inl starred ↦ star_right kind text base (star_is kind base starred)
  | inr (inl e) ↦ single_right kind text (base_first kind base) base (λ m xs. value_form kind xs m) e
  | inr (inr e) ↦ between_right kind text (base_first kind base) (last_by kind base None) base
      (λ m xs. value_form kind xs m) e
]

-- A step by the grammar has its form.
step_form : (text : List ℕ) (step : Option ℕ) → IsStep text step → IsStepForm text step
step_form text None h = h
step_form text (Some s) (digits, e, number, above) = (digits, e, numeral_form digits s number)

-- An element by the grammar has its form.
element_form : (kind : Kind) (text : List ℕ) (e : Element) → IsElement kind text e → IsForm kind text e
element_form kind text e (front, back, is, base, step) =
    (front, back, is, base_right kind front e.base base, step_form back e.step step)

-- ---- the rows

abbrev refused : ScheduleCause → Result Element ScheduleCause
refused cause = Err cause

-- Where a text has the form of no element, the answer of its reading is the refusal with Syntax.
formless : (kind : Kind) (text : List ℕ) (r : Result Element ScheduleCause) → element_of kind text ≡ r
    → IsCause kind text Syntax → r ≡ refused Syntax
formless kind text (Ok e) h none = absurd (none e (element_form kind text e (element_sound kind text e h)))
formless kind text (Err Syntax) h none = refl
formless kind text (Err Range) h none = let (e, form, range) = cause_sound kind text Range h in absurd (none e form)
formless kind text (Err Order) h none =
    let (e, form, range, order) = cause_sound kind text Order h in absurd (none e form)
formless kind text (Err Step) h none =
    let (e, form, range, order, step) = cause_sound kind text Step h in absurd (none e form)
formless kind text (Err Length) h none = absurd (cause_sound kind text Length h)
formless kind text (Err Empty) h none = absurd (cause_sound kind text Empty h)
formless kind text (Err Zone) h none = absurd (cause_sound kind text Zone h)
formless kind text (Err Macro) h none = absurd (cause_sound kind text Macro h)
formless kind text (Err Fields) h none = absurd (cause_sound kind text Fields h)

-- An element is refused for the cause that the table of faults has for its text.
pub cause_read : (kind : Kind) (text : List ℕ) (cause : ScheduleCause) → IsCause kind text cause
    → element_of kind text ≡ refused cause
unfolding element_of
cause_read kind text Syntax none = formless kind text _ refl none
cause_read kind text Range (e, form, range) =
    let h = form_read kind text e form in rw (h.0, h.1, range) refl
cause_read kind text Order (e, form, range, order) =
    let h = form_read kind text e form in rw (h.0, h.1, range, order) refl
cause_read kind text Step (e, form, range, order, step) =
    let h = form_read kind text e form in rw (h.0, h.1, range, order, step) refl
cause_read kind text Length h = absurd h
cause_read kind text Empty h = absurd h
cause_read kind text Zone h = absurd h
cause_read kind text Macro h = absurd h
cause_read kind text Fields h = absurd h
