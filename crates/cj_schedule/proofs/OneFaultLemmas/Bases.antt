-- The front of an element, case by case. `cj_schedule` keeps the types of an element to itself: they are
-- named here as what its definitions take, and their values as what its definitions give.
use Rattle.std.proofs.Common.{◌≡◌, ◌⊎◌, ℕ, true, List, [], ◌∷◌, ◌++◌, Option, Some, None, sym, arith, subst, codes}
use Rattle.cj_schedule.specs.Causes.{IsBaseForm, IsValueForm}
use Rattle.cj_schedule.specs.Grammar.{IsBase, IsValue, IsIn}
use Rattle.cj_schedule.specs.Kinds.{field_number}
use Rattle.cj_schedule.specs.Numbers.{base_first, last_by, open_by, stride}
use Rattle.cj_schedule.specs.Pieces.{dash}
use Rattle.cj_schedule.specs.Reading.{then_do, ending, value_of, base_of}
use Rattle.std.specs.Prelude.{◌≤◌}

abbrev pub Taken : {A B : Type 0} → (A → B) → Type 0
Taken {A} {B} f = A

-- minute to weekday
abbrev pub Kind : Type 0
Kind = Taken field_number

-- a star, a number, or two numbers
abbrev pub Base : Type 0
Base = Taken open_by

abbrev pub Element : Type 0
Element = Taken stride

-- ---- the three of them

pub record Gives (o : Option Base) : Type 0 where
  pub unit : ℕ

abbrev pub last_step : (o : Option ℕ) (f : ℕ → Option Base) → Gives (then_do o f) → ℕ → Option Base
last_step o f given = f

abbrev pub star : Kind → Option Base
star kind = base_of kind (codes "*")

abbrev pub single : Kind → ℕ → Option Base
single kind n = ending kind n None

-- what the reading makes of its second number
abbrev pub between : Kind → ℕ → ℕ → Option Base
between kind a =
    last_step (value_of kind []) _ (let given : Gives (ending kind a (Some [])) = record { unit = 0 } in given)

abbrev IsStar : Base → Type 0
IsStar base = open_by base None ≡ true

-- Each base is a star, one number, or two numbers.
pub base_cases : (kind : Kind) (base : Base)
    → IsStar base ⊎ ((single kind (base_first kind base) ≡ Some base)
    ⊎ (between kind (base_first kind base) (last_by kind base None) ≡ Some base))
base_cases kind base = grind arith

-- A base that is open without a step is the star.
pub star_is : (kind : Kind) (base : Base) → IsStar base → star kind ≡ Some base
unfolding base_of
star_is kind base h = grind arith

-- ---- what they say of a text

abbrev out : Option Base → Base → Base
out None base = base
out (Some other) base = other

-- The base of an option that holds one is that base, whatever is given for none.
out_is : (base : Base) (o : Option Base) → o ≡ Some base → out o base ≡ base
out_is base None e = cc
out_is base (Some other) e = cc

abbrev pub StarForm : List ℕ → Type 0
StarForm text = (text ≡ codes "*") ⊎ (text ≡ codes "?")

abbrev pub BetweenForm : Kind → List ℕ → ℕ → ℕ → Type 0
BetweenForm kind text a b =
    (x y : List ℕ) × (text ≡ x ++ dash ∷ y) × IsValueForm kind x a × IsValueForm kind y b

-- A text in the form of the star is * or ?.
pub star_form : (kind : Kind) (text : List ℕ) (base : Base) → star kind ≡ Some base → IsBaseForm kind text base
    → StarForm text
unfolding base_of
star_form kind text base e h = subst (λ b. IsBaseForm kind text b) (sym (out_is base (star kind) e)) h

-- A text in the form of one number is a numeral or a name of the field for it.
pub single_form : (kind : Kind) (text : List ℕ) (n : ℕ) (base : Base) → single kind n ≡ Some base
    → IsBaseForm kind text base → IsValueForm kind text n
single_form kind text n base e h = subst (λ b. IsBaseForm kind text b) (sym (out_is base (single kind n) e)) h

-- A text in the form of two numbers has a dash between numerals or names for them.
pub between_form : (kind : Kind) (text : List ℕ) (a b : ℕ) (base : Base) → between kind a b ≡ Some base
    → IsBaseForm kind text base → BetweenForm kind text a b
between_form kind text a b base e h = subst (λ c. IsBaseForm kind text c) (sym (out_is base (between kind a b) e)) h

-- ---- and what is right has its form

abbrev IsForming : Kind → List ℕ → Base → Type 0
IsForming kind text base = IsBase kind text base → IsBaseForm kind text base

-- Where an option holds a base, what is shown of a text and the option's base holds of that base.
forming : (kind : Kind) (text : List ℕ) (base : Base) (o : Option Base) → o ≡ Some base
    → IsForming kind text (out o base) → IsForming kind text base
forming kind text base o e h = subst (λ b. IsForming kind text b) (out_is base o e) h

-- A text that is the star by the grammar has its form.
pub star_right : (kind : Kind) (text : List ℕ) (base : Base) → star kind ≡ Some base → IsBase kind text base
    → IsBaseForm kind text base
unfolding base_of
star_right kind text base e = forming kind text base (star kind) e (λ h. h)

-- A text that is one number by the grammar has its form, if each value by the grammar has its own.
pub single_right : (kind : Kind) (text : List ℕ) (n : ℕ) (base : Base)
    → ((m : ℕ) (xs : List ℕ) → IsValue kind xs m → IsValueForm kind xs m)
    → single kind n ≡ Some base → IsBase kind text base → IsBaseForm kind text base
single_right kind text n base form e = forming kind text base (single kind n) e (λ h. form n text h.0)

-- For between_right: two values by the grammar with a dash between them have the form of two
-- numbers, if each value by the grammar has its own.
right_between : (kind : Kind) (text : List ℕ) (a b : ℕ)
    → ((m : ℕ) (xs : List ℕ) → IsValue kind xs m → IsValueForm kind xs m)
    → ((x y : List ℕ) × (text ≡ x ++ dash ∷ y) × IsValue kind x a × IsValue kind y b × IsIn kind a × IsIn kind b
    × (a ≤ b)) → BetweenForm kind text a b
right_between kind text a b form (x, y, e, first, last, a_in, b_in, le) = (x, y, e, form a x first, form b y last)

-- A text that is two numbers by the grammar has their form, if each value has its own.
pub between_right : (kind : Kind) (text : List ℕ) (a b : ℕ) (base : Base)
    → ((m : ℕ) (xs : List ℕ) → IsValue kind xs m → IsValueForm kind xs m)
    → between kind a b ≡ Some base → IsBase kind text base → IsBaseForm kind text base
between_right kind text a b base form e = forming kind text base (between kind a b) e (right_between kind text a b form)
