-- json_text: what JSON reads as a text is that value.
use Rattle.std.proofs.Common.{◌≡◌, ◌↔◌, Bool, true, false, IsTrue, Some, None, sym, ◌∙◌, subst, arith}
use Rattle.serde_json.specs.Errors.{IsMemory}
use Rattle.serde_json.specs.declared.error.Error.{Error}
use Rattle.serde_json.specs.Data.{Data, string}
use Rattle.serde_json.specs.View.{view}
use Rattle.cj_yaml.proofs.quoted.json_text.Goals as goal

-- Two values that are the same where they may be missing are the same.
same_data : (a b : Data) → Some a ≡ Some b → a ≡ b
same_data a b h = cc

-- What isn't read is no value.
not_none : (d : Data) → Some d ≡ None → ⊥
not_none d h = cc

-- An error is one of memory just where the test says so.
other_error : (e f : Error) (r : Bool) → e ≡ f → (IsTrue r ↔ IsMemory e) → r ≡ false → IsMemory f → ⊥
other_error e f true same is off m = cc
other_error e f false same is off m =
    let said : IsTrue false = is.1 (subst IsMemory (sym same) m) in grind arith

pub returns-in-Ok-clause-read : goal.returns-in-Ok-clause-read
returns-in-Ok-clause-read c t utf8 same =
    c.text_of.ensures t
    (same_data (view c.in-Ok.value) (string t) (sym c.in-Ok.ensures.ok.1 ∙ same))

pub returns-in-Err-2-clause-read : goal.returns-in-Err-2-clause-read
returns-in-Err-2-clause-read c t utf8 same =
    let one : c.in-Err.error ≡ c.in-Err-2.field-0 = cc in
    let other =
    other_error c.in-Err.error c.in-Err-2.field-0 c.is_memory.result one c.is_memory.ensures c.if-is_memory.false in
    not_none (string t) (sym same ∙ c.in-Err-2.ensures.err other utf8)
