-- The values of a list, read one after another: what they say, or why they are refused.
use Rattle.std.specs.Prelude.{◌≡◌, List, [], ◌∷◌, ◌++◌, Option, Some, None, Result, Ok, Err}
use Rattle.serde_json.specs.Data.{Data, Items, no_items, item}
use Rattle.cj_base.specs.declared.faults.FieldFault.{FieldFault}
use Rattle.cj_scenario.specs.declared.fault.SceneFault.{SceneFault}
use Rattle.cj_scenario.specs.declared.fault.SceneFault.TheVariants.{Form, Manifest, Memory, Syntax}

-- after a manifest's fault: another refusal than a manifest's outweighs it, and what is read no
-- more counts
abbrev pub outweighed : FieldFault → SceneFault → SceneFault
outweighed fault Syntax = Syntax
outweighed fault Form = Form
outweighed fault (Manifest other) = Manifest fault
outweighed fault Memory = Memory

abbrev pub fault_after : {A : Type 0} → FieldFault → Result A SceneFault → SceneFault
fault_after fault (Ok rest) = Manifest fault
fault_after fault (Err e) = outweighed fault e

abbrev pub after_fault : {A B : Type 0} → FieldFault → Result A SceneFault → Result B SceneFault
after_fault fault rest = Err (fault_after fault rest)

-- items before others
abbrev pub before : {A : Type 0} → List A → Result (List A) SceneFault → Result (List A) SceneFault
before items (Ok others) = Ok (items ++ others)
before items (Err e) = Err e

-- an item before others: a fault of the form outweighs every manifest's, and a manifest's those of
-- later ones
-- rule: script-order
abbrev pub both : {A : Type 0} → Result A SceneFault → Result (List A) SceneFault
    → Result (List A) SceneFault
both (Ok x) rest = before (x ∷ []) rest
both (Err Syntax) rest = Err Syntax
both (Err Form) rest = Err Form
both (Err (Manifest fault)) rest = after_fault fault rest
both (Err Memory) rest = Err Memory

-- what the values say where each says this
-- rule: script-order
abbrev pub all_of : {A : Type 0} → (Data → Result A SceneFault) → Items → Result (List A) SceneFault
all_of said no_items = Ok []
all_of said (item d ds) = both (said d) (all_of said ds)

-- items before others, with the first fault of a manifest among them
abbrev pub joined : {A : Type 0} → List A → Option FieldFault → Result (List A) SceneFault
    → Result (List A) SceneFault
joined items None rest = before items rest
joined items (Some fault) rest = after_fault fault rest

-- the items and the first fault after another answer
pub record Gathers {A : Type 0} (items : List A) (fault : Option FieldFault)
    (answer : Result A SceneFault) (more : List A) (first : Option FieldFault) : Type 0 where
  pub joins : (rest : Result (List A) SceneFault)
      → joined more first rest ≡ joined items fault (both answer rest)

-- with this answer they end in a refusal
pub record Stops {A : Type 0} (items : List A) (fault : Option FieldFault)
    (answer : Result A SceneFault) (e : SceneFault) : Type 0 where
  pub joins : (rest : Result (List A) SceneFault) → joined items fault (both answer rest) ≡ Err e
