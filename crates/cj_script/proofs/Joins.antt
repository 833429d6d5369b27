-- Items that are gathered one after another.
use Rattle.std.proofs.Common.{◌≡◌, ◌∙◌, ◌+◌, ◌<◌, ℕ, List, [], ◌∷◌, ◌++◌, length, drop, get_or, Option, Some, None, unwrap_or, Result, Ok, Err, refl, sym, ap, append_assoc}
use Rattle.std.proofs.lemmas.List.{append-nil}
use Rattle.serde_json.specs.Data.{Data}
use Rattle.serde_json.specs.View.{items_view, view}
use Rattle.serde_json.specs.declared.value.Value.{Value}
use Rattle.cj_base.specs.declared.faults.FieldFault.{FieldFault}
use Rattle.cj_scenario.specs.declared.fault.SceneFault.{SceneFault}
use Rattle.cj_scenario.specs.declared.fault.SceneFault.TheVariants.{Form, Manifest, Memory, Syntax}
use Rattle.cj_script.specs.Lists.{Gathers, Stops, all_of, both, joined}
use Rattle.cj_script.proofs.OperationsLemmas.Rest.{rest_at}

-- An item behind those gathered, before the rest, is the same as the item joined to the rest first.
one_item : {A : Type 0} (items : List A) (fault : Option FieldFault) (x : A) (rest : Result (List A) SceneFault)
    → joined (items ++ x ∷ []) fault rest ≡ joined items fault (both (Ok x) rest)
one_item items None x (Ok others) = ap (λ y. Ok y) (append_assoc items (x ∷ []) others)
one_item items None x (Err e) = refl
one_item items (Some f) x (Ok others) = refl
one_item items (Some f) x (Err e) = refl

-- For gather: a value that says an item puts it behind those gathered and leaves their fault.
pub gathers_item : {A : Type 0} (items : List A) (fault : Option FieldFault) (answer : Result A SceneFault) (x : A)
    → answer ≡ Ok x
    → Gathers items fault answer (items ++ x ∷ []) fault
gathers_item items fault answer x is = record {
  joins = λ rest. one_item items fault x rest ∙ ap (λ a. joined items fault (both a rest)) (sym is);
}

-- A manifest's fault, kept where it is the first, is the same as the fault joined to the rest
-- first.
one_fault : {A : Type 0} (items : List A) (fault : Option FieldFault) (f : FieldFault) (rest : Result
    (List A) SceneFault)
    → joined items (Some (unwrap_or fault f)) rest ≡ joined items fault (both (Err (Manifest f)) rest)
one_fault items None f (Ok others) = refl
one_fault items None f (Err Syntax) = refl
one_fault items None f (Err Form) = refl
one_fault items None f (Err (Manifest g)) = refl
one_fault items None f (Err Memory) = refl
one_fault items (Some g) f (Ok others) = refl
one_fault items (Some g) f (Err Syntax) = refl
one_fault items (Some g) f (Err Form) = refl
one_fault items (Some g) f (Err (Manifest h)) = refl
one_fault items (Some g) f (Err Memory) = refl

-- For gather: a value whose manifest has a fault leaves the items, and its fault is kept if it is
-- the first.
pub gathers_fault : {A : Type 0} (items : List A) (fault : Option FieldFault) (answer : Result A
    SceneFault) (f : FieldFault) → answer ≡ Err (Manifest f)
    → Gathers items fault answer items (Some (unwrap_or fault f))
gathers_fault items fault answer f is = record {
  joins = λ rest. one_fault items fault f rest ∙ ap (λ a. joined items fault (both a rest)) (sym is);
}

-- A refusal for the form outweighs the items and the manifest's fault before it.
form_stays : {A : Type 0} (items : List A) (fault : Option FieldFault) → joined items fault (Err Form) ≡ Err Form
form_stays items None = refl
form_stays items (Some f) = refl

-- A refusal as no JSON outweighs the items and the manifest's fault before it.
syntax_stays : {A : Type 0} (items : List A) (fault : Option FieldFault) → joined items fault (Err Syntax) ≡ Err Syntax
syntax_stays items None = refl
syntax_stays items (Some f) = refl

-- For gather: a value of another form ends the list in a refusal for its form.
pub stops_form : {A : Type 0} (items : List A) (fault : Option FieldFault) (answer : Result A SceneFault)
    → answer ≡ Err Form → Stops items fault answer Form
stops_form items fault answer is = record {
  joins = λ rest. ap (λ a. joined items fault (both a rest)) is ∙ form_stays items fault;
}

-- For gather: a value that is refused as no JSON ends the list in that refusal.
pub stops_syntax : {A : Type 0} (items : List A) (fault : Option FieldFault) (answer : Result A SceneFault)
    → answer ≡ Err Syntax → Stops items fault answer Syntax
stops_syntax items fault answer is = record {
  joins = λ rest. ap (λ a. joined items fault (both a rest)) is ∙ syntax_stays items fault;
}

-- one value more of a list
pub joins_value : {A : Type 0} (said : Data → Result A SceneFault) (values : List Value) (i : ℕ) (v : Value)
    (items more : List A) (fault first : Option FieldFault)
    → i < length values → v ≡ get_or values i v → Gathers items fault (said (view v)) more first
    → joined more first (all_of said (items_view (drop (i + 1) values)))
    ≡ joined items fault (all_of said (items_view (drop i values)))
joins_value said values i v items more fault first inside at gathers =
    gathers.joins (all_of said (items_view (drop (i + 1) values)))
    ∙ ap (λ vs. joined items fault (all_of said (items_view vs))) (sym (rest_at values i v inside at))

-- one that ends them
pub stops_value : {A : Type 0} (said : Data → Result A SceneFault) (values : List
    Value) (i : ℕ) (v : Value) (items : List A) (fault : Option FieldFault) (e : SceneFault)
    → i < length values → v ≡ get_or values i v → Stops items fault (said (view v)) e
    → joined items fault (all_of said (items_view (drop i values))) ≡ Err e
stops_value said values i v items fault e inside at stops =
    ap (λ vs. joined items fault (all_of said (items_view vs))) (rest_at values i v inside at)
    ∙ stops.joins (all_of said (items_view (drop (i + 1) values)))

-- the items where no manifest is at fault
pub joined_all : {A : Type 0} (items : List A) → joined items None (Ok []) ≡ Ok items
joined_all items = ap (λ x. Ok x) (append-nil items)
