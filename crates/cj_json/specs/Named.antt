-- The members of an object of JSON.
use Rattle.std.specs.Prelude.{ℕ, List, [], ◌∷◌}
use Rattle.std.specs.Borrow.{Bor}
use Rattle.serde_json.specs.Data.{Members, put}
use Rattle.serde_json.specs.declared.value.Value.{Value}
use Rattle.serde_json.specs.View.{view}

-- these members, and each value under its name
abbrev pub put_all : List (Bor (List ℕ)) → List Value → Members → Members
put_all [] _ members = members
put_all (_ ∷ _) [] members = members
put_all (name ∷ names) (value ∷ values) members =
    put_all names values (put name.now (view value) members)
