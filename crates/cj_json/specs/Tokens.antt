-- What the tokens of a JSON text begin with.
use Rattle.std.specs.Prelude.{◌≡◌, ◌⊎◌, ℕ, List, length, Some}
use Rattle.json.specs.Token.{Token}
use Rattle.json.specs.Json as json
use Rattle.serde_json.specs.Data.{Data, Items, Members, no_members}
use Rattle.serde_json.specs.Read.{of_json, of_items, of_members}
use Rattle.cj_base.specs.declared.refusal.Refusal.{Refusal}
use Rattle.cj_base.specs.declared.refusal.Refusal.TheVariants.{OutOfMemory, Syntax}

-- the tokens begin with the value d, which nests at most so many levels, and go on with the rest
pub record Begins (levels : ℕ) (ts rest : List Token) (d : Data) : Type 0 where
  pub tree : json.Json
  pub parsed : json.value levels ts ≡ Some (tree, rest)
  pub stands : of_json tree ≡ Some d

-- the tokens behind the bracket of an array are these items, to the bracket that closes it
pub record BeginsItems (levels : ℕ) (ts rest : List Token) (ds : Items) : Type 0 where
  pub tree : json.Items
  pub parsed : json.items (json.value levels) (length ts) ts ≡ Some (tree, rest)
  pub stands : of_items tree ≡ Some ds

-- the tokens behind the brace of an object are these members, to the brace that closes it; the last
-- member of a name stands
pub record BeginsMembers (levels : ℕ) (ts rest : List Token) (ms : Members) : Type 0 where
  pub tree : json.Members
  pub parsed : json.members (json.value levels) (length ts) ts ≡ Some (tree, rest)
  pub stands : of_members tree no_members ≡ Some ms

-- ---- where there is none

-- the tokens begin with no value that nests at most so many levels
abbrev pub BeginsNone : ℕ → List Token → Type 0
BeginsNone levels ts = (rest : List Token) (d : Data) → Begins levels ts rest d → ⊥

-- the tokens behind a bracket are no items to the bracket that closes an array
abbrev pub BeginsNoItems : ℕ → List Token → Type 0
BeginsNoItems levels ts = (rest : List Token) (ds : Items) → BeginsItems levels ts rest ds → ⊥

-- the tokens behind a brace are no members to the brace that closes an object
abbrev pub BeginsNoMembers : ℕ → List Token → Type 0
BeginsNoMembers levels ts = (rest : List Token) (ms : Members) → BeginsMembers levels ts rest ms → ⊥

-- nothing is read for want of memory, or since there is nothing to be read
abbrev pub IsUnread : Type 0 → Refusal → Type 0
IsUnread Lacks e = (e ≡ OutOfMemory) ⊎ ((e ≡ Syntax) × Lacks)
