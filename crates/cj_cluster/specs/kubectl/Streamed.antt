-- What is known of a list while its members are read, one after another.
use Rattle.std.specs.Prelude.{◌≡◌, ℕ, List, ⊤, codes, Option, Some, None, string_bytes, String}
use Rattle.json.specs.Token.{Token}
use Rattle.serde_json.specs.Data.{Data, string, array, Items, Members, put}
use Rattle.serde_json.specs.Find.{get_member}
use Rattle.serde_json.specs.Read.{read}
use Rattle.std.specs.declared.alloc.Global.{Global}
use Rattle.cj_json.specs.Tokens.{Begins, BeginsItems, BeginsMembers}
use Rattle.cj_zone.specs.declared.zone.Zone.{Zone}
use Rattle.cj_cluster.specs.declared.kubectl.list.ClusterList.{ClusterList}
use Rattle.cj_cluster.specs.declared.kubectl.streamed.Said.{Said}
use Rattle.cj_cluster.specs.kubectl.Lists.{items_of, typed}
use Rattle.cj_cluster.specs.kubectl.Reading.{AddsItem, AddsItems, TypeMeta, start}

-- the item goes to its place in a list of any kind: it says its own
abbrev pub AddsAnywhere : List Zone → ℕ → Data → ClusterList → ClusterList → Type 0
AddsAnywhere zones place d old new =
    (t : TypeMeta) → AddsItem zones place (typed t.kind t.version d) old new

-- these are the objects of the items, whatever the kind of their list
abbrev pub HasObjects : List Zone → Items → ClusterList → Type 0
HasObjects zones ds list = (t : TypeMeta) → AddsItems zones t 1 ds start list

-- the tokens behind the bracket of an array are items of those objects
pub record BeginsObjects (zones : List Zone) (levels : ℕ) (ts rest : List Token)
    (list : ClusterList) : Type 0 where
  pub items : Items
  pub begun : BeginsItems levels ts rest items
  pub objects : HasObjects zones items list

-- what is known of the kind, if anything, is the member of that name
abbrev pub HasKind : Members → Option (String Global) → Type 0
HasKind ms None = ⊤
HasKind ms (Some kind) = get_member (codes "kind") ms ≡ Some (string (string_bytes kind))

-- what is known of the items, if anything, are the objects in the member of that name
pub record HasItems (zones : List Zone) (ms : Members) (list : ClusterList) : Type 0 where
  pub items : Items
  pub found : get_member (codes "items") ms ≡ Some (array items)
  pub objects : HasObjects zones items list

abbrev pub HasListed : List Zone → Members → Option ClusterList → Type 0
HasListed zones ms None = ⊤
HasListed zones ms (Some list) = HasItems zones ms list

-- what is known holds of these members
pub record IsSaid (zones : List Zone) (ms : Members) (said : Said) : Type 0 where
  pub kind : HasKind ms said.kind
  pub listed : HasListed zones ms said.listed

-- the tokens behind a member's name are its value, and with it among the members what is known
-- holds
pub record TakesMember (zones : List Zone) (levels : ℕ) (name : List ℕ) (ts rest : List Token)
    (old new : Said) : Type 0 where
  pub value : Data
  pub begun : Begins levels ts rest value
  pub said : (ms : Members) → IsSaid zones ms old → IsSaid zones (put name value ms) new

-- the tokens behind the brace of an object are members of which that is known
pub record BeginsSaid (zones : List Zone) (levels : ℕ) (ts rest : List Token)
    (said : Said) : Type 0 where
  pub members : Members
  pub begun : BeginsMembers levels ts rest members
  pub is_said : IsSaid zones members said

-- the text is a list of these objects
pub record IsListText (zones : List Zone) (text : List ℕ) (list : ClusterList) : Type 0 where
  pub value : Data
  pub items : Items
  pub reads : read text ≡ Some value
  pub listed : items_of value ≡ Some items
  pub objects : HasObjects zones items list
