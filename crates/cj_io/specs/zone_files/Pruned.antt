-- A value that stands for another of which only the zones that it names are wanted.
use Rattle.std.specs.Prelude.{◌≡◌, ℕ, List, Some, ⊤}
use Rattle.json.specs.Token.{Token}
use Rattle.serde_json.specs.Data.{Data, Items, Members, no_members, member}
use Rattle.serde_json.specs.Find.{as_str}
use Rattle.serde_json.specs.Read.{read}
use Rattle.cj_json.specs.Tokens.{Begins, BeginsItems, BeginsMembers}
use Rattle.cj_io.specs.zone_files.Named.{zones_in, zones_in_items}

-- as a member of whatever name, e names the zones that d names
pub record NamesSame (d e : Data) : Type 0 where
  pub text : as_str e ≡ as_str d
  pub zones : zones_in e ≡ zones_in d

-- the same members by name, each of which names the same zones in both
abbrev pub AreAlike : Members → Members → Type 0
AreAlike no_members no_members = ⊤
AreAlike no_members (member l e ns) = ⊥
AreAlike (member k d ms) no_members = ⊥
AreAlike (member k d ms) (member l e ns) = (l ≡ k) × NamesSame d e × AreAlike ms ns

-- the tokens behind the bracket of an array are items that name the zones that these name
pub record BeginsItemsLike (levels : ℕ) (ts rest : List Token) (kept : Items) : Type 0 where
  pub items : Items
  pub begun : BeginsItems levels ts rest items
  pub zones : zones_in_items kept ≡ zones_in_items items

-- the tokens begin with a value that names the zones that this names
pub record BeginsLike (levels : ℕ) (ts rest : List Token) (kept : Data) : Type 0 where
  pub value : Data
  pub begun : Begins levels ts rest value
  pub same : NamesSame value kept

-- the tokens behind the brace of an object are members that name the zones that these name
pub record BeginsMembersLike (levels : ℕ) (ts rest : List Token) (kept : Members) : Type 0 where
  pub members : Members
  pub begun : BeginsMembers levels ts rest members
  pub alike : AreAlike members kept

-- the text is a value that names the zones that this names
pub record IsLike (text : List ℕ) (kept : Data) : Type 0 where
  pub value : Data
  pub reads : read text ≡ Some value
  pub zones : zones_in kept ≡ zones_in value
