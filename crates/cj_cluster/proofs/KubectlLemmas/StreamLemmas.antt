-- A list that is read item by item, and member by member.
use Rattle.std.proofs.Common.{◌≡◌, ◌∙◌, ◌<◌, ◌-◌, ◌+◌, ℕ, List, [], ◌∷◌, codes, length, true, false, true≢false, bytes_eq, Option, Some, None, Result, Ok, Err, IfOk, String, Global, string_bytes, option_map, option_and_then, refl, sym, ap, subst, arith}
use Rattle.std.proofs.lemmas.Slice.Eq.{bytes_eq-Decides}
use Rattle.json.specs.Token.{Token}
use Rattle.json.specs.Json.{after_end_array, if_last, read_key}
use Rattle.json.specs.Lex.{tokens}
use Rattle.serde_json.specs.Data.{Data, string, array, object, Items, no_items, item, Members, no_members, put}
use Rattle.serde_json.specs.Find.{get_member}
use Rattle.serde_json.specs.Read.{of_json, read}
use Rattle.serde_json.proofs.Views.{get_member-put, get_member-put_other}
use Rattle.cj_json.specs.Tokens.{Begins}
use Rattle.cj_json.proofs.TokenLemmas.{Leads, MembersLead, array_begins, leads-end, leads-more, leads-start, members-end, members-more, members-start, object_begins}
use Rattle.cj_manifest.specs.Members.{present}
use Rattle.cj_zone.specs.declared.zone.Zone.{Zone}
use Rattle.cj_cluster.specs.declared.kubectl.list.ClusterList.{ClusterList}
use Rattle.cj_cluster.specs.declared.kubectl.streamed.Said.{Said}
use Rattle.cj_cluster.specs.kubectl.Lists.{is_list, items_of, typed}
use Rattle.cj_cluster.specs.kubectl.Reading.{AddsItem, AddsItems, TypeMeta, start}
use Rattle.cj_cluster.specs.kubectl.Streamed.{AddsAnywhere, BeginsObjects, BeginsSaid, HasItems, HasKind, HasListed, IsListText, IsSaid, TakesMember}

-- ---- items

-- An item that says its kind stays as it is in a list of any kind.
said_typed : (t : TypeMeta) (d said : Data) → present (codes "kind") d ≡ Some said → typed t.kind t.version d ≡ d
said_typed t d said is = rw is

-- For add_said: so it goes to its place in each.
pub anywhere : (zones : List Zone) (place : ℕ) (d said : Data) (old new : ClusterList)
    → present (codes "kind") d ≡ Some said → AddsItem zones place d old new → AddsAnywhere zones place d old new
anywhere zones place d said old new is adds t =
    subst (λ e. AddsItem zones place e old new) (sym (said_typed t d said is)) adds

-- of the items that the tokens `all` are, those up to this place make this list, and the tokens ts are the rest
pub record Streams (zones : List Zone) (levels : ℕ) (all : List Token) (place : ℕ) (list : ClusterList)
    (ts : List Token) : Type 0 where
  pub before : Items → Items
  pub turns : ℕ
  pub leads : Leads levels all before turns ts
  pub whole : (t : TypeMeta) (rest : Items) (end : ClusterList)
      → AddsItems zones t (place + 1) rest list end → AddsItems zones t 1 (before rest) start end

-- For stream_items: before the first item there is no object.
pub streams-start : (zones : List Zone) (levels : ℕ) (all : List Token) (list : ClusterList) → list ≡ start
    → Streams zones levels all 0 list all
streams-start zones levels all list is = record {
  before = λ ds. ds;
  turns = length all;
  leads = leads-start levels all;
  whole = λ t rest end h. subst (λ l. AddsItems zones t 1 rest l end) is h;
}

-- For stream_items: so it is behind one more item.
pub streams-more : (zones : List Zone) (levels : ℕ) (all : List Token) (place : ℕ) (list more : ClusterList)
    (ts r : List Token) (d : Data)
    → Streams zones levels all place list ts → after_end_array ts ≡ None → length r < length ts
    → Begins levels ts r d → AddsAnywhere zones (place + 1) d list more
    → Streams zones levels all (place + 1) more r
streams-more zones levels all place list more ts r d s going less first adds = record {
  before = λ ds. s.before (item d ds);
  turns = s.turns - 1;
  leads = leads-more levels all s.before s.turns ts r d s.leads going less first;
  whole = λ t rest end h. s.whole t (item d rest) end (more, adds t, h);
}

-- For stream_items: behind the bracket these are the objects.
pub streams-end : (zones : List Zone) (levels : ℕ) (all : List Token) (place : ℕ) (list : ClusterList)
    (ts r : List Token)
    → Streams zones levels all place list ts → after_end_array ts ≡ Some r → BeginsObjects zones levels all r list
streams-end zones levels all place list ts r s over = record {
  items = s.before no_items;
  begun = leads-end levels all s.before s.turns ts r s.leads over;
  objects = λ t. s.whole t no_items list refl;
}

-- ---- members

-- A member of another name changes nothing that is known of the kind, or of the items.
kept_kind : (name : List ℕ) (d : Data) (ms : Members) (kind : Option (String Global))
    → (codes "kind" ≡ name → ⊥) → HasKind ms kind → HasKind (put name d ms) kind
kept_kind name d ms None other has = tt
kept_kind name d ms (Some kind) other has = get_member-put_other (codes "kind") name d ms other ∙ has

-- For items_taken and the others: so it is with the items.
kept_listed : (zones : List Zone) (name : List ℕ) (d : Data) (ms : Members) (listed : Option ClusterList)
    → (codes "items" ≡ name → ⊥) → HasListed zones ms listed → HasListed zones (put name d ms) listed
kept_listed zones name d ms None other has = tt
kept_listed zones name d ms (Some list) other has = record {
  items = has.items;
  found = get_member-put_other (codes "items") name d ms other ∙ has.found;
  objects = has.objects;
}

-- For take_items: behind the array it is known which objects the items are.
pub items_taken : (zones : List Zone) (ts rest : List Token) (old new : Said) (list : ClusterList)
    → BeginsObjects zones 125 ts rest list → new.kind ≡ old.kind → new.listed ≡ Some list
    → TakesMember zones 126 (codes "items") (Token.begin_array ∷ ts) rest old new
items_taken zones ts rest old new list found same is = record {
  value = array found.items;
  begun = array_begins 126 ts rest found.items (omega arith) found.begun;
  said = λ ms has. record {
    kind =
        subst (HasKind (put (codes "items") (array found.items) ms)) (sym same)
        (kept_kind (codes "items") (array found.items) ms old.kind (λ e. absurd (cc e)) has.kind);
    listed =
        subst (HasListed zones (put (codes "items") (array found.items) ms)) (sym is) record {
          items = found.items;
          found = get_member-put (codes "items") (array found.items) ms;
          objects = found.objects;
        };
  };
}

-- For take_kind: behind the text the kind is known.
pub kind_taken : (zones : List Zone) (ts rest : List Token) (old new : Said) (d : Data) (kind : String Global)
    → Begins 126 ts rest d → d ≡ string (string_bytes kind) → new.kind ≡ Some kind → new.listed ≡ old.listed
    → TakesMember zones 126 (codes "kind") ts rest old new
kind_taken zones ts rest old new d kind begun is known same = record {
  value = d;
  begun = begun;
  said = λ ms has. record {
    kind =
        subst (HasKind (put (codes "kind") d ms)) (sym known) (get_member-put (codes "kind") d ms ∙ ap Some is);
    listed =
        subst (HasListed zones (put (codes "kind") d ms)) (sym same)
        (kept_listed zones (codes "kind") d ms old.listed (λ e. absurd (cc e)) has.listed);
  };
}

-- For take_member: behind any other value all is as it was.
pub other_taken : (zones : List Zone) (name : List ℕ) (ts rest : List Token) (said : Said) (d : Data)
    → Begins 126 ts rest d → (codes "kind" ≡ name → ⊥) → (codes "items" ≡ name → ⊥)
    → TakesMember zones 126 name ts rest said said
other_taken zones name ts rest said d begun not_kind not_items = record {
  value = d;
  begun = begun;
  said = λ ms has. record {
    kind = kept_kind name d ms said.kind not_kind has.kind;
    listed = kept_listed zones name d ms said.listed not_items has.listed;
  };
}

-- of the members that the tokens `all` are, that is known of those read, and the tokens ts are the rest
pub record Tells (zones : List Zone) (all : List Token) (said : Said) (ts : List Token) : Type 0 where
  pub before : Members
  pub turns : ℕ
  pub leads : MembersLead 126 all before turns ts
  pub is_said : IsSaid zones before said

-- For stream_members: before the first member nothing is known.
pub tells-start : (zones : List Zone) (all : List Token) → Tells zones all (record { kind = None; listed = None }) all
tells-start zones all = record {
  before = no_members;
  turns = length all;
  leads = members-start 126 all;
  is_said = record { kind = tt; listed = tt };
}

-- For stream_members: so it is behind one more member.
pub tells-more : (zones : List Zone) (all ts s r : List Token) (name : List ℕ) (old new : Said)
    → Tells zones all old ts → read_key ts ≡ Some (Some name, s) → length s < length ts → length r < length s
    → TakesMember zones 126 name s r old new → Tells zones all new r
tells-more zones all ts s r name old new told named keyed less takes = record {
  before = put name takes.value told.before;
  turns = told.turns - 1;
  leads = members-more 126 all told.before told.turns ts s r name takes.value told.leads named keyed less takes.begun;
  is_said = takes.said told.before told.is_said;
}

-- For stream_members: behind the brace that is known of all members.
pub tells-end : (zones : List Zone) (all ts r : List Token) (said : Said)
    → Tells zones all said ts → read_key ts ≡ Some (None, r) → BeginsSaid zones 126 all r said
tells-end zones all ts r said told over = record {
  members = told.before;
  begun = members-end 126 all told.before told.turns ts r told.leads over;
  is_said = told.is_said;
}

-- ---- the text

-- A text that begins with a value, behind which nothing is, is that value.
begins_read : (text : List ℕ) (d : Data) → Begins 127 (tokens text) [] d → read text ≡ Some d
begins_read text d begun =
    ap (λ o. option_and_then of_json (option_and_then (λ p. if_last p.0 p.1) o)) begun.parsed ∙ begun.stands

-- Members of the kind of a list, with items, are a list of these.
listed_by : (ms : Members) (kind : List ℕ) (ds : Items) → get_member (codes "kind") ms ≡ Some (string kind)
    → is_list kind ≡ true → get_member (codes "items") ms ≡ Some (array ds) → items_of (object ms) ≡ Some ds
listed_by ms kind ds is_kind list is_items = rw (is_kind, list, is_items)

-- For text_listed: what is known of the kind, by its text.
kind_known : (ms : Members) (kind : Option (String Global)) (k : List ℕ) → HasKind ms kind
    → option_map string_bytes kind ≡ Some k → get_member (codes "kind") ms ≡ Some (string k)
kind_known ms None k has is = absurd (cc is)
kind_known ms (Some kind) k has is = has ∙ ap (option_map string) is

-- For text_listed: what is known of the items.
items_known : (zones : List Zone) (ms : Members) (listed : Option ClusterList) (list : ClusterList)
    → HasListed zones ms listed → listed ≡ Some list → HasItems zones ms list
items_known zones ms listed list has is = subst (HasListed zones ms) is has

-- A text of that, of which the kind of a list and the items are known, is the list of them.
text_listed : (zones : List Zone) (text : List ℕ) (ts : List Token) (said : Said) (k : List ℕ) (list : ClusterList)
    → tokens text ≡ Token.begin_object ∷ ts → BeginsSaid zones 126 ts [] said
    → option_map string_bytes said.kind ≡ Some k → is_list k ≡ true → said.listed ≡ Some list
    → IsListText zones text list
text_listed zones text ts said k list first begun known list_kind listed =
    let has_kind = kind_known begun.members said.kind k begun.is_said.kind known in
    let has = items_known zones begun.members said.listed list begun.is_said.listed listed in
    record {
      value = object begun.members;
      items = has.items;
      reads =
          begins_read text (object begun.members)
          (subst (λ us. Begins 127 us [] (object begun.members)) (sym first)
          (object_begins 127 ts [] begun.members (omega arith) begun.begun));
      listed = listed_by begun.members k has.items has_kind list_kind has.found;
      objects = has.objects;
    }

-- For stream_text: so it is with the answer of list_of.
pub answer_listed : {E : Type 0} (zones : List Zone) (text : List ℕ) (ts : List Token) (said : Said)
    (answer : Result ClusterList E)
    → tokens text ≡ Token.begin_object ∷ ts → BeginsSaid zones 126 ts [] said
    → IfOk answer (λ l. (k : List ℕ) × (option_map string_bytes said.kind ≡ Some k) × (is_list k ≡ true)
    × (said.listed ≡ Some l))
    → IfOk answer (IsListText zones text)
answer_listed zones text ts said (Ok list) first begun is =
    text_listed zones text ts said is.0 list first begun is.1 is.2 is.3
answer_listed zones text ts said (Err e) first begun is = is

-- For take_member: another name is not this one.
pub apart : (name key : List ℕ) → bytes_eq name key ≡ false → key ≡ name → ⊥
apart name key differs same = true≢false (sym ((bytes_eq-Decides name key).1 (sym same)) ∙ differs)
