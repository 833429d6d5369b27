-- A list that is read item by item, and member by member.
use Rattle.std.proofs.Common.{◌≡◌, ◌∙◌, ◌<◌, ◌-◌, ℕ, List, [], ◌∷◌, ◌++◌, length, false, Option, Some, None, is_some, Ordering, Less, Equal, Greater, nat_cmp, option_and_then, append_assoc, append-nil, refl, sym, ap, subst, arith}
use Rattle.std.specs.Cmp.Lexicographic.{slice_cmp}
use Rattle.std.specs.Ordering.{match_ordering}
use Rattle.json.specs.Token.{Token}
use Rattle.json.specs.Reads.{Yields}
use Rattle.json.specs.declared.token.Token as read_token
use Rattle.json.specs.Json.{after_end_array, if_last, read_key}
use Rattle.json.specs.Lex.{tokens}
use Rattle.serde_json.specs.Data.{Data, array, object, Items, no_items, item, Members, no_members, member, put}
use Rattle.serde_json.specs.Read.{of_json, read}
use Rattle.serde_json.specs.View.{items_view, view}
use Rattle.serde_json.specs.declared.value.Value.{Value}
use Rattle.cj_json.specs.Tokens.{Begins}
use Rattle.cj_json.proofs.TokenLemmas.{Leads, MembersLead, array_begins, leads-end, leads-more, leads-start, members-end, members-more, members-start, object_begins}
use Rattle.cj_io.specs.zone_files.Named.{zones_in, zones_in_items, zones_in_members}
use Rattle.cj_io.specs.zone_files.Pruned.{AreAlike, BeginsItemsLike, BeginsLike, BeginsMembersLike, IsLike, NamesSame}

-- ---- items

-- One value more at the end.
zones-push : (vs : List Value) (v : Value)
    → zones_in_items (items_view (vs ++ v ∷ [])) ≡ zones_in_items (items_view vs) ++ zones_in (view v)
zones-push [] v = append-nil (zones_in (view v))
zones-push (w ∷ vs) v =
    ap (λ l. zones_in (view w) ++ l) (zones-push vs v)
    ∙ sym (append_assoc (zones_in (view w)) (zones_in_items (items_view vs)) (zones_in (view v)))

-- of the items that the tokens `all` are, those read name the zones of these values, and the tokens ts are the rest
pub record ItemsPruned (levels : ℕ) (all : List Token) (kept : List Value) (ts : List Token) : Type 0 where
  pub before : Items → Items
  pub turns : ℕ
  pub leads : Leads levels all before turns ts
  pub zones : (rest : Items)
      → zones_in_items (before rest) ≡ zones_in_items (items_view kept) ++ zones_in_items rest

-- For pruned_items: before the first item.
pub items_pruned-start : (levels : ℕ) (all : List Token) (kept : List Value) → kept ≡ []
    → ItemsPruned levels all kept all
items_pruned-start levels all kept none = record {
  before = λ ds. ds;
  turns = length all;
  leads = leads-start levels all;
  zones = λ rest. ap (λ l. zones_in_items (items_view l) ++ zones_in_items rest) (sym none);
}

-- For pruned_items: behind one more item.
pub items_pruned-more : (levels : ℕ) (all : List Token) (kept more : List Value) (ts r : List Token) (d : Data)
    (v : Value)
    → ItemsPruned levels all kept ts → after_end_array ts ≡ None → length r < length ts → Begins levels ts r d
    → zones_in (view v) ≡ zones_in d → more ≡ kept ++ v ∷ [] → ItemsPruned levels all more r
items_pruned-more levels all kept more ts r d v p going less first same is = record {
  before = λ ds. p.before (item d ds);
  turns = p.turns - 1;
  leads = leads-more levels all p.before p.turns ts r d p.leads going less first;
  zones = λ rest.
      p.zones (item d rest)
      ∙ ap (λ l. zones_in_items (items_view kept) ++ (l ++ zones_in_items rest)) (sym same)
      ∙ sym (append_assoc (zones_in_items (items_view kept)) (zones_in (view v)) (zones_in_items rest))
      ∙ ap (λ l. l ++ zones_in_items rest) (sym (zones-push kept v))
      ∙ ap (λ l. zones_in_items (items_view l) ++ zones_in_items rest) (sym is);
}

-- For pruned_items: behind the bracket.
pub items_pruned-end : (levels : ℕ) (all : List Token) (kept : List Value) (ts r : List Token)
    → ItemsPruned levels all kept ts → after_end_array ts ≡ Some r
    → BeginsItemsLike levels all r (items_view kept)
items_pruned-end levels all kept ts r p over = record {
  items = p.before no_items;
  begun = leads-end levels all p.before p.turns ts r p.leads over;
  zones = sym (p.zones no_items ∙ append-nil (zones_in_items (items_view kept)));
}

-- For pruned_array: an array of such items.
pub array_like : (ts r : List Token) (kept : Items) (d : Data) → BeginsItemsLike 125 ts r kept → d ≡ array kept
    → BeginsLike 126 (Token.begin_array ∷ ts) r d
array_like ts r kept d found is = record {
  value = array found.items;
  begun = array_begins 126 ts r found.items (omega arith) found.begun;
  same =
      subst (λ e. NamesSame (array found.items) e) (sym is) record { text = refl; zones = found.zones };
}

-- ---- members

-- Two members of a name go to the same place.
alike_place : (o : Ordering) (k l : List ℕ) (d e a b : Data) (ms ns : Members)
    → NamesSame d e → NamesSame a b → AreAlike ms ns → AreAlike (put k d ms) (put k e ns)
    → AreAlike (match_ordering o (member k d (member l a ms)) (member l d ms) (member l a (put k d ms)))
    (match_ordering o (member k e (member l b ns)) (member l e ns) (member l b (put k e ns)))
alike_place Less k l d e a b ms ns one two rest later = (refl, one, (refl, two, rest))
alike_place Equal k l d e a b ms ns one two rest later = (refl, one, rest)
alike_place Greater k l d e a b ms ns one two rest later = (refl, two, later)

-- Members stay alike with values of the same zones at one name.
pub alike-put : (k : List ℕ) (d e : Data) (ms ns : Members) → NamesSame d e → AreAlike ms ns
    → AreAlike (put k d ms) (put k e ns)
alike-put k d e no_members no_members one all = (refl, one, tt)
alike-put k d e no_members (member l b ns) one all = absurd all
alike-put k d e (member l a ms) no_members one all = absurd all
alike-put k d e (member l a ms) (member m b ns) one all =
    subst (λ x. AreAlike (put k d (member l a ms)) (put k e (member x b ns))) (sym all.0)
    (alike_place (slice_cmp nat_cmp k l) k l d e a b ms ns one all.1 all.2 (alike-put k d e ms ns one all.2))

-- Alike members name the same zones.
pub alike-zones : (ms ns : Members) → AreAlike ms ns → zones_in_members ns ≡ zones_in_members ms
alike-zones no_members no_members all = refl
alike-zones no_members (member l e ns) all = absurd all
alike-zones (member k d ms) no_members all = absurd all
alike-zones (member k d ms) (member l e ns) all =
    rw (all.0, all.1.text, all.1.zones, alike-zones ms ns all.2)

-- of the members that the tokens `all` are, those read are alike these, and the tokens ts are the rest
pub record MembersPruned (levels : ℕ) (all : List Token) (kept : Members) (ts : List Token) : Type 0 where
  pub before : Members
  pub turns : ℕ
  pub leads : MembersLead levels all before turns ts
  pub alike : AreAlike before kept

-- For pruned_members: before the first member.
pub members_pruned-start : (levels : ℕ) (all : List Token) (kept : Members) → kept ≡ no_members
    → MembersPruned levels all kept all
members_pruned-start levels all kept none = record {
  before = no_members;
  turns = length all;
  leads = members-start levels all;
  alike = subst (λ ns. AreAlike no_members ns) (sym none) tt;
}

-- For pruned_members: behind one more member.
pub members_pruned-more : (levels : ℕ) (all : List Token) (kept more : Members) (ts s r : List Token) (k : List ℕ)
    (d : Data)
    → MembersPruned levels all kept ts → read_key ts ≡ Some (Some k, s) → length s < length ts
    → length r < length s → BeginsLike levels s r d → more ≡ put k d kept → MembersPruned levels all more r
members_pruned-more levels all kept more ts s r k d p named keyed less first is = record {
  before = put k first.value p.before;
  turns = p.turns - 1;
  leads = members-more levels all p.before p.turns ts s r k first.value p.leads named keyed less first.begun;
  alike =
      subst (λ ns. AreAlike (put k first.value p.before) ns) (sym is)
      (alike-put k first.value d p.before kept first.same p.alike);
}

-- For pruned_members: behind the brace.
pub members_pruned-end : (levels : ℕ) (all : List Token) (kept : Members) (ts r : List Token)
    → MembersPruned levels all kept ts → read_key ts ≡ Some (None, r) → BeginsMembersLike levels all r kept
members_pruned-end levels all kept ts r p over = record {
  members = p.before;
  begun = members-end levels all p.before p.turns ts r p.leads over;
  alike = p.alike;
}

-- ---- the text

-- For pruned_text: where no token comes, none was left.
pub none_left : (old new : List Token) (token : Option read_token.Token) → Yields old token new
    → is_some token ≡ false → old ≡ []
none_left old new None yields none = yields.0
none_left old new (Some t) yields none = absurd (cc none)

-- A text that begins with a value, behind which nothing is, is that value.
begins_read : (text : List ℕ) (d : Data) → Begins 127 (tokens text) [] d → read text ≡ Some d
begins_read text d begun =
    ap (λ o. option_and_then of_json (option_and_then (λ p. if_last p.0 p.1) o)) begun.parsed ∙ begun.stands

-- For pruned_text: a text of the brace of an object, and of members that these are alike.
pub text_like : (text : List ℕ) (ts : List Token) (kept : Members) (d : Data)
    → tokens text ≡ Token.begin_object ∷ ts → BeginsMembersLike 126 ts [] kept → d ≡ object kept → IsLike text d
text_like text ts kept d first found is = record {
  value = object found.members;
  reads =
      begins_read text (object found.members)
      (subst (λ us. Begins 127 us [] (object found.members)) (sym first)
      (object_begins 127 ts [] found.members (omega arith) found.begun));
  zones = ap zones_in is ∙ alike-zones found.members kept found.alike;
}
