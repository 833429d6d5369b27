-- Values, items and members of a JSON text, one after another.
use Rattle.std.proofs.Common.{◌≡◌, ◌∙◌, ◌≤◌, ◌<◌, ◌-◌, ℕ, zero, suc, List, [], ◌∷◌, ◌++◌, length, Bool, true, false, IfErr, IfOk, Option, Some, None, Result, Ok, Err, option_map, option_and_then, append-nil, inl, inr, refl, sym, ap, subst, arith}
use Rattle.std.specs.Ordering.{nat_cmp, match_ordering}
use Rattle.std.specs.declared.cmp.Ordering.{Ordering}
use Rattle.std.specs.declared.cmp.Ordering.TheVariants.{Less, Equal, Greater}
use Rattle.std.specs.Cmp.Lexicographic.{slice_cmp}
use Rattle.json.specs.Token.{Token}
use Rattle.json.specs.Json as json
use Rattle.json.specs.Json.{Parse, parse_map, after_end_array, read_key}
use Rattle.json.specs.Lex.{tokens}
use Rattle.json.specs.Print.{IsNumber, ArePrintable, print_from}
use Rattle.json.proofs.Grammar.{items_end, items_more, members_end, members_more, members_no_key, value_is, value-begin_array, value-begin_object}
use Rattle.json.proofs.Printed.Tokens.{tokens-print}
use Rattle.serde_json.specs.Data.{Num, Data, null, boolean, number, string, array, object, Items, no_items, item, Members, no_members, member, put, depth, items_depth, members_depth}
use Rattle.serde_json.specs.Read.{number_of, of_json, of_items, of_members, read}
use Rattle.serde_json.specs.View.{view, items_view}
use Rattle.serde_json.specs.declared.value.Value.{Value}
use Rattle.cj_json.specs.Tokens.{Begins, BeginsItems, BeginsMembers, BeginsNoItems, BeginsNoMembers, BeginsNone, IsUnread}
use Rattle.cj_base.specs.declared.refusal.Refusal.{Refusal}

-- ---- items

-- items that go on with others
abbrev pub followed : List Value → Items → Items
followed [] ds = ds
followed (v ∷ vs) ds = item (view v) (followed vs ds)

-- For read_items: where none follow, they are the values.
pub followed-none : (vs : List Value) → followed vs no_items ≡ items_view vs
followed-none [] = refl
followed-none (v ∷ vs) = ap (item (view v)) (followed-none vs)

-- For followed-more: the last value is the first that follows.
pub followed-push : (vs : List Value) (v : Value) (ds : Items)
    → followed (vs ++ v ∷ []) ds ≡ followed vs (item (view v) ds)
followed-push [] v ds = refl
followed-push (w ∷ vs) v ds = ap (item (view w)) (followed-push vs v ds)

-- in so many turns, the tokens are items to the bracket that closes an array
pub record ItemsIn (levels : ℕ) (n : ℕ) (ts : List Token) : Type 0 where
  pub rest : List Token
  pub tree : json.Items
  pub items : Items
  pub parsed : json.items (json.value levels) n ts ≡ Some (tree, rest)
  pub stands : of_items tree ≡ Some items

-- with so many turns, the tokens ts are the rest of the items that the tokens `all` are: those
-- before them make `before` of them
pub record Leads (levels : ℕ) (all : List Token) (before : Items → Items) (n : ℕ) (ts : List Token) : Type 0 where
  pub enough : length ts ≤ n
  pub whole : (rest : List Token) (js : json.Items) (ds : Items)
      → json.items (json.value levels) n ts ≡ Some (js, rest) → of_items js ≡ Some ds
      → BeginsItems levels all rest (before ds)
  pub back : (rest : List Token) (ds : Items) → BeginsItems levels all rest ds → ItemsIn levels n ts

-- For read_items: before the first item.
pub leads-start : (levels : ℕ) (all : List Token) → Leads levels all (λ ds. ds) (length all) all
leads-start levels all = record {
  enough = omega arith;
  whole = λ rest js ds parsed stands. record { tree = js; parsed = parsed; stands = stands };
  back = λ rest ds all_are. record {
    rest = rest;
    tree = all_are.tree;
    items = ds;
    parsed = all_are.parsed;
    stands = all_are.stands;
  };
}

abbrev first_or : {A : Type 0} → A → Option (A × List Token) → A
first_or a None = a
first_or a (Some p) = p.0

-- Where two readings are the same, so is what they read.
first_same : {A : Type 0} (a b : A) (s u : List Token)
    → ◌≡◌ {A = Option (A × List Token)} (Some (a, s)) (Some (b, u)) → a ≡ b
first_same a b s u e = ap (first_or a) e

-- For items_left: what is read behind the first of some items.
behind_item : (levels m : ℕ) (ts r : List Token) (j : json.Json) (o : Option (json.Items × List Token))
    (tree : json.Items) (rest : List Token) (ds : Items)
    → json.items (json.value levels) m r ≡ o → parse_map (json.item j) o ≡ Some (tree, rest) → of_items tree ≡ Some ds
    → ItemsIn levels m r
behind_item levels m ts r j None tree rest ds is parsed stands = absurd (cc parsed)
behind_item levels m ts r j (Some p) tree rest ds is parsed stands =
    kept (of_json j) (of_items p.0) refl
    (subst (λ t. of_items t ≡ Some ds) (sym (first_same (json.item j p.0) tree p.1 rest parsed)) stands)
  where
    kept : (head : Option Data) (tail : Option Items) → of_items p.0 ≡ tail
        → option_and_then (λ d. option_map (item d) tail) head ≡ Some ds → ItemsIn levels m r
    kept None tail known e = absurd (cc e)
    kept (Some d) None known e = absurd (cc e)
    kept (Some d) (Some es) known e =
        record { rest = p.1; tree = p.0; items = es; parsed = is; stands = known }

-- Behind the first item are the others.
items_left : (levels n : ℕ) (ts r : List Token) (d : Data) → 0 < n → after_end_array ts ≡ None → Begins levels ts r d
    → ItemsIn levels n ts → ItemsIn levels (n - 1) r
items_left levels n ts r d some going first all_are =
    behind_item levels (n - 1) ts r first.tree (json.items (json.value levels) (n - 1) r) all_are.tree all_are.rest
    all_are.items refl
    (sym (items_more (json.value levels) n ts r first.tree some going first.parsed) ∙ all_are.parsed) all_are.stands

-- For leads-more: an item in front of others.
with_item : (j : json.Json) (js : json.Items) (d : Data) (ds : Items) → of_json j ≡ Some d → of_items js ≡ Some ds
    → of_items (json.item j js) ≡ Some (item d ds)
with_item j js d ds one more = rw (one, more)

-- For followed-more: behind one more item.
pub leads-more : (levels : ℕ) (all : List Token) (before : Items → Items) (n : ℕ) (ts r : List Token) (d : Data)
    → Leads levels all before n ts → after_end_array ts ≡ None → length r < length ts → Begins levels ts r d
    → Leads levels all (λ ds. before (item d ds)) (n - 1) r
leads-more levels all before n ts r d leads going less first = record {
  enough = omega (arith, less, leads.enough);
  whole = λ rest js ds parsed stands.
      leads.whole rest (json.item first.tree js) (item d ds)
      (items_more (json.value levels) n ts r first.tree (omega (arith, less, leads.enough)) going first.parsed
      ∙ ap (parse_map (json.item first.tree)) parsed)
      (with_item first.tree js d ds first.stands stands);
  back = λ rest ds all_are.
      items_left levels n ts r d (omega (arith, less, leads.enough)) going first (leads.back rest ds all_are);
}

-- For read_items: so it is behind one more of the values that were found.
pub followed-more : (levels : ℕ) (all : List Token) (vs : List Value) (v : Value) (more : List Value) (n : ℕ)
    (ts r : List Token)
    → more ≡ vs ++ v ∷ [] → Leads levels all (λ ds. followed vs ds) n ts → after_end_array ts ≡ None
    → length r < length ts → Begins levels ts r (view v)
    → Leads levels all (λ ds. followed more ds) (n - 1) r
followed-more levels all vs v more n ts r is leads going less first =
    let on = leads-more levels all (λ ds. followed vs ds) n ts r (view v) leads going less first in
    record {
      enough = on.enough;
      whole = λ rest js ds parsed stands.
          subst (λ x. BeginsItems levels all rest x) (sym (ap (λ ws. followed ws ds) is ∙ followed-push vs v ds))
          (on.whole rest js ds parsed stands);
      back = on.back;
    }

-- For read_items: behind the bracket.
pub leads-end : (levels : ℕ) (all : List Token) (before : Items → Items) (n : ℕ) (ts r : List Token)
    → Leads levels all before n ts → after_end_array ts ≡ Some r → BeginsItems levels all r (before no_items)
leads-end levels all before n ts r leads over =
    leads.whole r json.no_items no_items (items_end (json.value levels) n ts r leads.enough over) refl

-- For no_items_at: without a turn there are none, and without a value neither.
no_item : (levels n : ℕ) (ts : List Token) → after_end_array ts ≡ None → BeginsNone levels ts → ItemsIn levels n ts → ⊥
unfolding json.items
no_item levels zero ts going none all_are = absurd (cc all_are.parsed)
no_item levels (suc n) ts going none all_are =
    by_value (json.value levels ts) refl
    (subst (λ o. json.items_step (json.value levels) (json.items (json.value levels) n) ts o
    ≡ Some (all_are.tree, all_are.rest)) going all_are.parsed)
  where
    by_head : (q : json.Json × List Token) (js : json.Items) → json.value levels ts ≡ Some q
        → json.item q.0 js ≡ all_are.tree
        → (head : Option Data) → of_json q.0 ≡ head
        → option_and_then (λ d. option_map (item d) (of_items js)) head ≡ Some all_are.items → ⊥
    by_head q js is tree None known e = absurd (cc e)
    by_head q js is tree (Some d) known e = none q.1 d (record { tree = q.0; parsed = is; stands = known })

    by_rest : (q : json.Json × List Token) → json.value levels ts ≡ Some q → (o : Option (json.Items × List Token))
        → parse_map (json.item q.0) o ≡ Some (all_are.tree, all_are.rest) → ⊥
    by_rest q is None e = absurd (cc e)
    by_rest q is (Some p) e =
        let tree = first_same (json.item q.0 p.0) all_are.tree p.1 all_are.rest e in
        by_head q p.0 is tree (of_json q.0) refl
        (subst (λ t. of_items t ≡ Some all_are.items) (sym tree) all_are.stands)

    by_value : (o : Option (json.Json × List Token)) → json.value levels ts ≡ o
        → option_and_then (λ q. parse_map (json.item q.0) (json.items (json.value levels) n q.1)) o
        ≡ Some (all_are.tree, all_are.rest) → ⊥
    by_value None is e = absurd (cc e)
    by_value (Some q) is e = by_rest q is (json.items (json.value levels) n q.1) e

-- For read_items: where the tokens that are left begin with no value, there are no items at all.
pub items_lack : (levels : ℕ) (all : List Token) (before : Items → Items) (n : ℕ) (ts : List Token)
    → Leads levels all before n ts → after_end_array ts ≡ None → BeginsNone levels ts → BeginsNoItems levels all
items_lack levels all before n ts leads going none rest ds all_are =
    no_item levels n ts going none (leads.back rest ds all_are)

-- For read_value: an array, by its items.
pub array_begins : (levels : ℕ) (ts r : List Token) (ds : Items) → 0 < levels → BeginsItems (levels - 1) ts r ds
    → Begins levels (Token.begin_array ∷ ts) r (array ds)
array_begins levels ts r ds some found = record {
  tree = json.array found.tree;
  parsed = value-begin_array levels ts some ∙ ap (parse_map json.array) found.parsed;
  stands = ap (option_map array) found.stands;
}

-- ---- members

-- in so many turns, the tokens are members to the brace that closes an object, behind others
pub record MembersIn (levels : ℕ) (before : Members) (n : ℕ) (ts : List Token) : Type 0 where
  pub rest : List Token
  pub tree : json.Members
  pub members : Members
  pub parsed : json.members (json.value levels) n ts ≡ Some (tree, rest)
  pub stands : of_members tree before ≡ Some members

-- with so many turns, the tokens ts are the rest of the members that the tokens `all` are: those
-- before them are `before`
pub record MembersLead (levels : ℕ) (all : List Token) (before : Members) (n : ℕ) (ts : List Token) : Type 0 where
  pub enough : length ts ≤ n
  pub whole : (rest : List Token) (js : json.Members) (ms : Members)
      → json.members (json.value levels) n ts ≡ Some (js, rest) → of_members js before ≡ Some ms
      → BeginsMembers levels all rest ms
  pub back : (rest : List Token) (ms : Members) → BeginsMembers levels all rest ms → MembersIn levels before n ts

-- For read_members: before the first member.
pub members-start : (levels : ℕ) (all : List Token) → MembersLead levels all no_members (length all) all
members-start levels all = record {
  enough = omega arith;
  whole = λ rest js ms parsed stands. record { tree = js; parsed = parsed; stands = stands };
  back = λ rest ms all_are. record {
    rest = rest;
    tree = all_are.tree;
    members = ms;
    parsed = all_are.parsed;
    stands = all_are.stands;
  };
}

-- For members_left: what is read behind the first of some members.
behind_member : (levels m : ℕ) (before : Members) (r : List Token) (k : List ℕ) (j : json.Json) (d : Data)
    (o : Option (json.Members × List Token)) (tree : json.Members) (rest : List Token) (ms : Members)
    → json.members (json.value levels) m r ≡ o → parse_map (json.member k j) o ≡ Some (tree, rest) → of_json j ≡ Some d
    → of_members tree before ≡ Some ms → MembersIn levels (put k d before) m r
behind_member levels m before r k j d None tree rest ms is parsed one stands = absurd (cc parsed)
behind_member levels m before r k j d (Some p) tree rest ms is parsed one stands = record {
  rest = p.1;
  tree = p.0;
  members = ms;
  parsed = is;
  stands = behind (of_json j) one
      (subst (λ t. of_members t before ≡ Some ms) (sym (first_same (json.member k j p.0) tree p.1 rest parsed)) stands);
}
  where
    behind : (head : Option Data) → head ≡ Some d
        → option_and_then (λ e. of_members p.0 (put k e before)) head ≡ Some ms
        → of_members p.0 (put k d before) ≡ Some ms
    behind head known e = subst (λ h. option_and_then (λ x. of_members p.0 (put k x before)) h ≡ Some ms) known e

-- Behind the first member are the others.
members_left : (levels n : ℕ) (before : Members) (ts s r : List Token) (k : List ℕ) (d : Data) → 0 < n
    → read_key ts ≡ Some (Some k, s) → Begins levels s r d → MembersIn levels before n ts
    → MembersIn levels (put k d before) (n - 1) r
members_left levels n before ts s r k d some named first all_are =
    behind_member levels (n - 1) before r k first.tree d (json.members (json.value levels) (n - 1) r) all_are.tree
    all_are.rest all_are.members refl
    (sym (members_more (json.value levels) n k ts s r first.tree some named first.parsed) ∙ all_are.parsed)
    first.stands all_are.stands

-- For members-more: a member in front of others.
with_member : (k : List ℕ) (j : json.Json) (js : json.Members) (d : Data) (before ms : Members)
    → of_json j ≡ Some d → of_members js (put k d before) ≡ Some ms
    → of_members (json.member k j js) before ≡ Some ms
with_member k j js d before ms one more = rw one more

-- For read_members: behind one more member.
pub members-more : (levels : ℕ) (all : List Token) (before : Members) (n : ℕ) (ts s r : List Token) (k : List ℕ)
    (d : Data)
    → MembersLead levels all before n ts → read_key ts ≡ Some (Some k, s) → length s < length ts
    → length r < length s → Begins levels s r d
    → MembersLead levels all (put k d before) (n - 1) r
members-more levels all before n ts s r k d leads named keyed less first = record {
  enough = omega (arith, keyed, less, leads.enough);
  whole = λ rest js ms parsed stands.
      leads.whole rest (json.member k first.tree js) ms
      (members_more (json.value levels) n k ts s r first.tree (omega (arith, keyed, less, leads.enough)) named
      first.parsed
      ∙ ap (parse_map (json.member k first.tree)) parsed)
      (with_member k first.tree js d before ms first.stands stands);
  back = λ rest ms all_are.
      members_left levels n before ts s r k d (omega (arith, keyed, less, leads.enough)) named first
      (leads.back rest ms all_are);
}

-- For read_members: behind the brace.
pub members-end : (levels : ℕ) (all : List Token) (before : Members) (n : ℕ) (ts r : List Token)
    → MembersLead levels all before n ts → read_key ts ≡ Some (None, r) → BeginsMembers levels all r before
members-end levels all before n ts r leads over =
    leads.whole r json.no_members before (members_end (json.value levels) n ts r leads.enough over) refl

-- For read_members: where no key is next, and no brace, there are no members at all.
pub key_lacks : (levels : ℕ) (all : List Token) (before : Members) (n : ℕ) (ts : List Token)
    → MembersLead levels all before n ts → read_key ts ≡ None → BeginsNoMembers levels all
key_lacks levels all before n ts leads none rest ms all_are =
    let left = leads.back rest ms all_are in
    never (members_no_key (json.value levels) n ts none) left.parsed
  where
    never : {o : Option (json.Members × List Token)} {p : json.Members × List Token} → o ≡ None → o ≡ Some p → ⊥
    never e f = absurd (cc (e, f))

-- For member_lacks: a key without a value ends them.
no_member : (levels n : ℕ) (before : Members) (ts s : List Token) (k : List ℕ) → read_key ts ≡ Some (Some k, s)
    → BeginsNone levels s → MembersIn levels before n ts → ⊥
unfolding json.members
no_member levels zero before ts s k named none all_are = absurd (cc all_are.parsed)
no_member levels (suc n) before ts s k named none all_are =
    by_value (json.value levels s) refl
    (subst
    (λ o. option_and_then
    (λ p. json.members_step (json.value levels) (json.members (json.value levels) n) p.0 p.1) o
    ≡ Some (all_are.tree, all_are.rest))
    named all_are.parsed)
  where
    by_head : (q : json.Json × List Token) (js : json.Members) → json.value levels s ≡ Some q
        → (head : Option Data) → of_json q.0 ≡ head
        → option_and_then (λ d. of_members js (put k d before)) head ≡ Some all_are.members → ⊥
    by_head q js is None known e = absurd (cc e)
    by_head q js is (Some d) known e = none q.1 d (record { tree = q.0; parsed = is; stands = known })

    by_rest : (q : json.Json × List Token) → json.value levels s ≡ Some q → (o : Option (json.Members × List Token))
        → parse_map (json.member k q.0) o ≡ Some (all_are.tree, all_are.rest) → ⊥
    by_rest q is None e = absurd (cc e)
    by_rest q is (Some p) e =
        let tree = first_same (json.member k q.0 p.0) all_are.tree p.1 all_are.rest e in
        by_head q p.0 is (of_json q.0) refl
        (subst (λ t. of_members t before ≡ Some all_are.members) (sym tree) all_are.stands)

    by_value : (o : Option (json.Json × List Token)) → json.value levels s ≡ o
        → option_and_then (λ q. parse_map (json.member k q.0) (json.members (json.value levels) n q.1)) o
        ≡ Some (all_are.tree, all_are.rest) → ⊥
    by_value None is e = absurd (cc e)
    by_value (Some q) is e = by_rest q is (json.members (json.value levels) n q.1) e

-- For read_members: so there are none at all.
pub member_lacks : (levels : ℕ) (all : List Token) (before : Members) (n : ℕ) (ts s : List Token) (k : List ℕ)
    → MembersLead levels all before n ts → read_key ts ≡ Some (Some k, s) → BeginsNone levels s
    → BeginsNoMembers levels all
member_lacks levels all before n ts s k leads named none rest ms all_are =
    no_member levels n before ts s k named none (leads.back rest ms all_are)

-- For read_value: an object, by its members.
pub object_begins : (levels : ℕ) (ts r : List Token) (ms : Members) → 0 < levels
    → BeginsMembers (levels - 1) ts r ms → Begins levels (Token.begin_object ∷ ts) r (object ms)
object_begins levels ts r ms some found = record {
  tree = json.object found.tree;
  parsed = value-begin_object levels ts some ∙ ap (parse_map json.object) found.parsed;
  stands = ap (option_map object) found.stands;
}

-- ---- values without levels

-- For read_value: a text.
pub string_begins : (levels : ℕ) (s : List ℕ) (r : List Token) (d : Data) → d ≡ string s
    → Begins levels (Token.string s ∷ r) r d
string_begins levels s r d is =
    record { tree = json.string s; parsed = value_is levels (Token.string s ∷ r); stands = ap Some (sym is) }

-- For is_number: a number in range.
pub number_begins : (levels : ℕ) (s : List ℕ) (r : List Token) (d : Data) → option_map number (number_of s) ≡ Some d
    → Begins levels (Token.number s ∷ r) r d
number_begins levels s r d is =
    record { tree = json.number s; parsed = value_is levels (Token.number s ∷ r); stands = is }

-- For read_value: so it is with the answer of number_value.
pub is_number : {E : Type 0} (levels : ℕ) (s : List ℕ) (r ts : List Token) (answer : Result Value E)
    → ts ≡ Token.number s ∷ r → IfOk answer (λ v. option_map number (number_of s) ≡ Some (view v))
    → IfOk answer (λ v. Begins levels ts r (view v))
is_number levels s r ts (Ok v) first is =
    subst (λ us. Begins levels us r (view v)) (sym first) (number_begins levels s r (view v) is)
is_number levels s r ts (Err e) first is = is

-- For read_value: true or false.
pub boolean_begins : (levels : ℕ) (b : Bool) (r : List Token) (d : Data) → d ≡ boolean b
    → Begins levels (Token.boolean b ∷ r) r d
boolean_begins levels b r d is =
    record { tree = json.boolean b; parsed = value_is levels (Token.boolean b ∷ r); stands = ap Some (sym is) }

-- For read_value: null.
pub null_begins : (levels : ℕ) (r : List Token) (d : Data) → d ≡ null → Begins levels (Token.null ∷ r) r d
null_begins levels r d is =
    record { tree = json.null; parsed = value_is levels (Token.null ∷ r); stands = ap Some (sym is) }

-- ---- tokens that begin no value

-- What is none, is nothing.
none_at : {o : Option (json.Json × List Token)} {p : json.Json × List Token} → o ≡ None → o ≡ Some p → ⊥
none_at e f = absurd (cc (e, f))

-- no token
pub nothing_begins : (levels : ℕ) (ts : List Token) → ts ≡ [] → BeginsNone levels ts
nothing_begins levels ts is rest d begun = none_at (ap (json.value levels) is ∙ value_is levels []) begun.parsed

-- a token that ends a value, a key, or a bad one
abbrev pub begins_none : Token → Bool
begins_none Token.begin_object = false
begins_none Token.end_object = true
begins_none Token.begin_array = false
begins_none Token.end_array = true
begins_none (Token.key s) = true
begins_none (Token.string s) = false
begins_none (Token.number s) = false
begins_none (Token.boolean b) = false
begins_none Token.null = false
begins_none Token.bad = true

-- For other_begins: none of these begins a value.
no_value : (levels : ℕ) (t : Token) (r : List Token) → begins_none t ≡ true → json.value levels (t ∷ r) ≡ None
no_value levels Token.begin_object r is = absurd (cc is)
no_value levels Token.end_object r is = value_is levels (Token.end_object ∷ r)
no_value levels Token.begin_array r is = absurd (cc is)
no_value levels Token.end_array r is = value_is levels (Token.end_array ∷ r)
no_value levels (Token.key s) r is = value_is levels (Token.key s ∷ r)
no_value levels (Token.string s) r is = absurd (cc is)
no_value levels (Token.number s) r is = absurd (cc is)
no_value levels (Token.boolean b) r is = absurd (cc is)
no_value levels Token.null r is = absurd (cc is)
no_value levels Token.bad r is = value_is levels (Token.bad ∷ r)

-- For read_value: such a token begins none.
pub other_begins : (levels : ℕ) (ts r : List Token) (t : Token) → ts ≡ t ∷ r → begins_none t ≡ true
    → BeginsNone levels ts
other_begins levels ts r t first is rest d begun =
    none_at (ap (json.value levels) first ∙ no_value levels t r is) begun.parsed

-- an array or an object where no level is left
pub deep_array : (levels : ℕ) (ts r : List Token) → levels ≡ 0 → ts ≡ Token.begin_array ∷ r → BeginsNone levels ts
unfolding json.value
deep_array levels ts r zero_left first rest d begun =
    none_at (ap (json.value levels) first ∙ ap (λ n. json.value n (Token.begin_array ∷ r)) zero_left) begun.parsed

-- For read_value: so it is with an object.
pub deep_object : (levels : ℕ) (ts r : List Token) → levels ≡ 0 → ts ≡ Token.begin_object ∷ r → BeginsNone levels ts
unfolding json.value
deep_object levels ts r zero_left first rest d begun =
    none_at (ap (json.value levels) first ∙ ap (λ n. json.value n (Token.begin_object ∷ r)) zero_left) begun.parsed

-- a number out of range
pub number_lacks : (levels : ℕ) (ts r : List Token) (s : List ℕ) → ts ≡ Token.number s ∷ r → number_of s ≡ None
    → BeginsNone levels ts
number_lacks levels ts r s first out rest d begun =
    of_tree begun.tree (sym (ap (json.value levels) first ∙ value_is levels (Token.number s ∷ r)) ∙ begun.parsed)
    begun.stands
  where
    of_tree : (j : json.Json) → ◌≡◌ {A = Option (json.Json × List Token)} (Some (json.number s, r)) (Some (j, rest))
        → of_json j ≡ Some d → ⊥
    of_tree j e stands =
        let same = first_same (json.number s) j r rest e in
        absurd (cc (ap (option_map number) out, subst (λ i. of_json i ≡ Some d) (sym same) stands))

-- an array without its items
pub array_lacks : (levels : ℕ) (ts r : List Token) → 0 < levels → ts ≡ Token.begin_array ∷ r
    → BeginsNoItems (levels - 1) r → BeginsNone levels ts
array_lacks levels ts r some first none rest d begun =
    by_items (json.items (json.value (levels - 1)) (length r) r) refl
    (sym (ap (json.value levels) first ∙ value-begin_array levels r some) ∙ begun.parsed)
  where
    by_data : (p : json.Items × List Token) → json.items (json.value (levels - 1)) (length r) r ≡ Some p
        → (o : Option Items) → of_items p.0 ≡ o → option_map array o ≡ Some d → ⊥
    by_data p is None known e = absurd (cc e)
    by_data p is (Some ds) known e = none p.1 ds (record { tree = p.0; parsed = is; stands = known })

    by_items : (o : Option (json.Items × List Token)) → json.items (json.value (levels - 1)) (length r) r ≡ o
        → parse_map json.array o ≡ Some (begun.tree, rest) → ⊥
    by_items None is e = absurd (cc e)
    by_items (Some p) is e =
        by_data p is (of_items p.0) refl
        (subst (λ j. of_json j ≡ Some d) (sym (first_same (json.array p.0) begun.tree p.1 rest e)) begun.stands)

-- an object without its members
pub object_lacks : (levels : ℕ) (ts r : List Token) → 0 < levels → ts ≡ Token.begin_object ∷ r
    → BeginsNoMembers (levels - 1) r → BeginsNone levels ts
object_lacks levels ts r some first none rest d begun =
    by_members (json.members (json.value (levels - 1)) (length r) r) refl
    (sym (ap (json.value levels) first ∙ value-begin_object levels r some) ∙ begun.parsed)
  where
    by_data : (p : json.Members × List Token) → json.members (json.value (levels - 1)) (length r) r ≡ Some p
        → (o : Option Members) → of_members p.0 no_members ≡ o → option_map object o ≡ Some d → ⊥
    by_data p is None known e = absurd (cc e)
    by_data p is (Some ms) known e = none p.1 ms (record { tree = p.0; parsed = is; stands = known })

    by_members : (o : Option (json.Members × List Token)) → json.members (json.value (levels - 1)) (length r) r ≡ o
        → parse_map json.object o ≡ Some (begun.tree, rest) → ⊥
    by_members None is e = absurd (cc e)
    by_members (Some p) is e =
        by_data p is (of_members p.0 no_members) refl
        (subst (λ j. of_json j ≡ Some d) (sym (first_same (json.object p.0) begun.tree p.1 rest e)) begun.stands)

-- ---- how deep they nest

-- For read_items: with one more value, no deeper than each.
pub items_depth-push : (vs : List Value) (v : Value) (n : ℕ) → items_depth (items_view vs) ≤ n → depth (view v) ≤ n
    → items_depth (items_view (vs ++ v ∷ [])) ≤ n
items_depth-push [] v n all one = omega (arith, one)
items_depth-push (w ∷ vs) v n all one =
    omega (arith, all, one, items_depth-push vs v n (omega (arith, all)) one)

-- For members_depth-put: by where the member goes.
put_place : (o : Ordering) (k l : List ℕ) (d e : Data) (ms : Members) (n : ℕ) → depth d ≤ n → depth e ≤ n
    → members_depth ms ≤ n → members_depth (put k d ms) ≤ n
    → members_depth (match_ordering o (member k d (member l e ms)) (member l d ms) (member l e (put k d ms))) ≤ n
put_place Less k l d e ms n one two more later = omega (arith, one, two, more)
put_place Equal k l d e ms n one two more later = omega (arith, one, more)
put_place Greater k l d e ms n one two more later = omega (arith, two, later)

-- For read_members: with one more member, no deeper than each.
pub members_depth-put : (k : List ℕ) (d : Data) (ms : Members) (n : ℕ) → depth d ≤ n → members_depth ms ≤ n
    → members_depth (put k d ms) ≤ n
members_depth-put k d no_members n one all = omega (arith, one)
members_depth-put k d (member l e ms) n one all =
    put_place (slice_cmp nat_cmp k l) k l d e ms n one (omega (arith, all)) (omega (arith, all))
    (members_depth-put k d ms n one (omega (arith, all)))

-- ---- a number

-- The text of a number has one token.
number_tokens : (s : List ℕ) → IsNumber s → tokens s ≡ Token.number s ∷ []
unfolding ArePrintable print_from
number_tokens s is = ap tokens (sym (append-nil s)) ∙ tokens-print (Token.number s ∷ []) (is, tt)

-- For number_value: what is read of it.
pub read-number : (s : List ℕ) → IsNumber s → read s ≡ option_map number (number_of s)
read-number s is = rw (number_tokens s is, value_is 127 (Token.number s ∷ []))

-- For number_value: what is out of range.
pub none_of : (o : Option Num) → option_map number o ≡ None → o ≡ None
none_of None is = refl
none_of (Some n) is = absurd (cc is)

-- For number_value: a number has no level.
pub number_flat : (o : Option Num) (d : Data) → option_map number o ≡ Some d → depth d ≡ 0
number_flat None d is = absurd (cc is)
number_flat (Some n) d is = ap depth (sym (same (number n) d is))
  where
    same : (a b : Data) → Some a ≡ Some b → a ≡ b
    same a b e = cc e

-- ---- where nothing is read

-- For read_items and the others: what lacks one, lacks the other.
pub unread : (X Y : Type 0) (e : Refusal) → (X → Y) → IsUnread X e → IsUnread Y e
unread X Y e f (inl memory) = inl memory
unread X Y e f (inr lacks) = inr (lacks.0, f lacks.1)

-- For read_value: so it is with the answer of number_value.
pub number_unread : {T : Type 0} (X Y : Type 0) (answer : Result T Refusal) → (X → Y) → IfErr answer (IsUnread X)
    → IfErr answer (IsUnread Y)
number_unread X Y (Ok v) f is = is
number_unread X Y (Err e) f is = unread X Y e f is
