-- Text that grows by the parts of a value in block style.
use Rattle.std.proofs.Common.{◌≡◌, ℕ, suc, ◌+◌, ◌<◌, ◌≤◌, List, [], ◌∷◌, ◌++◌, length, drop, get_or, string_bytes, Bool, true, false, Some, String, Vec, BTreeMap, Global, refl, sym, ap, ◌∙◌, subst, arith, append_assoc, append-nil}
use Rattle.std.proofs.Math.Seq.{drop-cons}
use Rattle.json.specs.Lex.{tokens}
use Rattle.json.specs.Print.{print}
use Rattle.serde_json.specs.Data.{Data, Items, item, Members, member, object, array, string, items_depth, members_depth}
use Rattle.serde_json.specs.Read.{max_depth, read}
use Rattle.serde_json.specs.View.{view, items_view, members_view}
use Rattle.serde_json.specs.declared.value.Value.{Value, Array, Object}
use Rattle.serde_json.proofs.Views.{view-Array, view-Object}
use Rattle.cj_yaml.specs.Words.{GrowsByPrinted}
use Rattle.cj_yaml.specs.BlockStyle.{front, literal_text, may_be_literal, is_flow, is_leaf, IsLeaf, IsMember, IsItem, IsEntry, IsMapping, IsList, IsBlock, GrowsBy, text, literal, flow, entry, mapping, list, leaf, mapping_in, list_in, leaf_in, no_more, more, ended, further, of_mapping, of_list, of_leaf}

-- A text has grown by the front of a collection, and what is left behind makes it whole.
pub record Begun (out old : List ℕ) (Left All : List ℕ → Type 0) : Type 0 where
  pub part : List ℕ
  pub grows : out ≡ old ++ part
  pub goes_on : (rest : List ℕ) → Left rest → All (part ++ rest)

-- Nothing is printed yet.
pub begin : (old : List ℕ) (All : List ℕ → Type 0) → Begun old old All All
begin old All = record { part = []; grows = sym (append-nil old); goes_on = λ rest is. is }

-- One part more.
pub go_on : (new out old p : List ℕ) (Next Left All : List ℕ → Type 0) → Begun out old Left All
    → new ≡ out ++ p → ((rest : List ℕ) → Next rest → Left (p ++ rest)) → Begun new old Next All
go_on new out old p Next Left All b e step =
    record {
      part = b.part ++ p;
      grows = e ∙ ap (λ x. x ++ p) b.grows ∙ append_assoc old b.part p;
      goes_on = λ rest is.
          subst All (sym (append_assoc b.part p rest)) (b.goes_on (p ++ rest) (step rest is));
    }

-- Nothing is left.
pub finish : (out old : List ℕ) (Left All : List ℕ → Type 0) → Begun out old Left All → Left []
    → GrowsBy All old out
finish out old Left All b is =
    record { part = b.part; grows = b.grows; is = subst All (append-nil b.part) (b.goes_on [] is) }

-- For write_members: one member more.
pub member_more : (new out old k : List ℕ) (d : Data) (ms : Members) (n : ℕ) (c : Bool) (All : List ℕ → Type 0)
    → Begun out old (IsMapping n c (member k d ms)) All → GrowsBy (IsEntry n c k d) out new
    → Begun new old (IsMapping n false ms) All
member_more new out old k d ms n c All b g =
    go_on new out old g.part (IsMapping n false ms) (IsMapping n c (member k d ms)) All b g.grows
    (λ rest is. more g.part rest g.is is)

-- For write_entry: the front, the key, the colon and the value.
pub entry_grows : (a b c d new : List ℕ) (n : ℕ) (p : Bool) (k : List ℕ) (v : Data) → b ≡ a ++ front n p
    → GrowsByPrinted k b c → d ≡ c ++ 58 ∷ [] → GrowsBy (IsMember n v) d new
    → GrowsBy (IsEntry n p k v) a new
entry_grows a b c d new n p k v e g f m =
    record {
      part = front n p ++ (g.printed ++ 58 ∷ m.part);
      grows =
          m.grows ∙ ap (λ x. x ++ m.part) (f ∙ ap (λ x. x ++ 58 ∷ []) (g.grows ∙ ap (λ x. x ++ g.printed) e))
          ∙ append_assoc ((a ++ front n p) ++ g.printed) (58 ∷ []) m.part
          ∙ append_assoc (a ++ front n p) g.printed (58 ∷ m.part)
          ∙ append_assoc a (front n p) (g.printed ++ 58 ∷ m.part);
      is = entry g.printed m.part g.is m.is;
    }

-- For write_items: one item more, at the column two further in.
pub item_more : (new c b out old : List ℕ) (d : Data) (ds : Items) (n m : ℕ) (p : Bool) (All : List ℕ → Type 0)
    → Begun out old (IsList n p (item d ds)) All → m ≡ n + 2 → b ≡ out ++ front n p → c ≡ b ++ 45 ∷ 32 ∷ []
    → GrowsBy (IsItem m d) c new → Begun new old (IsList n false ds) All
item_more new c b out old d ds n m p All begun same e f g =
    go_on new out old (front n p ++ 45 ∷ 32 ∷ g.part) (IsList n false ds) (IsList n p (item d ds)) All begun
    (g.grows ∙ ap (λ x. x ++ g.part) (f ∙ ap (λ x. x ++ 45 ∷ 32 ∷ []) e)
    ∙ append_assoc (out ++ front n p) (45 ∷ 32 ∷ []) g.part
    ∙ append_assoc out (front n p) (45 ∷ 32 ∷ g.part))
    (λ rest is. further g.part rest (subst (λ k. IsItem k d g.part) same g.is) is)

-- Behind one byte more.
behind_byte : (x : ℕ) (a b new : List ℕ) (Is Whole : List ℕ → Type 0) → b ≡ a ++ x ∷ [] → GrowsBy Is b new
    → ((t : List ℕ) → Is t → Whole (x ∷ t)) → GrowsBy Whole a new
behind_byte x a b new Is Whole e g step =
    record {
      part = x ∷ g.part;
      grows = g.grows ∙ ap (λ y. y ++ g.part) e ∙ append_assoc a (x ∷ []) g.part;
      is = step g.part g.is;
    }

-- For mapping_below: of its entries.
entries_below : (es : List (String Global × Value)) (n m : ℕ) (a b new : List ℕ) → (length es ≡ 0 → ⊥)
    → m ≡ n + 2 → b ≡ a ++ 10 ∷ [] → GrowsBy (IsMapping m false (members_view es)) b new
    → GrowsBy (IsMember n (object (members_view es))) a new
entries_below [] n m a b new some same e g = absurd (some refl)
entries_below (x ∷ es) n m a b new some same e g =
    behind_byte 10 a b new (IsMapping m false (members_view (x ∷ es))) (IsMember n (object (members_view (x ∷ es)))) e
    g (λ t is. mapping (subst (λ k. IsMapping k false (members_view (x ∷ es)) t) same is))

-- For write_member: a mapping that has members.
pub mapping_below : (ms : BTreeMap (String Global) Value) (n m : ℕ) (a b new : List ℕ)
    → (length ms.entries ≡ 0 → ⊥) → m ≡ n + 2 → b ≡ a ++ 10 ∷ []
    → GrowsBy (IsMapping m false (members_view ms.entries)) b new → GrowsBy (IsMember n (view (Object ms))) a new
mapping_below ms n m a b new some same e g =
    subst (λ d. GrowsBy (IsMember n d) a new) (sym (view-Object ms))
    (entries_below ms.entries n m a b new some same e g)

-- For list_below: of its values.
values_below : (vs : List Value) (n : ℕ) (a b new : List ℕ) → (length vs ≡ 0 → ⊥) → b ≡ a ++ 10 ∷ []
    → GrowsBy (IsList n false (items_view vs)) b new → GrowsBy (IsMember n (array (items_view vs))) a new
values_below [] n a b new some e g = absurd (some refl)
values_below (v ∷ vs) n a b new some e g =
    behind_byte 10 a b new (IsList n false (items_view (v ∷ vs))) (IsMember n (array (items_view (v ∷ vs)))) e g
    (λ t is. list is)

-- For write_member: a list that has items.
pub list_below : (v : Vec Value Global) (n : ℕ) (a b new : List ℕ) → (length v.items ≡ 0 → ⊥) → b ≡ a ++ 10 ∷ []
    → GrowsBy (IsList n false (items_view v.items)) b new → GrowsBy (IsMember n (view (Array v))) a new
list_below v n a b new some e g =
    subst (λ d. GrowsBy (IsMember n d) a new) (sym (view-Array v)) (values_below v.items n a b new some e g)

-- For write_member: what stands on the line.
pub leaf_behind : (d : Data) (n m : ℕ) (a b new : List ℕ) → m ≡ n + 2 → b ≡ a ++ 32 ∷ [] → GrowsBy (IsLeaf m d) b new
    → GrowsBy (IsMember n d) a new
leaf_behind d n m a b new same e g =
    behind_byte 32 a b new (IsLeaf m d) (IsMember n d) e g (λ t is. leaf (subst (λ k. IsLeaf k d t) same is))

-- For mapping_here and its like: the same part as something else.
as_whole : (a new : List ℕ) (Is Whole : List ℕ → Type 0) → GrowsBy Is a new → ((t : List ℕ) → Is t → Whole t)
    → GrowsBy Whole a new
as_whole a new Is Whole g step = record { part = g.part; grows = g.grows; is = step g.part g.is }

-- For mapping_here: of its entries.
entries_here : (es : List (String Global × Value)) (n : ℕ) (a new : List ℕ) → (length es ≡ 0 → ⊥)
    → GrowsBy (IsMapping n true (members_view es)) a new → GrowsBy (IsItem n (object (members_view es))) a new
entries_here [] n a new some g = absurd (some refl)
entries_here (x ∷ es) n a new some g =
    as_whole a new (IsMapping n true (members_view (x ∷ es))) (IsItem n (object (members_view (x ∷ es)))) g
    (λ t is. mapping_in is)

-- For write_item: a mapping that has members.
pub mapping_here : (ms : BTreeMap (String Global) Value) (n : ℕ) (a new : List ℕ) → (length ms.entries ≡ 0 → ⊥)
    → GrowsBy (IsMapping n true (members_view ms.entries)) a new → GrowsBy (IsItem n (view (Object ms))) a new
mapping_here ms n a new some g =
    subst (λ d. GrowsBy (IsItem n d) a new) (sym (view-Object ms)) (entries_here ms.entries n a new some g)

-- For list_here: of its values.
values_here : (vs : List Value) (n : ℕ) (a new : List ℕ) → (length vs ≡ 0 → ⊥)
    → GrowsBy (IsList n true (items_view vs)) a new → GrowsBy (IsItem n (array (items_view vs))) a new
values_here [] n a new some g = absurd (some refl)
values_here (v ∷ vs) n a new some g =
    as_whole a new (IsList n true (items_view (v ∷ vs))) (IsItem n (array (items_view (v ∷ vs)))) g
    (λ t is. list_in is)

-- For write_item: a list that has items.
pub list_here : (v : Vec Value Global) (n : ℕ) (a new : List ℕ) → (length v.items ≡ 0 → ⊥)
    → GrowsBy (IsList n true (items_view v.items)) a new → GrowsBy (IsItem n (view (Array v))) a new
list_here v n a new some g =
    subst (λ d. GrowsBy (IsItem n d) a new) (sym (view-Array v)) (values_here v.items n a new some g)

-- For write_item: what stands on the line.
pub leaf_here : (d : Data) (n : ℕ) (a new : List ℕ) → GrowsBy (IsLeaf n d) a new → GrowsBy (IsItem n d) a new
leaf_here d n a new g = as_whole a new (IsLeaf n d) (IsItem n d) g (λ t is. leaf_in is)

-- What an empty text has grown by is the text.
whole : (a new : List ℕ) (Is : List ℕ → Type 0) → a ≡ [] → GrowsBy Is a new → Is new
whole a new Is e g = subst Is (sym (g.grows ∙ ap (λ x. x ++ g.part) e)) g.is

-- For mapping_alone: of its entries.
entries_alone : (es : List (String Global × Value)) (t : List ℕ) → (length es ≡ 0 → ⊥)
    → IsMapping 0 false (members_view es) t → IsBlock (object (members_view es)) t
entries_alone [] t some is = absurd (some refl)
entries_alone (x ∷ es) t some is = of_mapping is

-- For write_block: a mapping that has members.
pub mapping_alone : (ms : BTreeMap (String Global) Value) (a new : List ℕ) → (length ms.entries ≡ 0 → ⊥) → a ≡ []
    → GrowsBy (IsMapping 0 false (members_view ms.entries)) a new → IsBlock (view (Object ms)) new
mapping_alone ms a new some e g =
    subst (λ d. IsBlock d new) (sym (view-Object ms))
    (entries_alone ms.entries new some (whole a new (IsMapping 0 false (members_view ms.entries)) e g))

-- For list_alone: of its values.
values_alone : (vs : List Value) (t : List ℕ) → (length vs ≡ 0 → ⊥) → IsList 0 false (items_view vs) t
    → IsBlock (array (items_view vs)) t
values_alone [] t some is = absurd (some refl)
values_alone (v ∷ vs) t some is = of_list is

-- For write_block: a list that has items.
pub list_alone : (v : Vec Value Global) (a new : List ℕ) → (length v.items ≡ 0 → ⊥) → a ≡ []
    → GrowsBy (IsList 0 false (items_view v.items)) a new → IsBlock (view (Array v)) new
list_alone v a new some e g =
    subst (λ d. IsBlock d new) (sym (view-Array v))
    (values_alone v.items new some (whole a new (IsList 0 false (items_view v.items)) e g))

-- For write_block: what stands on the line.
pub leaf_alone : (d : Data) (a new : List ℕ) → a ≡ [] → GrowsBy (IsLeaf 2 d) a new → IsBlock d new
leaf_alone d a new e g = of_leaf (whole a new (IsLeaf 2 d) e g)

-- For write_text: a text on its line.
pub line_grows : (a b new t : List ℕ) (n : ℕ) → GrowsByPrinted t a b → new ≡ b ++ 10 ∷ []
    → GrowsBy (IsLeaf n (string t)) a new
line_grows a b new t n g e =
    record {
      part = g.printed ++ 10 ∷ [];
      grows = e ∙ ap (λ x. x ++ 10 ∷ []) g.grows ∙ append_assoc a g.printed (10 ∷ []);
      is = text g.printed g.is;
    }

-- For write_text: a text in lines.
pub literal_grows : (a new t : List ℕ) (n : ℕ) → may_be_literal t ≡ true → new ≡ a ++ literal_text n t
    → GrowsBy (IsLeaf n (string t)) a new
literal_grows a new t n may e = record { part = literal_text n t; grows = e; is = literal may }

-- For write_flow: as JSON has it.
pub flow_grows : (a b new s : List ℕ) (d : Data) (n : ℕ) → is_flow d ≡ true → read s ≡ Some d
    → s ≡ print (tokens s) → b ≡ a ++ s → new ≡ b ++ 10 ∷ [] → GrowsBy (IsLeaf n d) a new
flow_grows a b new s d n no_lines said compact e f =
    record {
      part = s ++ 10 ∷ [];
      grows = f ∙ ap (λ x. x ++ 10 ∷ []) e ∙ append_assoc a s (10 ∷ []);
      is = flow s no_lines (record { value = said; compact = compact });
    }

-- For no_members_leaf: of its entries.
no_entries_leaf : (es : List (String Global × Value)) → length es ≡ 0 → is_leaf (object (members_view es)) ≡ true
no_entries_leaf [] none = refl
no_entries_leaf (x ∷ es) none = absurd (omega (arith, none))

-- For write_member and its like: a mapping with no members stands on its line.
pub no_members_leaf : (ms : BTreeMap (String Global) Value) → length ms.entries ≡ 0 → is_leaf (view (Object ms)) ≡ true
no_members_leaf ms none =
    subst (λ d. is_leaf d ≡ true) (sym (view-Object ms)) (no_entries_leaf ms.entries none)

-- For no_items_leaf: of its values.
no_values_leaf : (vs : List Value) → length vs ≡ 0 → is_leaf (array (items_view vs)) ≡ true
no_values_leaf [] none = refl
no_values_leaf (v ∷ vs) none = absurd (omega (arith, none))

-- For write_member and its like: a list with no items stands on its line.
pub no_items_leaf : (v : Vec Value Global) → length v.items ≡ 0 → is_leaf (view (Array v)) ≡ true
no_items_leaf v none =
    subst (λ d. is_leaf d ≡ true) (sym (view-Array v)) (no_values_leaf v.items none)

-- For write_members: all members are printed.
pub members_end : (es : List (String Global × Value)) (out old : List ℕ) (n : ℕ) (c : Bool) (All : List ℕ → Type 0)
    → es ≡ [] → Begun out old (IsMapping n c (members_view es)) All → GrowsBy All old out
members_end es out old n c All e b =
    finish out old (IsMapping n c (members_view es)) All b
    (subst (λ xs. IsMapping n c (members_view xs) []) (sym e) no_more)

-- For write_items: all items are printed.
pub items_end : (vs : List Value) (out old : List ℕ) (n : ℕ) (c : Bool) (All : List ℕ → Type 0) → vs ≡ []
    → Begun out old (IsList n c (items_view vs)) All → GrowsBy All old out
items_end vs out old n c All e b =
    finish out old (IsList n c (items_view vs)) All b
    (subst (λ xs. IsList n c (items_view xs) []) (sym e) ended)

-- For write_members: one entry more of an object.
pub entry_more : (es rest : List (String Global × Value)) (k : String Global) (v : Value) (said new out old : List ℕ)
    (n : ℕ) (c : Bool) (All : List ℕ → Type 0) → es ≡ (k, v) ∷ rest → said ≡ string_bytes k
    → members_depth (members_view es) ≤ max_depth → Begun out old (IsMapping n c (members_view es)) All
    → GrowsBy (IsEntry n c said (view v)) out new
    → (members_depth (members_view rest) ≤ max_depth) × Begun new old (IsMapping n false (members_view rest)) All
entry_more es rest k v said new out old n c All e t within b g =
    let low : members_depth (members_view ((k, v) ∷ rest)) ≤ max_depth =
    subst (λ xs. members_depth (members_view xs) ≤ max_depth) e within in (
      omega (arith, low),
      member_more new out old (string_bytes k) (view v) (members_view rest) n c All
          (subst (λ xs. Begun out old (IsMapping n c (members_view xs)) All) e b)
          (subst (λ x. GrowsBy (IsEntry n c x (view v)) out new) t g),
    )

-- What is left of a list at a place.
rest_at : (xs : List Value) (i : ℕ) (x : Value) → i < length xs → x ≡ get_or xs i x → drop i xs ≡ x ∷ drop (i + 1) xs
rest_at xs i x inside at =
    let next : suc i ≡ i + 1 = omega arith in
    drop-cons xs i x inside ∙ ap (λ y. y ∷ drop (suc i) xs) (sym at) ∙ ap (λ n. x ∷ drop n xs) next

-- For write_items: one value more of a list.
pub value_more : (xs : List Value) (i : ℕ) (v : Value) (new c b out old : List ℕ) (n m : ℕ) (p : Bool)
    (All : List ℕ → Type 0) → i < length xs → v ≡ get_or xs i v
    → items_depth (items_view (drop i xs)) ≤ max_depth → Begun out old (IsList n p (items_view (drop i xs))) All
    → m ≡ n + 2 → b ≡ out ++ front n p → c ≡ b ++ 45 ∷ 32 ∷ [] → GrowsBy (IsItem m (view v)) c new
    → (items_depth (items_view (drop (i + 1) xs)) ≤ max_depth)
    × Begun new old (IsList n false (items_view (drop (i + 1) xs))) All
value_more xs i v new c b out old n m p All inside at within begun same e f g =
    let left = rest_at xs i v inside at in
    let low : items_depth (items_view (v ∷ drop (i + 1) xs)) ≤ max_depth =
    subst (λ ys. items_depth (items_view ys) ≤ max_depth) left within in (
      omega (arith, low),
      item_more new c b out old (view v) (items_view (drop (i + 1) xs)) n m p All
          (subst (λ ys. Begun out old (IsList n p (items_view ys)) All) left begun) same e f g,
    )
