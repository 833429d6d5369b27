-- The compact text of a value that was read, where it has no float, reads as that value.
use Rattle.std.proofs.Common.{◌≡◌, ℕ, zero, suc, ◌^◌, ◌<◌, ◌≤◌, pos, negsuc, neg_ℤ, List, [], ◌∷◌, Bool, true, false, cond, ◌&&◌, Float, Option, Some, None, option_map, option_and_then, refl, sym, ap, ap₂, ◌∙◌, subst, arith, append-nil, ltb-true, leb-true}
use Rattle.std.specs.Prelude.{⊤, max, nat_lt, nat_le, slice_index, ◌==◌, drop}
use Rattle.std.specs.Ordering.{match_ordering}
use Rattle.std.specs.declared.cmp.Ordering.{Ordering}
use Rattle.std.specs.declared.cmp.Ordering.TheVariants.{Less, Equal, Greater}
use Rattle.std.specs.Float.Numeral.{Parts, numeral_digits, scan_numeral, minus}
use Rattle.std.specs.FinMap.Entries.{by_order, is_sorted-put}
use Rattle.std.specs.FinMap.Entries as entries_of
use Rattle.std.proofs.lemmas.Bool.{and_parts, or_parts}
use Rattle.std.proofs.lemmas.Cmp.{nat_list_cmp_total}
use Rattle.json.specs.Token.{Token}
use Rattle.json.specs.Lex.{tokens}
use Rattle.json.specs.Print.{IsNumber}
use Rattle.json.specs.Json as json
use Rattle.json.specs.Tree as tree
use Rattle.json.specs.Tree.{json_tokens, HasNumbers, ItemsHaveNumbers, MembersHaveNumbers}
use Rattle.json.proofs.Printed.Decimals.{IsNumber-decimal, IsNumber-signed_decimal}
use Rattle.json.proofs.Printed.Tokens.{tokens-print}
use Rattle.json.proofs.Printed.Trees.{value-json_tokens, ArePrintable-json_tokens}
use Rattle.serde_json.specs.Data.{Num, unsigned, negative, float, Data, null, boolean, number, string, array, object, Items, no_items, item, Members, no_members, member, put, depth, items_depth, members_depth}
use Rattle.serde_json.specs.Find.{is_float, get, get_member}
use Rattle.serde_json.specs.Read.{is_integer, float_of, number_from, number_of, of_json, of_items, of_members, max_depth, read}
use Rattle.serde_json.specs.Written.{number_text, outline, items_outline, members_outline, has_float, items_have_float, members_have_float, compact_text}
use Rattle.serde_json.proofs.Numbers.{number_of-decimal, number_of-negative}
use Rattle.serde_json.proofs.Texts.{print-outline}
use Rattle.cj_types.specs.LabelMap.{text_cmp}
use Rattle.std.specs.Result.{result_ok}
use Rattle.cj_json.specs.Parts.{unless_float, kept_value}
use Rattle.cj_manifest.specs.Members.{present, unless_null}
use Rattle.cj_manifest.specs.Values.{required, an_object}
use Rattle.cj_manifest.proofs.Rising.{Named, rises, onto, onto_nothing}

-- ---- members as entries

abbrev pub entries : Members → Named Data
entries no_members = []
entries (member k d ms) = (k, d) ∷ entries ms

abbrev members_of : Named Data → Members
members_of [] = no_members
members_of (e ∷ es) = member e.0 e.1 (members_of es)

-- Members taken as entries, and these as members again, are as they were.
members_of-entries : (ms : Members) → members_of (entries ms) ≡ ms
members_of-entries no_members = refl
members_of-entries (member k d ms) = ap (member k d) (members_of-entries ms)

-- Of three lists of members, the entries of the chosen one are the one chosen of their entries.
by_entries : (o : Ordering) (a b c : Members) → entries (match_ordering o a b c)
    ≡ by_order o (entries a) (entries b) (entries c)
by_entries Less a b c = refl
by_entries Equal a b c = refl
by_entries Greater a b c = refl

-- A member put in among members is, in their entries, its value put in at its name.
entries-put : (k : List ℕ) (d : Data) (ms : Members) → entries (put k d ms) ≡ entries_of.put text_cmp k d (entries ms)
entries-put k d no_members = refl
entries-put k d (member l e ms) =
    by_entries (text_cmp k l) _ _ _
    ∙ ap (by_order (text_cmp k l) ((k, d) ∷ (l, e) ∷ entries ms) ((l, d) ∷ entries ms))
    (ap (λ es. (l, e) ∷ es) (entries-put k d ms))

-- ---- what holds of each value that was read

pub record IsNumberBack (n : Num) : Type 0 where
  pub text : IsNumber (number_text n)
  pub back : number_of (number_text n) ≡ Some n

abbrev mutual
  pub IsBack : Data → Type 0
  IsBack null = ⊤
  IsBack (boolean b) = ⊤
  IsBack (number n) = is_float n ≡ false → IsNumberBack n
  IsBack (string s) = ⊤
  IsBack (array ds) = ItemsAreBack ds
  IsBack (object ms) = MembersAreBack ms × rises (entries ms)

  pub ItemsAreBack : Items → Type 0
  ItemsAreBack no_items = ⊤
  ItemsAreBack (item d ds) = IsBack d × ItemsAreBack ds

  pub MembersAreBack : Members → Type 0
  MembersAreBack no_members = ⊤
  MembersAreBack (member k d ms) = IsBack d × MembersAreBack ms

abbrev Holds : {A : Type 0} → (A → Type 0) → Option A → Type 0
Holds P None = ⊤
Holds P (Some a) = P a

-- What holds of a value, where there is one, gives what holds of the one made of it.
holds-map : {A B : Type 0} (P : A → Type 0) (Q : B → Type 0) (f : A → B) → ((a : A) → P a → Q (f a)) → (o : Option A)
    → Holds P o → Holds Q (option_map f o)
holds-map P Q f h None x = tt
holds-map P Q f h (Some a) x = h a x

-- What holds of a value, where there is one, gives what holds of the one that may be made of it.
holds-then : {A B : Type 0} (P : A → Type 0) (Q : B → Type 0) (f : A → Option B) → ((a : A) → P a → Holds Q (f a))
    → (o : Option A) → Holds P o → Holds Q (option_and_then f o)
holds-then P Q f h None x = tt
holds-then P Q f h (Some a) x = h a x

-- What holds of a value where a test passes, and of another anyhow, holds of the chosen one.
holds-cond : {A : Type 0} (P : A → Type 0) (b : Bool) (x y : Option A) → (b ≡ true → Holds P x) → Holds P y
    → Holds P (cond b x y)
holds-cond P true x y h k = h refl
holds-cond P false x y h k = k

-- ---- numbers

abbrev pub IsFine : Num → Type 0
IsFine n = is_float n ≡ false → IsNumberBack n

-- For float_fine: a float, or none, is a fine number.
float_case : (b : Bool) (x : Float) → Holds IsFine (cond b (Some (float x)) None)
float_case true x = λ whole. absurd (cc whole)
float_case false x = tt

-- The float of a numeral, where there is one, is a fine number.
float_fine : (sign : Bool) (p : Parts) → Holds IsFine (float_of sign p)
float_fine sign p = float_case _ _

-- A number below 2 ^ 64 is written as a number, and reads back from that.
pub unsigned_fine : (n : ℕ) → n < 2 ^ 64 → IsFine (unsigned n)
unsigned_fine n h whole = record { text = IsNumber-decimal n h; back = number_of-decimal n h }

-- A number below zero, down to minus 2 ^ 63, is written as a number, and reads back from that.
negative_fine : (n : ℕ) → 0 < n → n ≤ 2 ^ 63 → IsFine (negative (neg_ℤ (pos n)))
negative_fine zero some h whole = absurd (omega (arith, some))
negative_fine (suc n) some h whole = record {
  text = IsNumber-signed_decimal (negsuc n) (omega (arith, h));
  back = number_of-negative n (omega (arith, h));
}

-- For from_fine: a whole number below 2 ^ 64 is a fine one, and else what follows is.
unsigned_case : (b : Bool) (n : ℕ) (rest : Option Num) → Holds IsFine rest
    → Holds IsFine (cond (b && nat_lt n (2 ^ 64)) (Some (unsigned n)) rest)
unsigned_case b n rest = holds-cond IsFine (b && nat_lt n (2 ^ 64)) (Some (unsigned n)) rest
    (λ h. unsigned_fine n (ltb-true _ _ (and_parts _ _ h).1))

-- For from_fine: a whole number from minus 2 ^ 63 to minus 1 is a fine one, else what follows is.
negative_case : (b : Bool) (n : ℕ) (rest : Option Num) → Holds IsFine rest
    → Holds IsFine (cond (b && nat_lt 0 n && nat_le n (2 ^ 63)) (Some (negative (neg_ℤ (pos n)))) rest)
negative_case b n rest = holds-cond IsFine (b && nat_lt 0 n && nat_le n (2 ^ 63)) (Some (negative (neg_ℤ (pos n)))) rest
    (λ h. let two = and_parts (b && nat_lt 0 n) _ h in negative_fine n (ltb-true _ _ (and_parts b _ two.0).1)
    (leb-true _ _ two.1))

-- The number of a numeral, with a minus or without, is a fine number, where there is one.
from_fine : (sign : Bool) (p : Parts) → Holds IsFine (number_from sign p)
from_fine false p = unsigned_case (is_integer p) (numeral_digits p) _ (float_fine false p)
from_fine true p = negative_case (is_integer p) (numeral_digits p) _ (float_fine true p)

-- For number_fine: the number is fine whether the numeral begins with a minus or not.
signed_fine : (sign : Bool) (p q : Parts) → Holds IsFine (cond sign (number_from true p) (number_from false q))
signed_fine true p q = from_fine true p
signed_fine false p q = from_fine false q

-- The number that a text is read as, where there is one, is a fine number.
number_fine : (s : List ℕ) → Holds IsFine (number_of s)
unfolding number_of
number_fine s = signed_fine (slice_index s 0 == minus) (scan_numeral (drop 1 s)) (scan_numeral s)

-- ---- values

-- For put_back: of three lists of members that read back, the chosen one does.
either_back : (o : Ordering) (a b c : Members) → MembersAreBack a → MembersAreBack b → MembersAreBack c
    → MembersAreBack (match_ordering o a b c)
either_back Less a b c p q r = p
either_back Equal a b c p q r = q
either_back Greater a b c p q r = r

-- Members that read back still do with a value put in that reads back.
pub put_back : (k : List ℕ) (d : Data) (ms : Members) → IsBack d → MembersAreBack ms → MembersAreBack (put k d ms)
put_back k d no_members p q = (p, tt)
put_back k d (member l e ms) p q =
    either_back (text_cmp k l) (member k d (member l e ms)) (member l d ms) (member l e (put k d ms)) (p, q) (p, q.1)
    (q.0, put_back k d ms p q.1)

-- Members whose names rise still do with a value put in.
pub put_rises : (k : List ℕ) (d : Data) (ms : Members) → rises (entries ms) → rises (entries (put k d ms))
put_rises k d ms h = subst (λ es. rises es) (sym (entries-put k d ms))
    (is_sorted-put text_cmp nat_list_cmp_total k d (entries ms) h)

abbrev pub IsObject : Members → Type 0
IsObject ms = MembersAreBack ms × rises (entries ms)

mutual
  json_back : (j : json.Json) → Holds IsBack (of_json j)
  json_back json.null = tt
  json_back (json.boolean b) = tt
  json_back (json.number s) = holds-map IsFine IsBack number (λ n h. h) (number_of s) (number_fine s)
  json_back (json.string s) = tt
  json_back (json.array js) = holds-map ItemsAreBack IsBack array (λ ds h. h) (of_items js) (items_back js)
  json_back (json.object ms) = holds-map IsObject IsBack object (λ ns h. h) (of_members ms no_members)
      (members_back ms no_members (tt, tt))

  items_back : (js : json.Items) → Holds ItemsAreBack (of_items js)
  items_back json.no_items = tt
  items_back (json.item j js) =
      holds-then IsBack ItemsAreBack (λ d. option_map (item d) (of_items js))
      (λ d h. holds-map ItemsAreBack ItemsAreBack (item d) (λ ds k. (h, k)) (of_items js) (items_back js)) (of_json j)
      (json_back j)

  members_back : (ms : json.Members) (found : Members) → IsObject found → Holds IsObject (of_members ms found)
  members_back json.no_members found h = h
  members_back (json.member k j ms) found h =
      holds-then IsBack IsObject (λ d. of_members ms (put k d found))
      (λ d b. members_back ms (put k d found) (put_back k d found b h.0, put_rises k d found h.1)) (of_json j)
      (json_back j)

-- For was_read: the value that is made of parsed JSON, where there is one, reads back.
of_read : (o : Option json.Json) → Holds IsBack (option_and_then of_json o)
of_read None = tt
of_read (Some j) = json_back j

-- A value that was read from a text reads back: its whole numbers do, and its names rise.
pub was_read : (text : List ℕ) (d : Data) → read text ≡ Some d → IsBack d
was_read text d h = subst (Holds IsBack) h (of_read
    (option_and_then (λ p. json.if_last p.0 p.1) (json.value max_depth (tokens text))))

-- ---- parts of a value

abbrev GetsBack : Ordering → Type 0
GetsBack o = (rest : Option Data) (e : Data) → IsBack e → Holds IsBack rest
    → Holds IsBack (match_ordering o rest (Some e) rest)

-- For member_back: of the member here and those further on, the one found reads back.
gets_back : (o : Ordering) → GetsBack o
gets_back Less rest e h k = k
gets_back Equal rest e h k = h
gets_back Greater rest e h k = k

-- The member of a name, among members that read back, reads back, where there is one.
member_back : (k : List ℕ) (ms : Members) → MembersAreBack ms → Holds IsBack (get_member k ms)
member_back k no_members h = tt
member_back k (member l e ms) h = gets_back (text_cmp k l) (get_member k ms) e h.0 (member_back k ms h.1)

-- The member of a name in a value that reads back does, where there is one.
get_back : (k : List ℕ) (d : Data) → IsBack d → Holds IsBack (get k d)
get_back k null h = tt
get_back k (boolean b) h = tt
get_back k (number n) h = tt
get_back k (string s) h = tt
get_back k (array ds) h = tt
get_back k (object ms) h = member_back k ms h.0

-- For object_back: a required object is what was found at its name, so it reads back.
object_found : (o : Option Data) (d : Data) → Holds IsBack o
    → Some d ≡ result_ok (required an_object (option_and_then unless_null o)) → IsBack d
object_found None d h is = absurd (cc is)
object_found (Some null) d h is = absurd (cc is)
object_found (Some (boolean b)) d h is = absurd (cc is)
object_found (Some (number n)) d h is = absurd (cc is)
object_found (Some (string s)) d h is = absurd (cc is)
object_found (Some (array ds)) d h is = absurd (cc is)
object_found (Some (object ms)) d h is = let same : object ms ≡ d = cc is in subst IsBack same h

-- a required object in it
pub object_back : (k : List ℕ) (d e : Data) → IsBack d → Some e ≡ result_ok (required an_object (present k d))
    → IsBack e
object_back k d e h = object_found (get k d) e (get_back k d h)

-- ---- what is written of it, read

mutual
  data_numbers : (d : Data) → IsBack d → has_float d ≡ false → HasNumbers (outline d)
  data_numbers null h w = tt
  data_numbers (boolean b) h w = tt
  data_numbers (number n) h w = (h w).text
  data_numbers (string s) h w = tt
  data_numbers (array ds) h w = items_numbers ds h w
  data_numbers (object ms) h w = members_numbers ms h.0 w

  items_numbers : (ds : Items) → ItemsAreBack ds → items_have_float ds ≡ false → ItemsHaveNumbers (items_outline ds)
  items_numbers no_items h w = tt
  items_numbers (item d ds) h w = let p = or_parts _ _ w in (data_numbers d h.0 p.0, items_numbers ds h.1 p.1)

  members_numbers : (ms : Members) → MembersAreBack ms → members_have_float ms ≡ false
      → MembersHaveNumbers (members_outline ms)
  members_numbers no_members h w = tt
  members_numbers (member k d ms) h w = let p = or_parts _ _ w in (data_numbers d h.0 p.0, members_numbers ms h.1 p.1)

mutual
  data_depth : (d : Data) → tree.depth (outline d) ≡ depth d
  data_depth null = refl
  data_depth (boolean b) = refl
  data_depth (number n) = refl
  data_depth (string s) = refl
  data_depth (array ds) = ap suc (items_depth_is ds)
  data_depth (object ms) = ap suc (members_depth_is ms)

  items_depth_is : (ds : Items) → tree.items_depth (items_outline ds) ≡ items_depth ds
  items_depth_is no_items = refl
  items_depth_is (item d ds) = ap₂ max (data_depth d) (items_depth_is ds)

  members_depth_is : (ms : Members) → tree.members_depth (members_outline ms) ≡ members_depth ms
  members_depth_is no_members = refl
  members_depth_is (member k d ms) = ap₂ max (data_depth d) (members_depth_is ms)

-- put in one after another
abbrev put_all : Members → Members → Members
put_all found no_members = found
put_all found (member k d ms) = put_all (put k d found) ms

-- Members put in one after another are, as entries, put in one after another.
entries-put_all : (found ms : Members) → entries (put_all found ms) ≡ onto (entries found) (entries ms)
entries-put_all found no_members = refl
entries-put_all found (member k d ms) = entries-put_all (put k d found) ms
    ∙ ap (λ es. onto es (entries ms)) (entries-put k d found)

-- Members whose names rise, put in one after another into nothing, come out as they were.
put_all_is : (ms : Members) → rises (entries ms) → put_all no_members ms ≡ ms
put_all_is ms h =
    sym (members_of-entries (put_all no_members ms))
    ∙ ap members_of (entries-put_all no_members ms ∙ onto_nothing (entries ms) h) ∙ members_of-entries ms

mutual
  data_again : (d : Data) → IsBack d → has_float d ≡ false → of_json (outline d) ≡ Some d
  data_again null h w = refl
  data_again (boolean b) h w = refl
  data_again (number n) h w = ap (option_map number) (h w).back
  data_again (string s) h w = refl
  data_again (array ds) h w = ap (option_map array) (items_again ds h w)
  data_again (object ms) h w = ap (option_map object) (members_again ms no_members h.0 w ∙ ap Some (put_all_is ms h.1))

  items_again : (ds : Items) → ItemsAreBack ds → items_have_float ds ≡ false → of_items (items_outline ds) ≡ Some ds
  items_again no_items h w = refl
  items_again (item d ds) h w =
      let p = or_parts _ _ w in
      ap (option_and_then (λ e. option_map (item e) (of_items (items_outline ds)))) (data_again d h.0 p.0)
      ∙ ap (option_map (item d)) (items_again ds h.1 p.1)

  members_again : (ms found : Members) → MembersAreBack ms → members_have_float ms ≡ false
      → of_members (members_outline ms) found ≡ Some (put_all found ms)
  members_again no_members found h w = refl
  members_again (member k d ms) found h w =
      let p = or_parts _ _ w in
      ap (option_and_then (λ e. of_members (members_outline ms) (put k e found))) (data_again d h.0 p.0)
      ∙ members_again ms (put k d found) h.1 p.1

-- The compact text of a value that reads back, without a float, has the tokens of the value.
tokens_again : (d : Data) → IsBack d → has_float d ≡ false → tokens (compact_text d) ≡ json_tokens (outline d)
tokens_again d h w = ap tokens (sym (print-outline d)) ∙ tokens-print (json_tokens (outline d))
    (ArePrintable-json_tokens (outline d) (data_numbers d h w))

-- The value of what was parsed, where nothing is left behind it; a name for this part of read.
last_alone : Option (json.Json × List Token) → Option Data
last_alone o = option_and_then of_json (option_and_then (λ p. json.if_last p.0 p.1) o)

-- The compact text of a value that reads back, without a float and not too deep, reads as it.
pub reads_again : (d : Data) → IsBack d → has_float d ≡ false → depth d ≤ max_depth → read (compact_text d) ≡ Some d
unfolding last_alone
reads_again d h w flat =
    ap last_alone (ap (json.value max_depth) (tokens_again d h w ∙ sym (append-nil _))
    ∙ value-json_tokens (outline d) max_depth [] (subst (λ n. n ≤ max_depth) (sym (data_depth d)) flat))
    ∙ data_again d h w

-- so that it is kept as it is
pub kept_as_read : (d : Data) → IsBack d → has_float d ≡ false → depth d ≤ max_depth
    → kept_value (compact_text d) ≡ Some d
kept_as_read d h w flat = ap (option_and_then unless_float) (reads_again d h w flat) ∙ rw w refl
