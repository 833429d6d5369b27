-- A part of a value without a float has none.
use Rattle.std.proofs.Common.{◌≡◌, ℕ, List, Bool, true, false, ◌||◌, Option, Some, None, option_and_then, refl}
use Rattle.std.specs.Result.{result_ok}
use Rattle.std.specs.Ordering.{nat_cmp, match_ordering}
use Rattle.std.specs.declared.cmp.Ordering.{Ordering}
use Rattle.std.specs.declared.cmp.Ordering.TheVariants.{Less, Equal, Greater}
use Rattle.std.specs.Cmp.Lexicographic.{slice_cmp}
use Rattle.serde_json.specs.Data.{Data, null, boolean, number, string, array, object, Members, no_members, member}
use Rattle.serde_json.specs.Find.{get, get_member}
use Rattle.serde_json.specs.Written.{has_float, members_have_float}
use Rattle.cj_manifest.specs.Members.{present, unless_null}
use Rattle.cj_manifest.specs.Values.{required, an_object}

-- Where neither of two is true, the first is false.
or-none_left : (a b : Bool) → (a || b) ≡ false → a ≡ false
or-none_left true b h = cc
or-none_left false b h = refl

-- Where neither of two is true, the second is false.
or-none_right : (a b : Bool) → (a || b) ≡ false → b ≡ false
or-none_right true b h = cc
or-none_right false b h = h

-- For of_member: of the member here and those further on, the one found has no float.
here : (o : Ordering) (rest : Option Data) (e d : Data) → has_float e ≡ false → (rest ≡ Some d → has_float d ≡ false)
    → match_ordering o rest (Some e) rest ≡ Some d → has_float d ≡ false
here Less rest e d he further h = further h
here Equal rest e d he further h = let same : e ≡ d = cc in cc
here Greater rest e d he further h = further h

-- The member of a name, among members without a float, has none.
of_member : (k : List ℕ) (ms : Members) (d : Data) → members_have_float ms ≡ false → get_member k ms ≡ Some d
    → has_float d ≡ false
of_member k no_members d hms h = cc
of_member k (member l e ms) d hms h =
    here (slice_cmp nat_cmp k l) (get_member k ms) e d (or-none_left _ _ hms)
    (of_member k ms d (or-none_right (has_float e) _ hms)) h

-- The member of a name in a value without a float has none.
no_float-get : (k : List ℕ) (v d : Data) → has_float v ≡ false → get k v ≡ Some d → has_float d ≡ false
no_float-get k null d hv h = cc
no_float-get k (boolean b) d hv h = cc
no_float-get k (number n) d hv h = cc
no_float-get k (string s) d hv h = cc
no_float-get k (array ds) d hv h = cc
no_float-get k (object ms) d hv h = of_member k ms d hv h

-- For no_float-object: a required object is what was found at its name, so it has no float.
of_found : (o : Option Data) (d : Data) → ((e : Data) → o ≡ Some e → has_float e ≡ false)
    → Some d ≡ result_ok (required an_object (option_and_then unless_null o)) → has_float d ≡ false
of_found None d h r = cc
of_found (Some null) d h r = cc
of_found (Some (boolean b)) d h r = cc
of_found (Some (number n)) d h r = cc
of_found (Some (string s)) d h r = cc
of_found (Some (array ds)) d h r = cc
of_found (Some (object ms)) d h r = let same : d ≡ object ms = cc in rw same (h (object ms) refl)

-- a required object in it has none
pub no_float-object : (k : List ℕ) (v d : Data) → has_float v ≡ false → Some d
    ≡ result_ok (required an_object (present k v)) → has_float d ≡ false
no_float-object k v d h = of_found (get k v) d (λ e. no_float-get k v e h)
