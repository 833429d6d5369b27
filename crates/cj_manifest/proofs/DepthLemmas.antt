-- A part of a value nests no deeper than the value.
use Rattle.std.proofs.Common.{◌≡◌, ◌≤◌, ℕ, suc, List, Option, Some, None, option_and_then, refl, sym, subst, arith}
use Rattle.std.specs.Result.{result_ok}
use Rattle.std.specs.Ordering.{nat_cmp, match_ordering}
use Rattle.std.specs.declared.cmp.Ordering.{Ordering}
use Rattle.std.specs.declared.cmp.Ordering.TheVariants.{Less, Equal, Greater}
use Rattle.std.specs.Cmp.Lexicographic.{slice_cmp}
use Rattle.serde_json.specs.Data.{Data, null, boolean, number, string, array, object, Members, no_members, member, depth, members_depth}
use Rattle.serde_json.specs.Find.{get, get_member}
use Rattle.cj_manifest.specs.Members.{present, unless_null}
use Rattle.cj_manifest.specs.Values.{required, an_object}

-- Two values that are the same as found values are the same.
same : (e d : Data) → Some e ≡ Some d → e ≡ d
same e d h = cc h

-- For of_member: of the member here and those further on, the one found nests at most so deep.
here : (o : Ordering) (rest : Option Data) (e d : Data) (n : ℕ) → depth e ≤ n → (rest ≡ Some d → depth d ≤ n)
    → match_ordering o rest (Some e) rest ≡ Some d → depth d ≤ n
here Less rest e d n he further h = further h
here Equal rest e d n he further h = subst (λ x. depth x ≤ n) (same e d h) he
here Greater rest e d n he further h = further h

-- The member of a name, among members that nest at most so deep, nests at most so deep.
of_member : (k : List ℕ) (ms : Members) (d : Data) (n : ℕ) → members_depth ms ≤ n → get_member k ms ≡ Some d
    → depth d ≤ n
of_member k no_members d n hms h = absurd (cc h)
of_member k (member l e ms) d n hms h =
    here (slice_cmp nat_cmp k l) (get_member k ms) e d n (omega (arith, hms))
    (of_member k ms d n (omega (arith, hms))) h

-- The member of a name in a value nests no deeper than the value.
depth-get : (k : List ℕ) (v d : Data) (n : ℕ) → depth v ≤ n → get k v ≡ Some d → depth d ≤ n
depth-get k null d n hv h = absurd (cc h)
depth-get k (boolean b) d n hv h = absurd (cc h)
depth-get k (number m) d n hv h = absurd (cc h)
depth-get k (string s) d n hv h = absurd (cc h)
depth-get k (array ds) d n hv h = absurd (cc h)
depth-get k (object ms) d n hv h = of_member k ms d n (omega (arith, hv)) h

-- A required object is what was found at its name, so it nests no deeper than that may.
of_found : (o : Option Data) (d : Data) (n : ℕ) → ((e : Data) → o ≡ Some e → depth e ≤ n)
    → Some d ≡ result_ok (required an_object (option_and_then unless_null o)) → depth d ≤ n
of_found None d n h r = absurd (cc r)
of_found (Some null) d n h r = absurd (cc r)
of_found (Some (boolean b)) d n h r = absurd (cc r)
of_found (Some (number m)) d n h r = absurd (cc r)
of_found (Some (string s)) d n h r = absurd (cc r)
of_found (Some (array ds)) d n h r = absurd (cc r)
of_found (Some (object ms)) d n h r = subst (λ x. depth x ≤ n) (same (object ms) d (sym r)) (h (object ms) refl)

-- a required object in it
pub depth-object : (k : List ℕ) (v d : Data) (n : ℕ) → depth v ≤ n → Some d
    ≡ result_ok (required an_object (present k v)) → depth d ≤ n
depth-object k v d n h = of_found (get k v) d n (λ e. depth-get k v e n h)

-- a part of it nests less deep by one
depth-inside : (k : List ℕ) (v d : Data) (n : ℕ) → depth v ≤ suc n → get k v ≡ Some d → depth d ≤ n
depth-inside k null d n hv h = absurd (cc h)
depth-inside k (boolean b) d n hv h = absurd (cc h)
depth-inside k (number m) d n hv h = absurd (cc h)
depth-inside k (string s) d n hv h = absurd (cc h)
depth-inside k (array ds) d n hv h = absurd (cc h)
depth-inside k (object ms) d n hv h = of_member k ms d n (omega (arith, hv)) h

-- A required object in a value nests less deep than the value by one.
pub depth-one_less : (k : List ℕ) (v d : Data) (n : ℕ) → depth v ≤ suc n
    → Some d ≡ result_ok (required an_object (present k v)) → depth d ≤ n
depth-one_less k v d n h = of_found (get k v) d n (λ e. depth-inside k v e n h)

-- What nests at most so deep nests at most as deep as any greater bound.
pub depth-most : (d : Data) (m n : ℕ) → depth d ≤ m → m ≤ n → depth d ≤ n
depth-most d m n h k = omega (arith, h, k)
