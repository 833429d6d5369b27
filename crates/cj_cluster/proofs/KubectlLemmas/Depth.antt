-- A member of a value nests no deeper than the value.
use Rattle.std.proofs.Common.{◌≡◌, ◌≤◌, ℕ, List, Option, Some, None, option_and_then, refl, subst, arith}
use Rattle.std.specs.Ordering.{nat_cmp, match_ordering}
use Rattle.std.specs.declared.cmp.Ordering.{Ordering}
use Rattle.std.specs.declared.cmp.Ordering.TheVariants.{Less, Equal, Greater}
use Rattle.std.specs.Cmp.Lexicographic.{slice_cmp}
use Rattle.serde_json.specs.Data.{Data, null, boolean, number, string, array, object, Members, no_members, member, depth, members_depth}
use Rattle.serde_json.specs.Find.{get, get_member}
use Rattle.cj_manifest.specs.Members.{present, unless_null}

-- Two values that are the same where they may be missing are the same.
same : (e d : Data) → Some e ≡ Some d → e ≡ d
same e d h = cc h

-- For of_member: where both the member here and one found further on nest no deeper, so does what
-- is found.
here : (o : Ordering) (rest : Option Data) (e d : Data) (n : ℕ) → depth e ≤ n → (rest ≡ Some d → depth d ≤ n)
    → match_ordering o rest (Some e) rest ≡ Some d → depth d ≤ n
here Less rest e d n he further h = further h
here Equal rest e d n he further h = subst (λ x. depth x ≤ n) (same e d h) he
here Greater rest e d n he further h = further h

-- What is found by name among members nests no deeper than the members may.
of_member : (k : List ℕ) (ms : Members) (d : Data) (n : ℕ) → members_depth ms ≤ n → get_member k ms ≡ Some d
    → depth d ≤ n
of_member k no_members d n hms h = absurd (cc h)
of_member k (member l e ms) d n hms h =
    here (slice_cmp nat_cmp k l) (get_member k ms) e d n (omega (arith, hms))
    (of_member k ms d n (omega (arith, hms))) h

-- What is found by name in a value nests no deeper than the value may.
of_get : (k : List ℕ) (v d : Data) (n : ℕ) → depth v ≤ n → get k v ≡ Some d → depth d ≤ n
of_get k null d n hv h = absurd (cc h)
of_get k (boolean b) d n hv h = absurd (cc h)
of_get k (number m) d n hv h = absurd (cc h)
of_get k (string s) d n hv h = absurd (cc h)
of_get k (array ds) d n hv h = absurd (cc h)
of_get k (object ms) d n hv h = of_member k ms d n (omega (arith, hv)) h

-- A value that is there unless it is null is the value itself.
there : (e d : Data) → unless_null e ≡ Some d → e ≡ d
there null d h = absurd (cc h)
there (boolean b) d h = same _ d h
there (number m) d h = same _ d h
there (string s) d h = same _ d h
there (array ds) d h = same _ d h
there (object ms) d h = same _ d h

-- What is found and isn't null nests no deeper than what is found may.
of_found : (o : Option Data) (d : Data) (n : ℕ) → ((e : Data) → o ≡ Some e → depth e ≤ n)
    → option_and_then unless_null o ≡ Some d → depth d ≤ n
of_found None d n h r = absurd (cc r)
of_found (Some e) d n h r = subst (λ x. depth x ≤ n) (there e d r) (h e refl)

-- A member that is present in a value nests no deeper than the value may.
pub depth-present : (k : List ℕ) (v d : Data) (n : ℕ) → depth v ≤ n → present k v ≡ Some d → depth d ≤ n
depth-present k v d n hv h = of_found (get k v) d n (λ e. of_get k v e n hv) h
