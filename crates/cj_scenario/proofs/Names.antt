-- The zones of an object, one after another: whether one more may be added is told by the names of those before.
use Rattle.std.proofs.Common.{◌≡◌, String, string_bytes, ◌==◌, ◌||◌, ◌⊎◌, ◌++◌, ◌∙◌, ℕ, length, codes, List, [], ◌∷◌, Bool, true, false, if◌then◌else◌, Option, Some, None, is_some, IsNone, refl, sym, ap, subst, inl, inr}
use Rattle.std.specs.List.{list_any}
use Rattle.std.specs.declared.alloc.Global.{Global}
use Rattle.serde_json.specs.View.{members_view, view}
use Rattle.serde_json.specs.declared.value.Value.{Value}
use Rattle.std.specs.Cmp.Lexicographic.{pointwise}
use Rattle.serde_json.specs.Data.{Data, Members, member}
use Rattle.serde_json.specs.Find.{as_str}
use Rattle.jiff_tz.specs.PosixReader.{read_whole}
use Rattle.cj_zone.specs.declared.zone.Zone.{Zone}
use Rattle.cj_zone.proofs.ClockLemmas.{clock_read}
use Rattle.cj_zone.specs.Zones.{is_refused_name, zone_named}
use Rattle.cj_manifest.specs.Members.{unless_null}
use Rattle.cj_scenario.specs.Scenes.{AddsMember, AddsMembers, AddsRule, AddsText, names_of}

-- For found_by_name: a zone is found where the first has the name or one is found among the others.
one : (b : Bool) (z : Zone) (found : Option Zone) (rest : Bool) → is_some found ≡ rest
    → is_some (if b then Some z else found) ≡ (b || rest)
one true z found rest h = refl
one false z found rest h = h

-- A zone of some name is found just where the name is one of the zones' names.
found_by_name : (name : List ℕ) (zones : List Zone) → is_some (zone_named name zones)
    ≡ list_any (λ n. pointwise ◌==◌ n name) (names_of zones)
found_by_name name [] = refl
found_by_name name (z ∷ zs) = one (pointwise ◌==◌ z.name name) z (zone_named name zs) _ (found_by_name name zs)

-- names alone decide which name is refused
refused_alike : (name : List ℕ) (zones others : List Zone) → names_of others ≡ names_of zones
    → is_refused_name others name ≡ is_refused_name zones name
refused_alike name zones others e =
    ap (λ b. (length name == 0) || pointwise ◌==◌ name (codes "Local") || b)
    (found_by_name name others ∙ ap (λ ns. list_any (λ n. pointwise ◌==◌ n name) ns) e ∙ sym (found_by_name name zones))

-- a rule that a table refuses is added to no zones of these names
pub no_rule : (zones others more : List Zone) (name rule : List ℕ) → names_of others ≡ names_of zones
    → (is_refused_name zones name ≡ true) ⊎ IsNone (read_whole rule) → AddsRule others name rule more → ⊥
no_rule zones others more name rule e (inl refused) adds =
    absurd (cc (refused, adds.free, refused_alike name zones others e))
no_rule zones others more name rule e (inr none) adds = clock_read rule adds.clock.rules adds.clock.clock none

-- With a zone more, the names are those of the zones so far and its own.
names_append : (zones : List Zone) (z : Zone) → names_of (zones ++ z ∷ []) ≡ names_of zones ++ z.name ∷ []
names_append [] z = refl
names_append (y ∷ ys) z = ap (λ ns. y.name ∷ ns) (names_append ys z)

-- With the zone of a rule added by a name, the names are those so far and this one.
names_rule : (zones more : List Zone) (name rule : List ℕ) → AddsRule zones name rule more
    → names_of more ≡ names_of zones ++ name ∷ []
names_rule zones more name rule adds =
    ap names_of adds.more_are ∙ names_append zones adds.zone ∙ ap (λ n. names_of zones ++ n ∷ []) adds.name_is

-- A text added by one name to zones of the same names gives zones of the same names.
names_text : (zones others more other : List Zone) (name : List ℕ) (o : Option (List ℕ))
    → names_of others ≡ names_of zones
    → AddsText zones name o more → AddsText others name o other → names_of other ≡ names_of more
names_text zones others more other name None e h k = absurd h
names_text zones others more other name (Some rule) e h k =
    names_rule others other name rule k ∙ ap (λ ns. ns ++ name ∷ []) e ∙ sym (names_rule zones more name rule h)

-- A member, null or not, added to zones of the same names gives zones of the same names.
names_after : (zones others more other : List Zone) (name : List ℕ) (o : Option Data) → names_of others ≡ names_of zones
    → AddsMember zones name o more → AddsMember others name o other → names_of other ≡ names_of more
names_after zones others more other name None e h k = ap names_of k ∙ e ∙ sym (ap names_of h)
names_after zones others more other name (Some d) e h k = names_text zones others more other name (as_str d) e h k

-- zones of the same names, from which the rest of the members leads to these
pub record Stands (zones : List Zone) (rest : Members) (all : List Zone) : Type 0 where
  pub others : List Zone
  pub names : names_of others ≡ names_of zones
  pub adds : AddsMembers others rest all

-- what goes on from these zones is what goes on from those at first
pub record LeadsOn (first : List Zone) (ms : Members) (zones : List Zone) (rest : Members) : Type 0 where
  pub whole : (all : List Zone) → AddsMembers zones rest all → AddsMembers first ms all
  pub back : (all : List Zone) → AddsMembers first ms all → Stands zones rest all

-- Before the first member the members lead to the zones at first, and to all members.
pub leads_start : (first : List Zone) (ms : Members) → LeadsOn first ms first ms
leads_start first ms = record {
  whole = λ all h. h;
  back = λ all h. record { others = first; names = refl; adds = h };
}

-- For leads_member: behind a member added to both, zones of the same names lead on to the same
-- zones.
goes_on : (zones others more : List Zone) (name : List ℕ) (d : Data) (rest : Members) (all : List Zone)
    → names_of others ≡ names_of zones
    → AddsMember zones name (unless_null d) more → AddsMembers others (member name d rest) all → Stands more rest all
goes_on zones others more name d rest all e h (other, k, adds) =
    record { others = other; names = names_after zones others more other name (unless_null d) e h k; adds = adds }

-- Where the members lead to one that was added, they lead on to those behind it.
pub leads_member : (first : List Zone) (ms : Members) (zones more : List Zone) (name : List ℕ) (d : Data)
    (rest : Members)
    → LeadsOn first ms zones (member name d rest)
    → AddsMember zones name (unless_null d) more → LeadsOn first ms more rest
leads_member first ms zones more name d rest leads h = record {
  whole = λ all k. leads.whole all (more, h, k);
  back = λ all k. let s = leads.back all k in goes_on zones s.others more name d rest all s.names h s.adds;
}

-- Where a member can't be added to some zones, neither can it be with others behind it.
ends : (others : List Zone) (name : List ℕ) (d : Data) (rest : Members) (all : List Zone)
    → ((more : List Zone) → AddsMember others name (unless_null d) more → ⊥)
    → AddsMembers others (member name d rest) all → ⊥
ends others name d rest all none (more, h, k) = none more h

-- Where the members lead to one that no zones of these names take, there are no zones of the
-- members.
pub leads_nowhere : (first : List Zone) (ms : Members) (zones : List Zone) (name : List ℕ) (d : Data) (rest : Members)
    → LeadsOn first ms zones (member name d rest)
    → ((others more : List Zone) → names_of others ≡ names_of zones → AddsMember others name (unless_null d) more → ⊥)
    → (all : List Zone) → AddsMembers first ms all → ⊥
leads_nowhere first ms zones name d rest leads none all k =
    let s = leads.back all k in ends s.others name d rest all (λ more. none s.others more s.names) s.adds

-- one entry more of an object
pub leads_entry : (first : List Zone) (ms : Members) (zones more : List Zone)
    (entries rest : List (String Global × Value)) (name : String Global) (value : Value)
    (text : List ℕ) → entries ≡ (name, value) ∷ rest → text ≡ string_bytes name
    → LeadsOn first ms zones (members_view entries)
    → AddsMember zones text (unless_null (view value)) more → LeadsOn first ms more (members_view rest)
leads_entry first ms zones more entries rest name value text e t leads h =
    leads_member first ms zones more (string_bytes name) (view value) (members_view rest)
    (subst (λ es. LeadsOn first ms zones (members_view es)) e leads)
    (subst (λ n. AddsMember zones n (unless_null (view value)) more) t h)
