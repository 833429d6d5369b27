-- Waiting keys, each with its time: the delayed adds of client-go's package workqueue (AddAfter).
use Rattle.std.specs.Prelude.{◌≡◌, ℕ, ◌==◌, if◌then◌else◌, cond, nat_le, min, List, [], ◌∷◌, map, Option, Some, None}
use Rattle.std.specs.declared.cmp.Ordering.{Ordering}
use Rattle.std.specs.Ordering.{nat_cmp, ordering_then}
use Rattle.std.specs.Map.{lookup}
use Rattle.std.specs.BTreeMap.{BTreeMap, is_at, get as at_key}
use Rattle.std.specs.FinMap.{FinMap, get, insert, remove, from_entries, entries, keys}
use Rattle.cj_types.specs.Keys.{Place, place_cmp}

-- the order of waiting keys: by time, then key
abbrev pub timed_cmp : ℕ × Place → ℕ × Place → Ordering
timed_cmp a b = ordering_then (nat_cmp a.0 b.0) (place_cmp a.1 b.1)

-- the time for which each key waits
abbrev pub Waiting : Type 0
Waiting = FinMap place_cmp ℕ

-- the times as a map by time, then key
abbrev pub by_time : Waiting → FinMap timed_cmp (Unit {0})
by_time m = from_entries (map (λ e. ((e.1, e.0), tt)) (entries m))

-- the keys whose time is not above now, of keys with their times
abbrev pub ready_in : List (ℕ × Place) → ℕ → List Place
ready_in [] now = []
ready_in (p ∷ ps) now = if nat_le p.0 now then p.1 ∷ ready_in ps now else ready_in ps now

-- the keys whose time is not above now, by time, then key
-- rule: queue-tick
abbrev pub ready : Waiting → ℕ → List Place
ready m now = ready_in (keys (by_time m)) now

-- the earlier of the time for which a key waits already, if it does, and another
-- rule: queue-delay
abbrev pub earlier : Option ℕ → ℕ → ℕ
earlier None at = at
earlier (Some before) at = min before at

-- the key waits for the time, or for an earlier one where it waits already
abbrev pub waits_for : Waiting → Place → ℕ → Waiting
waits_for m k at = insert m k (earlier (get m k) at)

-- the times without those of the given keys
abbrev pub without : Waiting → List Place → Waiting
without m [] = m
without m (k ∷ ks) = without (remove m k) ks

-- ---- the two maps in which they are kept

-- the entries of the first map
abbrev pub Times : Type 0
Times = List (Place × ℕ)

-- the key's time in the first map
abbrev pub time_of : Times → Place → Option ℕ
time_of times k = lookup (is_at (place_cmp k)) times

-- whether the second map has the key at the time
abbrev pub waits_at : BTreeMap (ℕ × Place) (Unit {0}) → ℕ → Place → Option (Unit {0})
waits_at order t k = at_key timed_cmp order (t, k)

-- whether the time, if there is one, is the given one
abbrev pub at_time : Option ℕ → ℕ → Option (Unit {0})
at_time None t = None
at_time (Some s) t = if s == t then Some tt else None

-- a key is in the order at its time, and nowhere else
-- rule: queue-delay
pub record Agrees (times : Times) (order : BTreeMap (ℕ × Place) (Unit {0})) : Type 0 where
  pub same : (k : Place) (t : ℕ) → waits_at order t k ≡ at_time (time_of times k) t

-- new has the given time at the key, and is else as old
abbrev pub SetsTime : Times → Times → Place → ℕ → Type 0
SetsTime old new k t = (q : Place)
    → time_of new q ≡ cond (is_at (place_cmp k) q) (Some t) (time_of old q)

-- new has the same time as old at every key
abbrev pub SameTimes : Times → Times → Type 0
SameTimes old new = (q : Place) → time_of new q ≡ time_of old q

-- new has nothing at the key, and is else as old
abbrev pub Leaves : Times → Times → Place → Type 0
Leaves old new k = (q : Place) → time_of new q ≡ cond (is_at (place_cmp k) q) None (time_of old q)
