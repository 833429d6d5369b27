-- The intervals of time that were looked at last, of each CronJob one.
use Rattle.std.specs.Prelude.{◌≡◌, ℕ, ◌==◌, ◌<◌, ◌≤◌, Bool, true, if◌then◌else◌, Option, Some}
use Rattle.std.specs.Ordering.{nat_cmp}
use Rattle.std.specs.BTreeMap as tree
use Rattle.cj_schedule.specs.Matches.{Sets}
use Rattle.cj_zone.specs.declared.zone.Zone.{Zone}
use Rattle.cj_due.specs.Due.{due}
use Rattle.cj_history.specs.declared.gaps.intervals.Interval.{Interval}
use Rattle.cj_history.specs.declared.gaps.intervals.Intervals.{Intervals}

abbrev pub interval_at : Intervals → ℕ → Option Interval
interval_at l u = tree.get nat_cmp l.intervals u

-- it is of that schedule and that zone, and begins at that instant or before it
pub record IsIntervalOf (s : Sets) (z : Zone) (from : ℕ) (x : Interval) : Type 0 where
  pub schedule : x.schedule ≡ s
  pub zone : x.zone ≡ z
  pub begins : x.from ≤ from

-- one of the CronJob with this uid was looked at, from an instant and up to another
pub record IsLookedAt (l : Intervals) (u : ℕ) (s : Sets) (z : Zone) (from upto : ℕ) : Type 0 where
  pub interval : Interval
  pub is : interval_at l u ≡ Some interval
  pub of : IsIntervalOf s z from interval
  pub within : upto ≤ interval.upto

-- the CronJob with this uid gets that interval, and the others keep theirs
abbrev pub PutInterval : ℕ → Interval → Intervals → Intervals → Type 0
PutInterval u x before after = (other : ℕ)
    → interval_at after other ≡ (if u == other then Some x else interval_at before other)

-- all due times of these intervals are settled
abbrev pub Covers : (ℕ → ℕ → Bool) → Intervals → Type 0
Covers settled l = (u : ℕ) (x : Interval) → interval_at l u ≡ Some x → (t : ℕ) → x.from < t
    → t ≤ x.upto → due x.schedule x.zone t ≡ true → settled u t ≡ true
