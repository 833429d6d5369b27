-- The minutes of a scenario's Jobs as a set, by which a second Job of one minute is found.
use Rattle.std.specs.Prelude.{◌≡◌, ℕ, ◌==◌, ◌||◌, List}
use Rattle.std.specs.BTreeSet.{BTreeSet, contains}
use Rattle.std.specs.Ordering.{nat_cmp}
use Rattle.cj_scenario.specs.declared.given.GivenJob.{GivenJob}
use Rattle.cj_scenario.specs.Scenes.{has_minute}

-- the set has the minutes of the Jobs, and no others
abbrev pub AreMinutesOf : List GivenJob → BTreeSet ℕ → Type 0
AreMinutesOf jobs minutes = (minute : ℕ) → contains nat_cmp minutes minute ≡ has_minute minute jobs

-- the set with the minute
abbrev pub AddsMinute : BTreeSet ℕ → ℕ → BTreeSet ℕ → Type 0
AddsMinute minutes added more =
    (minute : ℕ) → contains nat_cmp more minute
    ≡ ((added == minute) || contains nat_cmp minutes minute)
