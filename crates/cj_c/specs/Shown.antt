-- What the exported function answers that looks at a moment, by the definitions of `cj_schedule`
-- and `cj_zone`.
use Rattle.std.specs.Prelude.{◌≡◌, ◌⊎◌, ℕ, ◌<◌, Bool}
use Rattle.cj_base.specs.Instant.{last_second}
use Rattle.cj_schedule.specs.Matches.{matches_civil}
use Rattle.cj_zone.specs.Civil.{civil_at}
use Rattle.cj_c.specs.Status.{done, range}
use Rattle.cj_c.specs.declared.timetable.Timetable.{Timetable}

-- whether the zone's clock shows an allowed minute at an instant; or it is out of range
-- rule: library-matches
abbrev pub IsMatch : Timetable → ℕ → Bool → Bool → ℕ → Type 0
IsMatch t at old new status =
    ((status ≡ done) × (new ≡ matches_civil t.schedule (civil_at t.zone at)))
    ⊎ ((status ≡ range) × (last_second < at) × (new ≡ old))
