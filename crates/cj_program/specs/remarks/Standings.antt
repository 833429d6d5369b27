-- The CronJobs that stand at the end of a run and aren't suspended, with their zones, and the last
-- instant of its clock. A line of its own tells of one that is suspended; of one without a zone no
-- time is due.
use Rattle.std.specs.FinMap as map
use Rattle.std.specs.Prelude.{◌≡◌, ℕ, ◌≤◌, List, [], ◌∷◌, ◌++◌, Option, Some, None, if◌then◌else◌}
use Rattle.cj_types.specs.declared.cron.CronJob.{CronJob}
use Rattle.cj_zone.specs.declared.zone.Zone.{Zone}
use Rattle.cj_zone.specs.declared.table.ZoneTable.{ZoneTable}
use Rattle.cj_worker.specs.Zoned.{zone_by}
use Rattle.cj_script.specs.simulation.Spans.{SpanView, instant, IsInstant}
use Rattle.cj_history.specs.declared.gaps.gap.Gap.{Gap}
use Rattle.cj_history.specs.declared.gaps.late.Standing.{Standing}
use Rattle.cj_history.specs.gaps.Late.{AreAllGaps}
use Rattle.cj_world.specs.Worlds.{WorldLog, state_in}

-- the clock's last instant: none of its instants has a greater number
pub record IsLast (s : SpanView) (at : ℕ) : Type 0 where
  pub number : ℕ
  pub has : IsInstant s number
  pub is : at ≡ instant s number
  pub last : (n : ℕ) → IsInstant s n → n ≤ number

abbrev pub in_zone : CronJob → Option Zone → List Standing
in_zone cron None = []
in_zone cron (Some z) = record { cron = cron; zone = z } ∷ []

abbrev pub standing_of : ZoneTable → CronJob → List Standing
standing_of zones cron =
    if cron.spec.suspend then [] else in_zone cron (zone_by zones cron.spec.time_zone)

-- rule: explain-gaps
abbrev pub standings : ZoneTable → List CronJob → List Standing
standings zones [] = []
standings zones (cron ∷ crons) = standing_of zones cron ++ standings zones crons

-- exactly the gaps of a run's history, and what is late at the clock's last instant of those that
-- stand in the end
-- rule: explain-gaps
pub record AreGapsOf (s : SpanView) (zones : ZoneTable) (w : WorldLog) (gs : List Gap)
    : Type 0 where
  pub end : ℕ
  pub last : IsLast s end
  pub are : AreAllGaps w.history end (standings zones (map.values (state_in w).store.crons)) gs
