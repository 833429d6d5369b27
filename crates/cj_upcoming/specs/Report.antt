-- The lines of a window.
use Rattle.std.specs.Prelude.{◌≡◌, ℕ, List, [], ◌++◌}
use Rattle.cj_zone.specs.declared.zone.Zone.{Zone}
use Rattle.cj_cluster.specs.declared.cron.ClusterCron.{ClusterCron}
use Rattle.cj_upcoming.specs.declared.start.Start.{Start}
use Rattle.cj_upcoming.specs.declared.minute.Minute.{Minute}
use Rattle.cj_upcoming.specs.Window.{Span}
use Rattle.cj_upcoming.specs.Minutes.{minutes, IsPeaks}
use Rattle.cj_upcoming.specs.Standings.{AreStandings}
use Rattle.cj_upcoming.specs.Zones.{named, zone_lines}
use Rattle.cj_upcoming.specs.Lines.{start_lines, peak_lines}

-- of these starts: the minutes, the CronJobs that start nothing, where clocks are put, and the
-- fullest minutes
-- rule: upcoming-lines
pub record IsTextOf (zones : List Zone) (w : Span) (crons : List ClusterCron) (most : ℕ)
    (starts : List Start) (text : List ℕ) : Type 0 where
  pub standings : List ℕ
  pub told : AreStandings zones w.from crons standings
  pub peaks : List Minute
  pub fullest : IsPeaks most (minutes starts) peaks
  pub are : text ≡ start_lines crons starts (minutes starts)
      ++ (standings ++ (zone_lines zones w (named [] crons) ++ peak_lines crons starts peaks))
