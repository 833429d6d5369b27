-- The lines of a window, with how many starts it has.
use Rattle.std.specs.Prelude.{◌≡◌, ℕ, ◌-◌, List, [], ◌++◌, length, codes, decimal}
use Rattle.cj_zone.specs.declared.zone.Zone.{Zone}
use Rattle.cj_zone.specs.TimeText.{time_text_of}
use Rattle.cj_cluster.specs.declared.cron.ClusterCron.{ClusterCron}
use Rattle.cj_upcoming.specs.declared.start.Start.{Start}
use Rattle.cj_upcoming.specs.Report.{IsTextOf}
use Rattle.cj_upcoming.specs.Standings.{AreStandings}
use Rattle.cj_upcoming.specs.Upcoming.{IsUpcoming}
use Rattle.cj_upcoming.specs.Window.{Span}
use Rattle.cj_upcoming.specs.Zones.{named, zone_lines}
use Rattle.cj_inspect.specs.declared.nights.look.Look.{Look}
use Rattle.cj_inspect.specs.declared.nights.look.Look.TheVariants.{Ahead}

-- the changes of clocks in a window, behind its first instant
-- rule: clock-nights
abbrev pub window_look : Span → Look
window_look w = Ahead w.from (w.end - 1)

-- `from TIME to TIME: N cron jobs, M starts`
-- rule: upcoming-total
abbrev pub total_line : Span → ℕ → ℕ → List ℕ
total_line w crons starts =
    codes "from " ++ (time_text_of w.from ++ (codes " to " ++ (time_text_of w.end ++ (codes ": "
    ++ (decimal crons ++ (codes " cron jobs, " ++ (decimal starts ++ codes " starts\n")))))))

-- the lines of the starts of the window, and last how many they are
-- rules: upcoming-lines, upcoming-total
pub record IsCounted (zones : List Zone) (w : Span) (crons : List ClusterCron) (most : ℕ)
    (text : List ℕ) : Type 0 where
  pub starts : List Start
  pub upcoming : IsUpcoming zones w crons starts
  pub lines : List ℕ
  pub told : IsTextOf zones w crons most starts lines
  pub are : text ≡ lines ++ total_line w (length crons) (length starts)

-- a table, the CronJobs that start nothing, where clocks are put, the fullest minutes, and how many
-- starts there are
-- rules: upcoming-summary, upcoming-total
pub record IsSummedOf (zones : List Zone) (w : Span) (crons : List ClusterCron)
    (starts : List Start) (text : List ℕ) : Type 0 where
  pub table : List ℕ
  pub standings : List ℕ
  pub told : AreStandings zones w.from crons standings
  pub fullest : List ℕ
  pub are : text ≡ table ++ (standings ++ (zone_lines zones w (named [] crons) ++ (fullest
      ++ total_line w (length crons) (length starts))))

-- of the starts of the window
-- rules: upcoming-summary, upcoming-total
pub record IsSummed (zones : List Zone) (w : Span) (crons : List ClusterCron) (text : List ℕ)
    : Type 0 where
  pub starts : List Start
  pub upcoming : IsUpcoming zones w crons starts
  pub told : IsSummedOf zones w crons starts text
