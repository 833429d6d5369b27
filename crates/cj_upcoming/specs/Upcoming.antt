-- What starts in a window, of a list of CronJobs.
use Rattle.std.specs.Prelude.{◌≡◌, ℕ, ◌<◌, false, List, Some, All, Contains, length, slice_get}
use Rattle.std.specs.List.Sorted.{IsStrictlySortedBy}
use Rattle.cj_zone.specs.declared.zone.Zone.{Zone}
use Rattle.cj_cluster.specs.Content.{is_halted}
use Rattle.cj_cluster.specs.declared.cron.ClusterCron.{ClusterCron}
use Rattle.cj_upcoming.specs.declared.start.Start.{Start}
use Rattle.cj_upcoming.specs.Window.{Span}
use Rattle.cj_upcoming.specs.Starts.{start_cmp, IsStartAt}

-- a CronJob of the list isn't suspended, nor being deleted or stuck, and its schedule is due in its
-- zone at that instant of the window
-- rule: upcoming-starts
pub record IsStart (zones : List Zone) (w : Span) (crons : List ClusterCron) (s : Start)
    : Type 0 where
  pub cron : ClusterCron
  pub there : slice_get crons s.cron ≡ Some cron
  pub goes : is_halted cron.marks ≡ false
  pub at_time : IsStartAt zones w cron.cron.spec s.time

-- what the list has are all starts of the window and nothing else, each once, in their order
-- rules: upcoming-starts, upcoming-order
pub record IsUpcoming (zones : List Zone) (w : Span) (crons : List ClusterCron)
    (starts : List Start) : Type 0 where
  pub each : All (IsStart zones w crons) starts
  pub all : (s : Start) → IsStart zones w crons s → Contains starts s
  pub rises : IsStrictlySortedBy start_cmp starts

-- the window has more starts than that number
-- rule: upcoming-most
pub record HasMore (zones : List Zone) (w : Span) (crons : List ClusterCron) (most : ℕ)
    : Type 0 where
  pub starts : List Start
  pub each : All (IsStart zones w crons) starts
  pub rises : IsStrictlySortedBy start_cmp starts
  pub more : most < length starts
