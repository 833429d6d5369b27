-- The starts of a CronJob in a window, summed up.
use Rattle.std.specs.Prelude.{◌≡◌, ℕ, ◌-◌, List, [], ◌∷◌, length, option_map, slice_get}
use Rattle.cj_zone.specs.declared.zone.Zone.{Zone}
use Rattle.cj_cluster.specs.declared.cron.ClusterCron.{ClusterCron}
use Rattle.cj_upcoming.specs.declared.start.Start.{Start}
use Rattle.cj_upcoming.specs.Upcoming.{IsUpcoming}
use Rattle.cj_upcoming.specs.Window.{Span}
use Rattle.cj_inspect.specs.declared.upcoming.sums.Sum.{Sum}

-- how many they are, the first and the last
-- rule: upcoming-summary
pub record IsSumOf (starts : List Start) (s : Sum) : Type 0 where
  pub count : s.count ≡ length starts
  pub first : s.first ≡ option_map (λ x. x.time) (slice_get starts 0)
  pub last : s.last ≡ option_map (λ x. x.time) (slice_get starts (length starts - 1))

-- of all starts of the CronJob in the window, in their order
-- rule: upcoming-summary
pub record IsSum (zones : List Zone) (w : Span) (c : ClusterCron) (s : Sum) : Type 0 where
  pub starts : List Start
  pub upcoming : IsUpcoming zones w (c ∷ []) starts
  pub sum : IsSumOf starts s
