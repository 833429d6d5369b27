-- When something starts in a window: Kubernetes CronJob documentation, "Schedule syntax", "Time
-- zones" and "Schedule suspension".
use Rattle.std.specs.Prelude.{◌≡◌, ℕ, true, false, List, Option, Some, None, codes}
use Rattle.std.specs.declared.cmp.Ordering.{Ordering}
use Rattle.std.specs.Cmp.{IsTotalOrder, on_total, then_total, nat_cmp_total}
use Rattle.std.specs.Ordering.{nat_cmp, on, then_cmp}
use Rattle.cj_types.specs.declared.cron.CronSpec.{CronSpec}
use Rattle.cj_schedule.specs.Grammar.{IsSchedule}
use Rattle.cj_schedule.specs.Matches.{Sets}
use Rattle.cj_zone.specs.declared.zone.Zone.{Zone}
use Rattle.cj_zone.specs.Zones.{utc_zone, zone_named}
use Rattle.cj_due.specs.Due.{due}
use Rattle.cj_cluster.specs.Content.{is_halted}
use Rattle.cj_cluster.specs.declared.cron.ClusterCron.{ClusterCron}
use Rattle.cj_upcoming.specs.declared.start.Start.{Start}
use Rattle.cj_upcoming.specs.Window.{Span, IsIn}

-- by the time, then by the CronJob's place
-- rule: upcoming-order
abbrev pub start_cmp : Start → Start → Ordering
start_cmp = then_cmp (on (λ s. s.time) nat_cmp) (on (λ s. s.cron) nat_cmp)

pub starts_total : IsTotalOrder start_cmp
starts_total =
    then_total (on_total (λ s. s.time) nat_cmp_total) (on_total (λ s. s.cron) nat_cmp_total)

-- the zone of a name, if one has it, and UTC where there is no name
abbrev pub zone_for : Option (List ℕ) → List Zone → Option Zone
zone_for None zones = Some (utc_zone (codes "UTC"))
zone_for (Some name) zones = zone_named name zones

-- the schedule that a CronJob's text is, in the zone that it names
pub record HasClock (zones : List Zone) (spec : CronSpec) (schedule : Sets) (zone : Zone)
    : Type 0 where
  pub reads : IsSchedule spec.schedule schedule
  pub in_zone : zone_for spec.time_zone zones ≡ Some zone

-- the instant lies in the window, and the schedule is due at it in the zone
pub record IsDueIn (w : Span) (schedule : Sets) (zone : Zone) (t : ℕ) : Type 0 where
  pub inside : IsIn w t
  pub due_then : due schedule zone t ≡ true

-- the CronJob isn't suspended, and its schedule is due in its zone at an instant of the window
-- rules: upcoming-starts, due
pub record IsStartAt (zones : List Zone) (w : Span) (spec : CronSpec) (t : ℕ) : Type 0 where
  pub runs : spec.suspend ≡ false
  pub schedule : Sets
  pub zone : Zone
  pub clock : HasClock zones spec schedule zone
  pub due_in : IsDueIn w schedule zone t

-- that of the spec of the CronJob at a place
pub record IsStartOf (zones : List Zone) (w : Span) (place : ℕ) (spec : CronSpec) (s : Start)
    : Type 0 where
  pub at_place : s.cron ≡ place
  pub at_time : IsStartAt zones w spec s.time

-- the CronJob isn't being deleted, nor is it stuck
-- rules: upcoming-starts, cluster-deleting, cluster-stuck
pub record IsStartBy (zones : List Zone) (w : Span) (place : ℕ) (c : ClusterCron) (s : Start)
    : Type 0 where
  pub goes : is_halted c.marks ≡ false
  pub start : IsStartOf zones w place c.cron.spec s
