-- The local times that clocks skip, or show twice, and that the schedules of CronJobs name.
use Rattle.std.specs.Prelude.{◌≡◌, ℕ, ◌+◌, ◌-◌, min, max, List, [], ◌∷◌, ◌++◌, Bool, true, false, Option, None, Some, codes, if◌then◌else◌, unwrap_or}
use Rattle.serde_json.specs.Data.{Data, array}
use Rattle.serde_json.specs.View.{items_of}
use Rattle.cj_base.specs.Instant.{last_second}
use Rattle.cj_schedule.specs.Grammar.{IsSchedule}
use Rattle.cj_schedule.specs.Matches.{Sets}
use Rattle.std.specs.FinMap as map
use Rattle.cj_cluster.specs.declared.cluster.Cluster.{Cluster}
use Rattle.cj_cluster.specs.declared.cron.ClusterCron.{ClusterCron}
use Rattle.cj_types.specs.declared.cron.CronJob.{CronJob}
use Rattle.cj_types.specs.declared.job.Job.{Job}
use Rattle.cj_zone.specs.declared.zone.Zone.{Zone}
use Rattle.cj_zone.specs.Zones.{utc_zone, zone_named}
use Rattle.cj_upcoming.specs.Changes.{changes}
use Rattle.cj_upcoming.specs.Named.{AreNamedLines}
use Rattle.cj_answers.specs.Outcome.{Outcome, explained}
use Rattle.cj_inspect.specs.declared.nights.look.Look.{Look}
use Rattle.cj_inspect.specs.declared.nights.look.Look.TheVariants as By

-- ---- from when to when

-- when a CronJob was last seen to be due, or was created
abbrev pub seen_at : CronJob → ℕ
seen_at c = unwrap_or c.status.last_schedule_time c.meta.created

-- around a moment: a week before it, or when the CronJob was last due if that is earlier, but not
-- before it was created
-- rule: clock-nights
abbrev pub around_after : ℕ → CronJob → ℕ
around_after now c = max c.meta.created (min (seen_at c) (now - 604_800))

-- up to 31 days behind it
-- rule: clock-nights
abbrev pub around_last : ℕ → ℕ
around_last now = min (now + 2_678_400) last_second

-- the instant behind which changes count
-- rule: clock-nights
abbrev pub look_after : Look → CronJob → ℕ
look_after (By.Within after last) c = after
look_after (By.Ahead after last) c = after
look_after (By.Around now) c = around_after now c

-- the last instant; ahead of a suspended CronJob there is none
-- rule: clock-nights
abbrev pub look_last : Look → CronJob → ℕ
look_last (By.Within after last) c = last
look_last (By.Ahead after last) c = if c.spec.suspend then after else last
look_last (By.Around now) c = around_last now

-- the least and the greatest of instants, with one instant more
abbrev pub widened : Option (ℕ × ℕ) → ℕ → Option (ℕ × ℕ)
widened None t = Some (t, t)
widened (Some b) t = Some (min b.0 t, max b.1 t)

abbrev pub widened_by : Option (ℕ × ℕ) → Option ℕ → Option (ℕ × ℕ)
widened_by b None = b
widened_by b (Some t) = widened b t

-- with the instants at which Jobs were created
-- rule: clock-nights
abbrev pub with_jobs : Option (ℕ × ℕ) → List Job → Option (ℕ × ℕ)
with_jobs b [] = b
with_jobs b (j ∷ js) = with_jobs (widened b j.meta.created) js

-- with those at which CronJobs were last due
-- rule: clock-nights
abbrev pub with_crons : Option (ℕ × ℕ) → List ClusterCron → Option (ℕ × ℕ)
with_crons b [] = b
with_crons b (c ∷ cs) = with_crons (widened_by b c.cron.status.last_schedule_time) cs

-- the instants of which a cluster tells
-- rule: clock-nights
abbrev pub bounds_of : Cluster → Option (ℕ × ℕ)
bounds_of c = with_crons (with_jobs None (map.values c.jobs)) (map.values c.crons)

-- from the first instant up to a day behind the last; but from then on, and up to then, where
-- people say so
-- rule: clock-nights
abbrev pub look_in : Option (ℕ × ℕ) → Option ℕ → Option ℕ → Look
look_in bounds since now =
    By.Within (unwrap_or since (min (unwrap_or bounds (0, 0)).0 last_second))
    (unwrap_or now (min ((unwrap_or bounds (0, 0)).1 + 86_400) last_second))

-- which changes of clocks `audit` tells of
-- rule: clock-nights
abbrev pub look_of : Cluster → Option ℕ → Option ℕ → Look
look_of c since now = look_in (bounds_of c) since now

-- ---- what clocks do

-- of a text that is a schedule, on the clock of the zone of that name, which is known
-- rule: clock-nights
pub record IsZoneNight (name schedule : List ℕ) (zones : List Zone) (after last : ℕ)
    (lines : List ℕ) : Type 0 where
  pub says : (sets : Sets) (zone : Zone) → IsSchedule schedule sets
      → zone_named name zones ≡ Some zone
      → AreNamedLines sets zone (utc_zone (codes "UTC")) (changes zone after last) lines

-- UTC, by which a CronJob goes that names no zone, never changes
-- rule: clock-nights
abbrev pub IsNight : Option (List ℕ) → List ℕ → List Zone → ℕ → ℕ → List ℕ → Type 0
IsNight None schedule zones after last lines = lines ≡ []
IsNight (Some name) schedule zones after last lines =
    IsZoneNight name schedule zones after last lines

-- of a CronJob
abbrev pub IsNightOf : List Zone → Look → CronJob → List ℕ → Type 0
IsNightOf zones look c lines =
    IsNight c.spec.time_zone c.spec.schedule zones (look_after look c) (look_last look c) lines

-- of each CronJob, one after another
-- rule: clock-nights
abbrev pub AreNights : List Zone → Look → List CronJob → List ℕ → Type 0
AreNights zones look [] raw = raw ≡ []
AreNights zones look (c ∷ cs) raw =
    (lines : List ℕ) × (rest : List ℕ) × IsNightOf zones look c lines
    × AreNights zones look cs rest × (raw ≡ lines ++ rest)

-- behind a text stand the lines of one CronJob more
pub record AddsNight (zones : List Zone) (look : Look) (c : CronJob) (text longer : List ℕ)
    : Type 0 where
  pub lines : List ℕ
  pub is : IsNightOf zones look c lines
  pub are : longer ≡ text ++ lines

-- ---- what is told of it

abbrev pub is_silent : List ℕ → Bool
is_silent [] = true
is_silent (x ∷ xs) = false

-- something is told just where a clock does so
-- rule: clock-nights
pub record IsNightText (zones : List Zone) (look : Look) (crons : List CronJob) (text : List ℕ)
    : Type 0 where
  pub raw : List ℕ
  pub are : AreNights zones look crons raw
  pub none : is_silent text ≡ is_silent raw

-- where people ask for it, or the reasons are given in full, it is told behind the answer
-- rule: clock-nights
abbrev pub TellsNights : Bool → List Zone → Look → List CronJob → Outcome → Outcome → Type 0
TellsNights false zones look crons base o = o ≡ base
TellsNights true zones look crons base o =
    (words : List ℕ) × IsNightText zones look crons words × (o ≡ explained true words base)

-- as JSON it is an array
-- rule: clock-nights
abbrev pub IsNightData : Data → Type 0
IsNightData d = (values : List Data) × (d ≡ array (items_of values))
