-- A Job that was made for a time that isn't due, and one that was made before its time.
use Rattle.std.specs.Prelude.{◌≡◌, ◌⊎◌, ℕ, ◌<◌, Bool, true, false, not, List, Option, Some, None, codes}
use Rattle.cj_schedule.specs.Grammar.{IsSchedule}
use Rattle.cj_schedule.specs.Matches.{Sets}
use Rattle.cj_zone.specs.declared.zone.Zone.{Zone}
use Rattle.cj_zone.specs.Zones.{utc_zone, zone_named}
use Rattle.cj_due.specs.Due.{due}
use Rattle.cj_cluster.specs.declared.cron.ClusterCron.{ClusterCron}
use Rattle.cj_audit.specs.declared.kind.FindingKind.{FindingKind}
use Rattle.cj_audit.specs.declared.kind.FindingKind.TheVariants.{Undue, Early}
use Rattle.cj_audit.specs.declared.finding.Finding.{Finding}
use Rattle.cj_audit.specs.declared.run.Run.{Run}
use Rattle.cj_audit.specs.Pairs.{created, name_of}

-- the zone of a name, if one has it, and UTC where there is no name
-- rule: audit-undue
abbrev pub zone_for : Option (List ℕ) → List Zone → Option Zone
zone_for None zones = Some (utc_zone (codes "UTC"))
zone_for (Some name) zones = zone_named name zones

-- where there is a schedule in a zone: it isn't due at the time
-- rule: audit-undue
abbrev pub is_undue : Option Sets → Option Zone → ℕ → Bool
is_undue (Some s) (Some z) time = not (due s z time)
is_undue (Some s) None time = false
is_undue None _ time = false

-- the finding on a Job at its scheduled time
abbrev pub run_finding : FindingKind → ClusterCron → Run → ℕ → Finding
run_finding kind c run time = record {
  namespace = c.cron.key.namespace;
  cron = c.cron.key.name;
  time = time;
  first = name_of run;
  second = None;
  kind = kind;
}

-- the Job has a scheduled time, at which the CronJob's schedule isn't due in its zone; nothing is
-- said where the zone is not among those given or the text is no schedule
-- rule: audit-undue
pub record IsUndueRun (zones : List Zone) (c : ClusterCron) (run : Run) (f : Finding) : Type 0 where
  pub time : ℕ
  pub scheduled : run.times.scheduled ≡ Some time
  pub schedule : Sets
  pub zone : Zone
  pub reads : IsSchedule c.cron.spec.schedule schedule
  pub in_zone : zone_for c.cron.spec.time_zone zones ≡ Some zone
  pub undue : due schedule zone time ≡ false
  pub is : f ≡ run_finding Undue c run time

-- the finding, by a schedule in a zone
pub record IsUndueNote (schedule : Option Sets) (zone : Option Zone) (c : ClusterCron) (run : Run)
    (f : Finding) : Type 0 where
  pub time : ℕ
  pub scheduled : run.times.scheduled ≡ Some time
  pub undue : is_undue schedule zone time ≡ true
  pub is : f ≡ run_finding Undue c run time

-- the Job has a scheduled time, and was created before it
-- rule: audit-early
pub record IsEarlyRun (c : ClusterCron) (run : Run) (f : Finding) : Type 0 where
  pub time : ℕ
  pub scheduled : run.times.scheduled ≡ Some time
  pub early : created run < time
  pub is : f ≡ run_finding Early c run time

-- either of the two
abbrev pub IsSingleNote : Option Sets → Option Zone → ClusterCron → Run → Finding → Type 0
IsSingleNote schedule zone c run f = IsUndueNote schedule zone c run f ⊎ IsEarlyRun c run f
