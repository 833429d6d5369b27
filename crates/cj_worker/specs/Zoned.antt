-- The zone by which a CronJob's schedule is read: Kubernetes CronJob documentation, "Time zones".
use Rattle.std.specs.Prelude.{ℕ, List, Option, Some, None}
use Rattle.cj_types.specs.declared.cron.CronJob.{CronJob}
use Rattle.cj_zone.specs.declared.zone.Zone.{Zone}
use Rattle.cj_zone.specs.declared.table.ZoneTable.{ZoneTable}
use Rattle.cj_zone.specs.Table.{local_zone, zones_of}
use Rattle.cj_zone.specs.Zones.{zone_named}

-- the zone of that name in the table, if it is there; without a name the table's local one
-- rule: sync-zone
abbrev pub zone_by : ZoneTable → Option (List ℕ) → Option Zone
zone_by table None = local_zone table
zone_by table (Some name) = zone_named name (zones_of table)

-- the zone of a CronJob; where there is no CronJob none is asked for
-- rule: sync-zone
abbrev pub zone_for : ZoneTable → Option CronJob → Option Zone
zone_for table None = None
zone_for table (Some cron) = zone_by table cron.spec.time_zone
