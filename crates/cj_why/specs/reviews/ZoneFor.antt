-- The zone of a CronJob's schedule: Kubernetes CronJob documentation, "Time zones".
use Rattle.std.specs.Prelude.{ℕ, List, Option, None, Some, codes}
use Rattle.cj_zone.specs.declared.zone.Zone.{Zone}
use Rattle.cj_zone.specs.Zones.{utc_zone, zone_named}

-- the zone that the CronJob names, UTC where it names none
-- rule: plan-scenario
abbrev pub zone_for : Option (List ℕ) → List Zone → Option Zone
zone_for None zones = Some (utc_zone (codes "UTC"))
zone_for (Some name) zones = zone_named name zones
