-- The zone of a CronJob's schedule (batch/v1, CronJobSpec, timeZone).
use Rattle.std.specs.Prelude.{List, ℕ, codes, Option, Some, None}

-- a controller of a cluster runs by UTC where spec.timeZone names no zone
-- rule: control-plans
abbrev pub zone_name : Option (List ℕ) → List ℕ
zone_name None = codes "UTC"
zone_name (Some name) = name
