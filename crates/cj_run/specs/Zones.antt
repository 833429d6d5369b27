-- In which zones times are claimed in a run.
use Rattle.std.specs.Prelude.{◌≡◌, All, List}
use Rattle.cj_zone.specs.declared.table.ZoneTable.{ZoneTable}
use Rattle.cj_calls.specs.Rows.{Told}
use Rattle.cj_calls.specs.declared.call.Call.{Call}
use Rattle.cj_calls.specs.declared.call.Call.TheVariants as Of
use Rattle.cj_worker.specs.Zoned.{zone_for}

-- a plan that is claimed has the zone that the table has for its CronJob; no other call has a zone
-- rule: run-zones
abbrev pub HasZone : ZoneTable → Call → Type 0
HasZone zones (Of.Claim plan) = plan.zone ≡ zone_for zones plan.cron
HasZone zones call = Unit {0}

-- so has each that is claimed in a history
-- rule: run-zones
abbrev pub AreZoned : ZoneTable → List Told → Type 0
AreZoned zones h = All (λ e. HasZone zones e.call) h
