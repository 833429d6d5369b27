-- The plan that a worker hands in: the decision for what it has seen.
use Rattle.std.specs.Prelude.{◌≡◌, ℕ, List, [], Option, Some, None}
use Rattle.cj_types.specs.declared.cron.CronJob.{CronJob}
use Rattle.cj_types.specs.declared.job.Job.{Job}
use Rattle.cj_types.specs.declared.policy.Reason.{Reason}
use Rattle.cj_zone.specs.declared.table.ZoneTable.{ZoneTable}
use Rattle.cj_zone.specs.declared.zone.Zone.{Zone}
use Rattle.cj_zone.specs.Table.{local_zone, zones_of}
use Rattle.cj_zone.specs.Zones.{zone_named}
use Rattle.cj_decide.specs.Decision.{IsDecided, Planned}
use Rattle.cj_state.specs.declared.phases.sync.InFlight.{InFlight}
use Rattle.cj_state.specs.declared.phases.sync.Phase.{Phase}
use Rattle.cj_state.specs.declared.phases.sync.Phase.TheVariants.{Checked, Works}

-- the three readings that a plan rests on
pub record Inputs : Type 0 where
  pub cron : Option CronJob
  pub jobs : List Job
  pub active : List (Option Job)

abbrev pub no_inputs : Inputs
no_inputs = record { cron = None; jobs = []; active = [] }

-- all three, once a sync has got them, until its plan is claimed; before and afterwards none
-- rule: claim-step
abbrev pub inputs_at : Phase → Inputs
inputs_at (Checked cron jobs active) = record { cron = cron; jobs = jobs; active = active }
inputs_at phase = no_inputs

-- rule: claim-step
abbrev pub inputs_of : Option InFlight → Inputs
inputs_of None = no_inputs
inputs_of (Some sync) = inputs_at sync.phase

-- the zone of that name, if it is known; the local one where none is named
abbrev pub zone_named_by : ZoneTable → Option (List ℕ) → Option Zone
zone_named_by zones None = local_zone zones
zone_named_by zones (Some name) = zone_named name (zones_of zones)

-- the zone of a CronJob; where there is none, none
-- rule: claim-step
abbrev pub zone_of : ZoneTable → Option CronJob → Option Zone
zone_of zones None = None
zone_of zones (Some cron) = zone_named_by zones cron.spec.time_zone

-- the one plan of these readings at the moment, under the zones
-- rule: claim-step
pub record IsPlanFor (zones : ZoneTable) (inputs : Inputs) (at : ℕ) (p : Planned) : Type 0 where
  pub cron : p.cron ≡ inputs.cron
  pub jobs : p.jobs ≡ inputs.jobs
  pub active : p.active ≡ inputs.active
  pub moment : p.at ≡ at
  pub zone : p.zone ≡ zone_of zones inputs.cron
  pub decided : IsDecided p

-- the reasons of the plan that was claimed
-- rule: finish-step
abbrev pub reasons_at : Phase → List Reason
reasons_at (Works work) = work.plan.steps.reasons
reasons_at phase = []

-- rule: finish-step
abbrev pub reasons_of : Option InFlight → List Reason
reasons_of None = []
reasons_of (Some sync) = reasons_at sync.phase
