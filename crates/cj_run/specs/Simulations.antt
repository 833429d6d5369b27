-- What the user of a run does, and when: each CronJob is created at the start, and each edit is
-- made at its instant.
use Rattle.std.specs.Prelude.{◌≡◌, ℕ, zero, suc, ◌==◌, Bool, false, List, ◌++◌, map, All}
use Rattle.std.specs.List.{filter}
use Rattle.cj_types.specs.Keys.{Place}
use Rattle.cj_types.specs.declared.cron.CronJobDraft.{CronJobDraft}
use Rattle.cj_queue.specs.Parts.{key_eq}
use Rattle.cj_calls.specs.declared.call.Call.{Call}
use Rattle.cj_calls.specs.declared.call.Call.TheVariants as Of
use Rattle.cj_script.specs.declared.operations.operation.Operation.{Operation}
use Rattle.cj_script.specs.declared.operations.operation.Operation.TheVariants.{Calls}
use Rattle.cj_io.specs.declared.zone_files.given.GivenZones.{GivenZones}
use Rattle.cj_script.specs.simulation.Simulations.{IsSimulation}
use Rattle.cj_script.specs.simulation.Spans.{instant}
use Rattle.cj_script.specs.declared.simulation.scenario.Simulation.{Simulation}
use Rattle.cj_script.specs.declared.simulation.scenario.Edit.{Edit}

abbrev pub creation : ℕ → CronJobDraft → Operation
creation at draft = Calls (Of.CreateCron draft at)

-- the CronJobs are created at the start, in their order
-- rule: run-edits
abbrev pub creations : ℕ → List CronJobDraft → List Operation
creations at drafts = map (creation at) drafts

-- the edits of an instant, in their order
-- rule: run-edits
unfoldable pub edits_at : List Edit → ℕ → List Operation
edits_at edits at = map (λ e. e.operation) (filter (λ e. e.at == at) edits)

-- what the user does up to the end of the first `n` instants
-- rule: run-edits
abbrev pub operations_below : Simulation → ℕ → List Operation
operations_below c zero = creations c.span.start c.crons.items
operations_below c (suc n) = operations_below c n ++ edits_at c.edits.items (instant c.span n)

-- ---- what it writes

-- the call is to write the CronJob at the key
-- rule: run-edits
abbrev pub writes_cron : Place → Call → Bool
writes_cron k (Of.CreateCron draft now) = key_eq draft.key k
writes_cron k (Of.UpdateCron draft) = key_eq draft.key k
writes_cron k (Of.DeleteCron key) = key_eq key k
writes_cron k call = false

-- so is the operation's
-- rule: run-edits
abbrev pub operation_writes : Place → Operation → Bool
operation_writes k (Calls call) = writes_cron k call
operation_writes k operation = false

-- ---- when an edit creates

-- a CronJob that the edit creates is created at the edit's own moment
-- rule: run-edits
abbrev pub IsTimed : Edit → Type 0
IsTimed e = (draft : CronJobDraft) (now : ℕ) → e.operation ≡ Calls (Of.CreateCron draft now)
    → now ≡ e.at

-- so it is with each edit of the scenario
-- rule: run-edits
abbrev pub AreTimed : Simulation → Type 0
AreTimed c = All IsTimed c.edits.items

-- and so with those of each scenario that was read
-- rule: run-edits
abbrev pub ReadEditsAreTimed : Type 0
ReadEditsAreTimed = (given : GivenZones) (bytes : List ℕ) (c : Simulation)
    → IsSimulation given bytes c → AreTimed c
