-- What a run's scenario says, and why bytes are none.
use Rattle.std.specs.Prelude.{◌≡◌, ℕ, List, codes, Result, Ok, Err}
use Rattle.serde_json.specs.Data.{Data}
use Rattle.cj_types.specs.declared.cron.CronJobDraft.{CronJobDraft}
use Rattle.cj_zone.specs.Table.{local_zone, zones_of}
use Rattle.cj_zone.specs.declared.zone.Zone.{Zone}
use Rattle.cj_io.specs.declared.zone_files.given.GivenZones.{GivenZones}
use Rattle.cj_manifest.specs.Members.{present}
use Rattle.cj_manifest.specs.Reading.{Reads}
use Rattle.cj_scenario.specs.Scenes.{AreZones}
use Rattle.cj_scenario.specs.declared.fault.SceneFault.{SceneFault}
use Rattle.cj_scenario.specs.declared.fault.SceneFault.TheVariants.{Form, Manifest, Memory, Syntax}
use Rattle.cj_script.specs.Drafts.{needed, then}
use Rattle.cj_script.specs.Lists.{after_fault}
use Rattle.cj_script.specs.Refusals.{RefusesBytes, RefusesValue}
use Rattle.cj_script.specs.declared.simulation.scenario.Simulation.{Simulation}
use Rattle.cj_script.specs.declared.simulation.scenario.Edit.{Edit}
use Rattle.cj_script.specs.simulation.Edits.{edits_in}
use Rattle.cj_script.specs.simulation.RunLists.{runs_in}
use Rattle.cj_script.specs.simulation.Runs.{RunTable}
use Rattle.cj_script.specs.simulation.Seeds.{crons_in}
use Rattle.cj_script.specs.simulation.Spans.{SpanView}
use Rattle.cj_script.specs.simulation.Times.{span_in}

-- one part beside another: a fault of the form in either outweighs a manifest's, and a manifest's
-- in the first those in the second
-- rule: run-order
abbrev pub beside : {A B : Type 0} → Result A SceneFault → Result B SceneFault
    → Result (A × B) SceneFault
beside (Ok x) rest = then rest (λ y. Ok (x, y))
beside (Err Syntax) rest = Err Syntax
beside (Err Form) rest = Err Form
beside (Err (Manifest fault)) rest = after_fault fault rest
beside (Err Memory) rest = Err Memory

-- the CronJobs and the edits
-- rule: run-order
abbrev pub lists_in : List Zone → SpanView → Data
    → Result (List CronJobDraft × List Edit) SceneFault
lists_in zones span d = beside (crons_in zones d) (edits_in zones span d)

-- what a scenario says, but for its zones
pub record Told : Type 0 where
  pub span : SpanView
  pub runs : RunTable
  pub crons : List CronJobDraft
  pub edits : List Edit

abbrev pub told : SpanView → RunTable → List CronJobDraft × List Edit → Told
told span runs lists = record { span = span; runs = runs; crons = lists.0; edits = lists.1 }

-- what a value says under its zones; or the fault of its form, else the first of a manifest
-- rule: run-form
abbrev pub told_in : List Zone → Data → Result Told SceneFault
told_in zones d =
    then (needed (span_in d)) (λ span.
    then (needed (runs_in d)) (λ runs.
    then (lists_in zones span d) (λ lists. Ok (told span runs lists))))

-- a value says this: its zones with those that are given, and under these the rest
-- rule: run-form
pub record Says (given : GivenZones) (d : Data) (c : Simulation) : Type 0 where
  pub zones : AreZones given (present (codes "zones") d) (zones_of c.zones)
  pub local : local_zone c.zones ≡ local_zone given.rules
  pub told : told_in (zones_of c.zones) d ≡ Ok (told c.span c.runs (c.crons.items, c.edits.items))

-- what the bytes of a scenario say
-- rule: run-form
abbrev pub IsSimulation : GivenZones → List ℕ → Simulation → Type 0
IsSimulation given bytes c = (d : Data) × Reads bytes d × Says given d c

-- why a value is no scenario
-- rule: run-order
abbrev pub IsRefusedValue : GivenZones → Data → SceneFault → Type 0
IsRefusedValue given d e = RefusesValue told_in given d e

-- why bytes are none
-- rule: run-order
abbrev pub IsRefusedSimulation : GivenZones → List ℕ → SceneFault → Type 0
IsRefusedSimulation given bytes e = RefusesBytes told_in given bytes e
