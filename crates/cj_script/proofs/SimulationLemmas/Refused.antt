-- Why a value is refused: never as no JSON.
use Rattle.std.proofs.Common.{◌≡◌, ◌≢◌, ℕ, List, codes, Result, Ok, Err, option_and_then, inl, inr}
use Rattle.serde_json.specs.Data.{Data, Items}
use Rattle.serde_json.specs.Find.{as_array}
use Rattle.cj_types.specs.declared.cron.CronJobDraft.{CronJobDraft}
use Rattle.cj_zone.specs.declared.zone.Zone.{Zone}
use Rattle.cj_io.specs.declared.zone_files.given.GivenZones.{GivenZones}
use Rattle.cj_manifest.specs.Members.{present, unless_null}
use Rattle.cj_scenario.specs.Scenes.{AreZones, Refuses}
use Rattle.cj_scenario.specs.declared.fault.SceneFault.{SceneFault}
use Rattle.cj_scenario.specs.declared.fault.SceneFault.TheVariants.{Form, Manifest, Memory, Syntax}
use Rattle.cj_script.specs.declared.step.Action.{Action}
use Rattle.cj_script.specs.Drafts.{cron_said, needed, then}
use Rattle.cj_script.specs.Lists.{all_of}
use Rattle.cj_script.specs.Steps.{action_in}
use Rattle.cj_script.proofs.Never.{IsOther, lost, other_after, other_all, other_cron, other_action, other_fine, other_form, other_memory, other_needed, other_then}
use Rattle.cj_script.specs.declared.simulation.scenario.Edit.{Edit}
use Rattle.cj_script.specs.simulation.Simulations.{IsRefusedValue, Told, beside, lists_in, told, told_in}
use Rattle.cj_script.specs.simulation.Edits.{edit_of, edits_in, instant_in, items_in}
use Rattle.cj_script.specs.simulation.RunLists.{runs_in}
use Rattle.cj_script.specs.simulation.Runs.{RunTable}
use Rattle.cj_script.specs.simulation.Seeds.{crons_in, seed_of}
use Rattle.cj_script.specs.simulation.Spans.{SpanView}
use Rattle.cj_script.specs.simulation.Times.{span_in}

-- A manifest of a CronJob is never refused as no JSON.
other_seed : (zones : List Zone) (d : Data) → IsOther (seed_of zones d)
other_seed zones d = other_then (needed (unless_null d)) (cron_said zones) (other_needed (unless_null d))
    (other_cron zones)

-- Nor is the list of the CronJobs.
other_crons : (zones : List Zone) (d : Data) → IsOther (crons_in zones d)
other_crons zones d =
    let list : Result Items SceneFault = needed (option_and_then as_array (present (codes "cronJobs") d)) in
    other_then list (all_of (seed_of zones)) (other_needed (option_and_then as_array (present (codes "cronJobs") d)))
    (λ ds. other_all (seed_of zones) ds (other_seed zones))

-- One edit is never refused as no JSON, neither for its instant nor for what is done.
other_edit : (zones : List Zone) (span : SpanView) (d : Data) → IsOther (edit_of zones span d)
unfolding edit_of
other_edit zones span d =
    let made : ℕ → Action
    → Result Edit SceneFault = λ at action. Ok (record { at = at; operation = action.operation }) in
    let timed : ℕ → Result Edit SceneFault = λ at. then (action_in zones d) (made at) in
    other_then (needed (instant_in span d)) timed (other_needed (instant_in span d))
    (λ at. other_then (action_in zones d) (made at) (other_action zones d)
    (λ action. record { differs = λ e. absurd (cc e) }))

-- Nor is the list of the edits.
other_edits : (zones : List Zone) (span : SpanView) (d : Data) → IsOther (edits_in zones span d)
other_edits zones span d =
    other_then (needed (items_in (present (codes "edits") d))) (all_of (edit_of zones span))
    (other_needed (items_in (present (codes "edits") d)))
    (λ ds. other_all (edit_of zones span) ds (other_edit zones span))

-- Two parts beside each other are not refused as no JSON where neither of them is.
other_beside : {A B : Type 0} (r : Result A SceneFault) (rest : Result B SceneFault) → IsOther r → IsOther rest
    → IsOther (beside r rest)
other_beside (Ok x) rest h k = other_then rest (λ y. Ok (x, y)) k (λ y. other_fine (x, y))
other_beside (Err Syntax) rest h k = lost h
other_beside (Err Form) rest h k = other_form
other_beside (Err (Manifest fault)) rest h k = other_after fault rest k
other_beside (Err Memory) rest h k = other_memory

-- So the CronJobs beside the edits are never refused as no JSON.
other_lists : (zones : List Zone) (span : SpanView) (d : Data) → IsOther (lists_in zones span d)
other_lists zones span d = other_beside (crons_in zones d) (edits_in zones span d) (other_crons zones d)
    (other_edits zones span d)

-- For refused_under: nor is all that a scenario says under its zones.
other_told : (zones : List Zone) (d : Data) → IsOther (told_in zones d)
other_told zones d =
    let last : SpanView → RunTable → List CronJobDraft × List Edit → Result Told SceneFault =
    λ span runs lists. Ok (told span runs lists) in
    let ran : SpanView → RunTable → Result Told SceneFault = λ span runs. then (lists_in zones span d) (last span runs)
    in
    let clocked : SpanView → Result Told SceneFault = λ span. then (needed (runs_in d)) (ran span) in
    other_then (needed (span_in d)) clocked (other_needed (span_in d))
    (λ span. other_then (needed (runs_in d)) (ran span) (other_needed (runs_in d))
    (λ runs. other_then (lists_in zones span d) (last span runs) (other_lists zones span d)
    (λ lists. other_fine (told span runs lists))))

-- why a value is refused that has these zones
pub refused_under : (given : GivenZones) (d : Data) (zones : List Zone) (e : SceneFault)
    → AreZones given (present (codes "zones") d) zones
    → (e ≢ Memory → told_in zones d ≡ Err e) → IsRefusedValue given d e
refused_under given d zones Syntax are h = absurd ((other_told zones d).differs (h (λ q. absurd (cc q))))
refused_under given d zones Form are h = inr (record { zones = zones; are = are; told = h (λ q. absurd (cc q)) })
refused_under given d zones (Manifest fault) are h = record { zones = zones; are = are; told = h (λ q. absurd (cc q)) }
refused_under given d zones Memory are h = tt

-- why a value is refused that has no zones
pub refused_zones : (given : GivenZones) (d : Data) (e : SceneFault)
    → Refuses e ((zones : List Zone) → AreZones given (present (codes "zones") d) zones → ⊥)
    → IsRefusedValue given d e
refused_zones given d e (inl memory) = rw memory tt
refused_zones given d e (inr (form, none)) = rw form (inl none)
