-- What a user does in a run: steps with no caller, each at an instant of the clock.
use Rattle.std.specs.Prelude.{ℕ, List, codes, Option, Some, None, option_and_then, Result, Ok}
use Rattle.serde_json.specs.Data.{Data, Items, no_items}
use Rattle.serde_json.specs.Find.{as_array}
use Rattle.cj_zone.specs.declared.zone.Zone.{Zone}
use Rattle.cj_manifest.specs.Members.{present}
use Rattle.cj_scenario.specs.declared.fault.SceneFault.{SceneFault}
use Rattle.cj_script.specs.operations.Operations.{moment_in}
use Rattle.cj_script.specs.Drafts.{needed, then}
use Rattle.cj_script.specs.Lists.{all_of}
use Rattle.cj_script.specs.Steps.{action_in}
use Rattle.cj_script.specs.declared.simulation.scenario.Edit.{Edit}
use Rattle.cj_script.specs.simulation.Spans.{SpanView, clocked}

-- `at` is an instant of the clock
-- rule: run-form
abbrev pub instant_in : SpanView → Data → Option ℕ
instant_in span d = option_and_then (clocked span) (moment_in d)

-- rule: run-form
unfoldable pub edit_of : List Zone → SpanView → Data → Result Edit SceneFault
edit_of zones span d =
    then (needed (instant_in span d)) (λ at.
    then (action_in zones d) (λ action. Ok (record { at = at; operation = action.operation })))

-- a list, where it is there
abbrev pub items_in : Option Data → Option Items
items_in None = Some no_items
items_in (Some d) = as_array d

-- rule: run-form
abbrev pub edits_in : List Zone → SpanView → Data → Result (List Edit) SceneFault
edits_in zones span d = then (needed (items_in (present (codes "edits") d)))
    (all_of (edit_of zones span))
