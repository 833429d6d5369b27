-- items_of: its loop; at each turn the list leads to the Jobs so far, and the minutes are theirs.
use Rattle.std.proofs.Common.{drop}
use Rattle.serde_json.specs.View.{items_view}
use Rattle.cj_scenario.specs.Minutes.{AreMinutesOf}
use Rattle.cj_scenario.proofs.Items.{Leads}
use Rattle.cj_scenario.proofs.given.items_of.Given as goal

abbrev pub invariant-loop-item : goal.invariant-loop-item
invariant-loop-item l =
    Leads (items_view l.item-items) l.jobs.items (items_view (drop l.item-index l.item-items))
    × AreMinutesOf l.jobs.items l.minutes
