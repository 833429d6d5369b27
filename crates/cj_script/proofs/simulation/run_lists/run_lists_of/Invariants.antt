-- run_lists_of: at each turn the runs so far, with the members left, are the runs of all members.
use Rattle.std.proofs.Common.{◌≡◌}
use Rattle.std.specs.FinMap as map
use Rattle.serde_json.specs.View.{members_view}
use Rattle.cj_script.specs.simulation.RunLists.{with_run_lists}
use Rattle.cj_script.proofs.simulation.run_lists.run_lists_of.Given as goal

abbrev pub invariant-loop-name : goal.invariant-loop-name
invariant-loop-name l = with_run_lists l.runs (members_view l.name-iterator) ≡ with_run_lists map.empty
    (members_view l.members.entries)
