-- callers_of: its loop; at each turn the callers so far and those of the members to come are all.
use Rattle.std.proofs.Common.{◌≡◌, []}
use Rattle.serde_json.specs.View.{members_view}
use Rattle.cj_script.specs.Callers.{with_callers}
use Rattle.cj_script.proofs.callers.callers_of.Given as goal

abbrev pub invariant-loop-name : goal.invariant-loop-name
invariant-loop-name l = with_callers l.callers.items (members_view l.name-iterator)
    ≡ with_callers [] (members_view l.members.entries)
