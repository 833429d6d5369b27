-- push_ignored: at each turn the text so far, with the lines of the members left,
-- is the text at the start with the lines of all.
use Rattle.std.proofs.Common.{◌≡◌, ◌++◌, string_bytes}
use Rattle.serde_json.specs.View.{members_view}
use Rattle.cj_scenario.specs.detection.Detections.{ignored_in}
use Rattle.cj_scenario.proofs.detection.ignored.push_ignored.Given as goal

abbrev pub invariant-loop-key : goal.invariant-loop-key
invariant-loop-key l =
    string_bytes l.text ++ ignored_in l.form (members_view l.key-iterator)
    ≡ string_bytes l.initial.text ++ ignored_in l.form (members_view l.initial.key-iterator)
