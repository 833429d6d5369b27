-- push_strays, its loop: the text so far, with the lines of the keys left, is the text at the start with those of all.
use Rattle.std.proofs.Common.{◌≡◌, ◌++◌, string_bytes}
use Rattle.serde_json.specs.View.{view, members_view}
use Rattle.cj_check.specs.Strays.{strays_in}
use Rattle.cj_check.proofs.strays.push_strays.Given as goal

abbrev pub invariant-loop-key : goal.invariant-loop-key
invariant-loop-key l =
    string_bytes l.text ++ strays_in (view l.value) (members_view l.key-iterator)
    ≡ string_bytes l.initial.text ++ strays_in (view l.value) (members_view l.initial.key-iterator)
