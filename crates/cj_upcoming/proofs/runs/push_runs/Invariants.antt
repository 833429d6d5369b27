-- push_runs: at each turn the runs so far, with those of what is left, are those of all.
use Rattle.std.proofs.Common.{◌≡◌, ◌++◌, drop, map, string_bytes}
use Rattle.cj_upcoming.specs.Lists.{runs_from}
use Rattle.cj_upcoming.proofs.runs.push_runs.Given as goal

abbrev pub invariant-loop-number : goal.invariant-loop-number
invariant-loop-number l =
    map string_bytes l.runs.items ++ runs_from l.part l.begin l.end (drop l.number-index l.rest)
    ≡ map string_bytes l.initial.runs.items ++ runs_from l.part l.first l.first l.rest
