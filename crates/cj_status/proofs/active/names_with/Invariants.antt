-- names_with: at each turn of its loop, what is put down, with the names left and the new one if
-- it still waits, is the answer.
use Rattle.std.proofs.Common.{◌≡◌, ◌++◌, drop}
use Rattle.std.specs.Prelude.{if◌then◌else◌}
use Rattle.cj_status.specs.Active.{names_with}
use Rattle.cj_status.proofs.active.names_with.Given as goal

abbrev pub invariant-loop-other : goal.invariant-loop-other
invariant-loop-other l =
    l.all ++ (if l.waits then names_with l.key.name (drop l.other-index l.names) else drop l.other-index l.names)
    ≡ names_with l.key.name l.names
