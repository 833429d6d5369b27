-- field_count, its loop: count, at most byte-index, and the fields still to come are all fields.
use Rattle.std.proofs.Common.{◌≡◌, ◌+◌, ◌≤◌, drop}
use Rattle.cj_explain.specs.Elements.{count_from, field_count}
use Rattle.cj_explain.proofs.element.field_count.Given as goal

abbrev pub invariant-loop-byte : goal.invariant-loop-byte
invariant-loop-byte l = (l.count + count_from l.is_inside (drop l.byte-index l.byte-items) ≡ field_count l.text)
    × (l.count ≤ l.byte-index)
