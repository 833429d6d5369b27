-- push_behind: at each turn the text so far, with what is left, is that of all.
use Rattle.std.proofs.Common.{◌≡◌, ◌++◌, drop, map, string_bytes}
use Rattle.cj_upcoming.specs.Lists.{behind}
use Rattle.cj_upcoming.proofs.join.push_behind.Given as goal

abbrev pub invariant-loop-i : goal.invariant-loop-i
invariant-loop-i l =
    string_bytes l.text ++ behind (map string_bytes (drop l.i l.items))
    ≡ string_bytes l.initial.text ++ behind (map string_bytes l.items)
