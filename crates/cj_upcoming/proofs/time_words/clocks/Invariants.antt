-- clocks: at each turn the times so far, with those of the hours left, are all.
use Rattle.std.proofs.Common.{◌≡◌, ◌++◌, drop, map, string_bytes}
use Rattle.cj_upcoming.specs.Sentence.{clocks}
use Rattle.cj_upcoming.proofs.time_words.clocks.Given as goal

abbrev pub invariant-loop-hour : goal.invariant-loop-hour
invariant-loop-hour l =
    map string_bytes l.clocks.items ++ clocks l.minute (drop l.hour-index l.hours) ≡ clocks l.minute l.hours
