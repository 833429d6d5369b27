-- steps_to_hour: at each turn what is left decides; the next number is no more than two bytes' worth.
use Rattle.std.proofs.Common.{◌≡◌, ◌≤◌, drop}
use Rattle.cj_upcoming.specs.Sentence.{steps_to_hour}
use Rattle.cj_upcoming.proofs.time_words.steps_to_hour.Given as goal

abbrev pub invariant-loop-minute : goal.invariant-loop-minute
invariant-loop-minute l = record {
  same : steps_to_hour l.step l.next (drop l.minute-index l.minutes) ≡ steps_to_hour l.step 0 l.minutes;
  small : l.next ≤ 510;
}
