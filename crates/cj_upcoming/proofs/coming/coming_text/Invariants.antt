-- coming_text: its loop; at each turn the text so far, with the times still to come, is the whole text.
use Rattle.std.proofs.Common.{◌-◌, string_bytes}
use Rattle.cj_upcoming.proofs.NextLemmas.{Continues}
use Rattle.cj_upcoming.proofs.coming.coming_text.Given as goal

abbrev pub invariant-loop : goal.invariant-loop
invariant-loop l = Continues l.schedule l.zone l.start l.count l.at (l.count - l.counter) (string_bytes l.text)
