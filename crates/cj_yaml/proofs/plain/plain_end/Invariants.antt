-- plain_end: what is left of a plain text that is printed stands at the offset.
use Rattle.std.proofs.Common.{◌≡◌, ℕ, List, false}
use Rattle.cj_yaml.specs.OnLines.{StandsPlain}
use Rattle.cj_yaml.proofs.PlainEnds.{Left}
use Rattle.cj_yaml.proofs.plain.plain_end.Given as goal

abbrev pub invariant-loop-at : goal.invariant-loop-at
invariant-loop-at l =
    (t rest : List ℕ) → l.flow ≡ false → StandsPlain l.text l.from t rest → Left l.text l.from l.at t rest
