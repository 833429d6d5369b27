-- number_of: at each turn what is left, behind the number so far, spells the whole.
use Rattle.std.proofs.Common.{◌≡◌, ◌≤◌, drop}
use Rattle.cj_cluster.specs.kubectl.NamedTimes.{number_of}
use Rattle.cj_cluster.proofs.kubectl.named_times.number_of.Given as goal

abbrev pub invariant-loop-digit : goal.invariant-loop-digit
invariant-loop-digit l = record {
  same : number_of l.number (drop l.digit-index l.digits) ≡ number_of 0 l.digits;
  small : l.number ≤ 9_999_999_999;
}
