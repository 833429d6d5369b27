-- are_plain: the text is plain if what is left of it is, behind the byte before.
use Rattle.std.proofs.Common.{◌≡◌, drop}
use Rattle.cj_yaml.specs.Words.{is_plain_rest}
use Rattle.cj_yaml.proofs.escape.are_plain.Given as goal

abbrev pub invariant-loop-b : goal.invariant-loop-b
invariant-loop-b l = is_plain_rest l.before (drop l.b-index l.bytes) ≡ is_plain_rest 32 l.bytes
