-- callers_of, its loop: the callers are those of the passes gone through.
use Rattle.std.proofs.Common.{◌≡◌, map, take}
use Rattle.cj_hub.specs.Receipts.{caller_of}
use Rattle.cj_run.proofs.participants.callers_of.Given as goal

abbrev pub invariant-loop-pass : goal.invariant-loop-pass
invariant-loop-pass l = l.callers.items ≡ map caller_of (take l.pass-index l.passes)
