-- share_out: its loop; at each turn each pass gone through has a share, and shares and rest are the
-- list.
use Rattle.std.proofs.Common.{◌≡◌, ◌++◌, map}
use Rattle.std.specs.List.{flat_map}
use Rattle.cj_runner.proofs.shares.share_out.Given as goal

abbrev pub invariant-loop-pass : goal.invariant-loop-pass
invariant-loop-pass l = record {
  owners : map (λ s. s.pass) l.shares.items ≡ l.yielded;
  parts : flat_map (λ s. s.running.items) l.shares.items ++ l.left.items ≡ l.fn.running.items;
}
