-- blanks_end: where no blank stands at the first offset, it is still there; how many are left from
-- the offset on.
use Rattle.std.proofs.Common.{◌≡◌, ◌<◌, ◌≤◌, ◌+◌, drop, false, length, slice_index}
use Rattle.cj_yaml.specs.Cursors.{leading}
use Rattle.cj_yaml.specs.OnLines.{is_blank}
use Rattle.cj_yaml.proofs.chars.blanks_end.Given as goal

abbrev pub invariant-loop-at : goal.invariant-loop-at
invariant-loop-at l =
    record {
      none : l.from < length l.text → is_blank (slice_index l.text l.from) ≡ false → l.at ≡ l.from;
      blanks : l.from ≤ length l.text
          → l.at + leading is_blank (drop l.at l.text) ≡ l.from + leading is_blank (drop l.from l.text);
    }
