-- trimmed: where no blank stands at the end, it is still there.
use Rattle.std.proofs.Common.{◌≡◌, ◌<◌, ◌-◌, false, slice_index}
use Rattle.cj_yaml.specs.OnLines.{is_blank}
use Rattle.cj_yaml.proofs.chars.trimmed.Given as goal

abbrev pub invariant-loop-back : goal.invariant-loop-back
invariant-loop-back l =
    l.start < l.end → is_blank (slice_index l.text (l.end - 1)) ≡ false → l.back ≡ 0
