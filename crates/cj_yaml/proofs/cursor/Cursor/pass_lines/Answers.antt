-- pass_lines: on a line the cursor stays.
use Rattle.std.proofs.Common.{true≢false, sym}
use Rattle.cj_yaml.specs.Cursors.{on_line}
use Rattle.cj_yaml.proofs.cursor.Cursor.pass_lines.Goals as goal

pub returns-in_err-passed-2 : goal.returns-in_err-passed-2
returns-in_err-passed-2 c =
    record {
      printed = λ n rest is before.
          absurd (true≢false (sym (c.in_err-passed-2.ensures.printed n rest is
          (on_line (c.lines.invariant n rest is before))).0));
    }

pub lines-preserved : goal.lines-preserved
lines-preserved c = λ n rest is before.
    (c.in_ok-passed-2.ensures.printed n rest is (on_line (c.lines.invariant n rest is before))).1
