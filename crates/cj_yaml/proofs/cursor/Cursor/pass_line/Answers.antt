-- pass_line: from the end of a line the cursor goes to the next one; on a line it stays.
use Rattle.std.proofs.Common.{true≢false, refl, sym, ap, ◌∙◌}
use Rattle.cj_yaml.specs.OnLines.{is_blank}
use Rattle.cj_yaml.proofs.Stands.{before_first, break_passed, stays_on_line, unmoved}
use Rattle.cj_yaml.proofs.cursor.Cursor.pass_line.Goals as goal

pub returns-then-is_fresh : goal.returns-then-is_fresh
returns-then-is_fresh c =
    record {
      printed = λ n rest is before.
          let first = before_first c.args.self.now n rest is before in
          absurd (true≢false (sym (ap is_blank (sym c.peek.ensures ∙ c.if-peek-eq9.true)) ∙ first.0));
    }

pub returns-then-end-self : goal.returns-then-end-self
returns-then-end-self c =
    record {
      printed = λ n rest is before.
          let same =
          unmoved c.args.self.now c.pass_blanks.new.self c.pass_comment.new.self n rest is before
          c.pass_blanks.ensures c.pass_comment.ensures in (
            refl,
            break_passed c.args.self.now c.pass_comment.new.self c.begin_line.new.self n rest
                c.break_end-end.result is before same c.break_end-end.ensures c.if-end-self.true
                c.begin_line.ensures,
          );
    }

pub returns : goal.returns
returns c =
    record {
      printed = λ n rest is before.
          let same =
          unmoved c.args.self.now c.pass_blanks.new.self c.pass_comment.new.self n rest is before
          c.pass_blanks.ensures c.pass_comment.ensures in (
            refl,
            stays_on_line c.args.self.now c.pass_comment.new.self n rest c.break_end-end.result before same
                c.break_end-end.ensures c.if-end-self.false,
          );
    }
