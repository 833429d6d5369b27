-- macro_line: its ensures, where a command is started by a macro.
use Rattle.std.proofs.Common.{sym, subst}
use Rattle.cj_check.specs.Crontab.{BeginsWith, none, word, words_of}
use Rattle.cj_check.specs.declared.crontab.when.When.{When}
use Rattle.cj_check.proofs.crontab.line.macro_line.Goals as goal

pub returns : goal.returns
returns c = (
  subst (λ (w : When). BeginsWith (words_of w) c.args.text.now) (sym c.in_ok-job_of.ensures.when)
      (word c.next_word.result.1.now c.next_word.ensures none),
  c.in_ok-job_of.ensures.job,
)
