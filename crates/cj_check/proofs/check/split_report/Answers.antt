-- split_report: its clauses, for a list, by the answers and the values of its items.
use Rattle.std.proofs.Common.{◌∙◌, ap, inl}
use Rattle.cj_check.specs.CheckList.{listed}
use Rattle.cj_check.proofs.check.split_report.Goals as goal

pub returns-clause-answer : goal.returns-clause-answer
returns-clause-answer c = inl (record {
  texts = c.args.texts.now;
  split = c.requires;
  listed_are = record {
    start = c.in_ok-reports.ensures.answers.0;
    none = c.in_ok-reports.ensures.answers.1;
    answers = c.in_ok-reports.reports.answers.items;
    checked = c.in_ok-reports.ensures.answers.2;
    answer = c.in_ok-answer.ensures ∙ ap (listed c.args.check.now) c.as_slice.ensures.value;
  };
})

pub returns-clause-items : goal.returns-clause-items
returns-clause-items c = inl (record {
  texts = c.args.texts.now;
  split = c.requires;
  start = c.in_ok-reports.ensures.values.0;
  none = c.in_ok-reports.ensures.values.1;
  each = c.in_ok-reports.ensures.values.2;
})
