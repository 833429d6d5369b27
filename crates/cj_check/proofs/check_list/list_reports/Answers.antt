-- list_reports: its loop's invariant, with the answer and the value of the next item, and its clauses behind the last
-- one.
use Rattle.std.proofs.Common.{◌+◌, ap, arith, map}
use Rattle.serde_json.specs.View.{view}
use Rattle.cj_zone.specs.Table.{zones_of}
use Rattle.cj_check.proofs.ItemAnswers.{begins_at, begins_end}
use Rattle.cj_check.proofs.ItemData.{leads_at, leads_end}
use Rattle.cj_check.proofs.check_list.list_reports.Goals as goal

pub loop-text-preserved : goal.loop-text-preserved
loop-text-preserved c = (
  begins_at c.args.check.now (zones_of c.args.zones.now) c.args.texts.now c.loop-text.seen c.item_report.new.seen
      c.loop-text.text-index c.text-item.result c.loop-text.answers.items c.in_ok-report.report.answer
      c.push_report.new.answers.items c.loop-text-test.true c.text-item.is c.loop-text.invariant.0
      c.in_ok-report.ensures.0 c.in_ok-push_report.ensures.answers,
  leads_at (zones_of c.args.zones.now) c.args.texts.now c.loop-text.seen c.item_report.new.seen c.loop-text.text-index
      (c.loop-text.place + 1) c.text-item.result (map view c.loop-text.values.items) (view c.in_ok-report.report.value)
      (map view c.push_report.new.values.items) c.loop-text-test.true c.text-item.is c.loop-text.invariant.1
      c.in_ok-report.ensures.1 c.in_ok-push_report.ensures.values,
  ap (λ n. n + 1) c.loop-text.invariant.2,
)

pub returns-clause-answers : goal.returns-clause-answers
returns-clause-answers c =
    begins_end c.args.check.now (zones_of c.args.zones.now) c.args.texts.now c.loop-text.seen c.loop-text.text-index
    c.loop-text.answers.items (omega (arith, c.loop-text-test.false)) c.loop-text.invariant.0

pub returns-clause-values : goal.returns-clause-values
returns-clause-values c =
    leads_end (zones_of c.args.zones.now) c.args.texts.now c.loop-text.seen c.loop-text.text-index
    (c.loop-text.place + 1)
    (map view c.loop-text.values.items) (omega (arith, c.loop-text-test.false)) c.loop-text.invariant.1
