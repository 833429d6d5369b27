-- one_report: its clauses, for what is no list.
use Rattle.std.proofs.Common.{Bool, inr, subst}
use Rattle.cj_answers.specs.Outcome.{outcome_of}
use Rattle.cj_check.specs.AsJson.{IsItemData}
use Rattle.cj_check.specs.Check.{IsChecked}
use Rattle.cj_zone.specs.Table.{zones_of}
use Rattle.serde_json.specs.Data.{Data}
use Rattle.serde_json.specs.View.{view}
use Rattle.cj_check.proofs.check.one_report.Goals as goal

pub returns-clause-answer : goal.returns-clause-answer
returns-clause-answer c = inr (record {
  none = c.requires;
  checked = subst (λ (alone : Bool). IsChecked c.args.check.now alone (zones_of c.args.zones.now) c.args.bytes.now
      (outcome_of c.in_ok-report.report.answer)) c.is_alone-alone.ensures c.in_ok-report.ensures.0;
})

pub returns-clause-items : goal.returns-clause-items
returns-clause-items c = inr (record {
  none = c.requires;
  one = view c.in_ok-report.report.value;
  is = subst (λ (p : Data).
      IsItemData (zones_of c.args.zones.now) p c.args.bytes.now (view c.in_ok-report.report.value))
      c.no_place-place.ensures c.in_ok-report.ensures.1;
  are = c.in_ok-items.ensures;
})
