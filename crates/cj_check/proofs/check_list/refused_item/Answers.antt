-- refused_item: its ensures, for keys that stay.
use Rattle.std.proofs.Common.{subst}
use Rattle.std.proofs.lemmas.Result.{IfOk-weaker}
use Rattle.serde_json.specs.Data.{Data}
use Rattle.serde_json.specs.View.{view}
use Rattle.cj_zone.specs.Table.{zones_of}
use Rattle.cj_answers.specs.Outcome.{outcome_of}
use Rattle.cj_check.specs.AsJson.{IsItemData, IsItemTold}
use Rattle.cj_check.specs.CheckList.{IsItemAnswer}
use Rattle.cj_check.proofs.SeenItems.{item_refused}
use Rattle.cj_check.proofs.check_list.refused_item.Goals as goal

pub returns : goal.returns
returns c = λ seen.
    let zones = zones_of c.args.zones.now in
    IfOk-weaker c.refused_report.result _ _
    (λ t h. (
      item_refused zones seen c.args.bytes.now c.args.refusal.now
          (IsItemAnswer c.args.check.now zones c.args.bytes.now (outcome_of t.answer)) c.requires h.0,
      item_refused zones seen c.args.bytes.now c.args.refusal.now
          (IsItemTold zones c.args.place c.args.bytes.now (view t.value)) c.requires
          (subst (λ (p : Data). IsItemData zones p c.args.bytes.now (view t.value)) c.place_value.ensures h.1),
    ))
    c.refused_report.ensures
