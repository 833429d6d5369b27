-- manifest_report: its ensures, by whether an item before is the object of this manifest.
use Rattle.std.proofs.Common.{◌∙◌, ap, sym, subst}
use Rattle.std.proofs.lemmas.Result.{IfOk-weaker}
use Rattle.serde_json.specs.Data.{Data}
use Rattle.serde_json.specs.View.{view}
use Rattle.cj_zone.specs.Table.{zones_of}
use Rattle.cj_answers.specs.Outcome.{outcome_of}
use Rattle.cj_check.specs.AsJson.{IsItemData, IsItemTold, taken_item}
use Rattle.cj_check.specs.CheckList.{IsItemAnswer}
use Rattle.cj_check.proofs.SeenItems.{item_free, item_taken}
use Rattle.cj_check.proofs.check_list.manifest_report.Goals as goal

pub returns-then-is_free : goal.returns-then-is_free
returns-then-is_free c = λ text reading.
    let zones = zones_of c.args.zones.now in
    let free = sym c.in_ok-is_free.ensures.free ∙ c.if-is_free.true in
    IfOk-weaker c.fine_report.result _ _
    (λ t h. (
      item_free zones c.args.seen.now c.add.new.self text c.args.manifest.now c.args.warnings.now
          (IsItemAnswer c.args.check.now zones text (outcome_of t.answer)) reading free c.in_ok-is_free.ensures.adds
          h.0,
      item_free zones c.args.seen.now c.add.new.self text c.args.manifest.now c.args.warnings.now
          (IsItemTold zones c.args.place text (view t.value)) reading free c.in_ok-is_free.ensures.adds
          (subst (λ (p : Data). IsItemData zones p text (view t.value)) c.place_value-place.ensures h.1),
    ))
    (c.fine_report.ensures text reading)

pub returns-in_ok-duplicate_report : goal.returns-in_ok-duplicate_report
returns-in_ok-duplicate_report c = λ text reading.
    let zones = zones_of c.args.zones.now in
    let taken = sym c.in_ok-is_free.ensures.free ∙ c.if-is_free.false in
    let report = c.in_ok-duplicate_report.field-0 in (
      item_taken zones c.args.seen.now c.add.new.self text c.args.manifest.now c.args.warnings.now
          (IsItemAnswer c.args.check.now zones text (outcome_of report.answer)) reading taken
          c.in_ok-is_free.ensures.adds
          c.in_ok-duplicate_report.ensures.0,
      item_taken zones c.args.seen.now c.add.new.self text c.args.manifest.now c.args.warnings.now
          (IsItemTold zones c.args.place text (view report.value)) reading taken c.in_ok-is_free.ensures.adds
          (c.in_ok-duplicate_report.ensures.1 ∙ ap taken_item c.place_value-place.ensures),
    )
