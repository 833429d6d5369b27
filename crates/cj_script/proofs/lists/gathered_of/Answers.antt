-- gathered_of: its clause err, what gather requires, and its loop's invariant.
use Rattle.std.proofs.Common.{◌≡◌, ◌≢◌, ◌≤◌, ◌∙◌, Err, ap, sym, subst}
use Rattle.serde_json.specs.Data.{items_depth}
use Rattle.serde_json.specs.Read.{max_depth}
use Rattle.serde_json.specs.View.{items_view}
use Rattle.cj_scenario.specs.declared.fault.SceneFault.TheVariants.{Memory}
use Rattle.cj_script.specs.Lists.{all_of}
use Rattle.cj_script.proofs.Deep.{depth_at}
use Rattle.cj_script.proofs.Drafted.{moved}
use Rattle.cj_script.proofs.Joins.{joins_value, stops_value}
use Rattle.cj_script.proofs.lists.gathered_of.Goals as goal

pub gather-requires : goal.gather-requires
gather-requires g c = record {
  flat = depth_at c.deref-value-items.result.now c.loop-value.value-index c.value-item.result max_depth
      c.loop-value-test.true c.value-item.is
      (subst (λ vs. items_depth (items_view vs) ≤ max_depth) (sym c.deref-value-items.ensures.value) c.requires.flat);
}

pub loop-value-preserved : goal.loop-value-preserved
loop-value-preserved g c =
    joins_value (g.R.Reads.said c.args.reader.now) c.deref-value-items.result.now c.loop-value.value-index
    c.value-item.result
    c.loop-value.gathered.items.items c.gather.new.gathered.items.items c.loop-value.gathered.fault
    c.gather.new.gathered.fault
    c.loop-value-test.true c.value-item.is c.in_ok-gather.ensures.ok
    ∙ c.loop-value.invariant

pub returns-in_err-gather-clause-err : goal.returns-in_err-gather-clause-err
returns-in_err-gather-clause-err g c =
    let said = g.R.Reads.said c.args.reader.now in
    moved c.from_residual.result c.in_err-gather.field-0.0 (λ e. e ≢ Memory
    → all_of said (items_view c.args.values.now.items) ≡ Err e)
    c.from_residual.ensures.1
    (λ ne. ap (λ vs. all_of said (items_view vs)) (sym c.deref-value-items.ensures.value) ∙ sym c.loop-value.invariant
    ∙ stops_value said c.deref-value-items.result.now c.loop-value.value-index c.value-item.result
    c.loop-value.gathered.items.items c.loop-value.gathered.fault c.in_err-gather.field-0.0
    c.loop-value-test.true c.value-item.is (c.in_err-gather.ensures.err ne))
