-- items_of: its clause refused, where an item can't be added, and its loop's invariant.
use Rattle.std.proofs.Common.{◌≡◌, [], ◌∷◌, ◌++◌, true, refl, ◌∙◌, rules}
use Rattle.std.specs.Result.{is_ok}
use Rattle.serde_json.specs.View.{view}
use Rattle.cj_scenario.proofs.Items.{handed_on, no_value, comes_on, adds_none}
use Rattle.cj_scenario.proofs.given.items_of.Goals as goal

pub loop-item-preserved : goal.loop-item-preserved
loop-item-preserved c =
    let job = c.in_ok-time.field-0 in
    let ok : is_ok c.push.result ≡ true = search rules in
    let pushed : c.push.new.self.items ≡ c.loop-item.jobs.items ++ job ∷ [] = c.push.ensures.items ∙ rw ok refl in
    comes_on c.deref-item-items.result.now c.loop-item.item-index c.item-item.result c.loop-item.jobs.items
    c.push.new.self.items job c.loop-item.minutes c.new_job.new.minutes
    c.loop-item-test.true c.item-item.is c.loop-item.invariant
    c.in_ok-time.ensures.ok c.in_ok-time.ensures.only c.in_ok-time.ensures.free c.in_ok-time.ensures.added pushed

pub returns-in_err-time-clause-refused : goal.returns-in_err-time-clause-refused
returns-in_err-time-clause-refused c =
    handed_on c.from_residual.result c.in_err-time.field-0.0 _ _
    (λ none.
    no_value c.args.items.now.items c.deref-item-items.result.now c.loop-item.item-index c.item-item.result
    c.loop-item.jobs.items
    c.deref-item-items.ensures.value c.loop-item-test.true c.item-item.is c.loop-item.invariant.0
    (adds_none c.loop-item.jobs.items (view c.item-item.result) c.loop-item.minutes c.loop-item.invariant.1 none))
    c.from_residual.ensures.1 c.in_err-time.ensures.refused
