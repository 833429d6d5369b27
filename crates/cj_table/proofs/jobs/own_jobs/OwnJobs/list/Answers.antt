-- OwnJobs::list: its clause ok, as the Jobs pushed are those at all slots, which stand in the order of keys.
use Rattle.std.proofs.Common.{◌≡◌, ℕ, List, rules, ap, ◌∙◌}
use Rattle.std.specs.List.{filter_map}
use Rattle.std.specs.Map.{values_of}
use Rattle.std.specs.FinMap as map
use Rattle.std.proofs.lemmas.Result.{IfOk-weaker}
use Rattle.cj_types.specs.Keys.{place_cmp}
use Rattle.cj_table.specs.jobs.Slots.{job_at}
use Rattle.cj_table.proofs.Rows.{listed}
use Rattle.cj_table.proofs.jobs.own_jobs.OwnJobs.list.Goals as goal

pub returns-clause-ok : goal.returns-clause-ok
returns-clause-ok c =
    let at = job_at c.args.slots.now in
    let pushed : c.loop-slot.jobs.items ≡ filter_map at (values_of c.self.inside.rows.entries) = search rules in
    let slots = listed c.self.inside.rows.entries c.values-slot-items.ensures.ordered
    ∙ ap (λ (m : map.FinMap place_cmp ℕ). map.values m) c.self.view_is in
    IfOk-weaker c.new.result _ _ (λ l h. h ∙ pushed ∙ ap (λ (xs : List ℕ). filter_map at xs) slots) c.new.ensures.ok
