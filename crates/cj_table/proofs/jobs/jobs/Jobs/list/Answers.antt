-- Jobs::list: its clause ok, as the Jobs pushed are those at all slots, which stand in the order of keys.
use Rattle.std.proofs.Common.{◌≡◌, ℕ, List, [], ◌++◌, append-nil, sym, ap, ◌∙◌}
use Rattle.std.specs.List.{filter_map}
use Rattle.std.specs.FinMap as map
use Rattle.std.proofs.lemmas.List.{nil_from_length}
use Rattle.std.proofs.lemmas.Result.{IfOk-weaker}
use Rattle.cj_types.specs.Keys.{place_cmp}
use Rattle.cj_types.specs.declared.job.Job.{Job}
use Rattle.cj_table.specs.jobs.Slots.{job_at}
use Rattle.cj_table.proofs.JobsLemmas.Standing.{values_jobs}
use Rattle.cj_table.proofs.jobs.jobs.Jobs.list.Goals as goal

pub returns-clause-ok : goal.returns-clause-ok
returns-clause-ok c =
    let at = job_at c.self.inside.slots in
    let done = c.loop-slot.jobs.items in
    let left = c.loop-slot.slot-iterator.rest in
    let none : left.items ≡ [] = nil_from_length left.items (sym left.ok.0 ∙ c.in-None.ensures.steps.0) in
    let slots = c.into_iter-slot-iterator.ensures.into_iter_gives.0 ∙ c.in_ok-slot-items.ensures.ok in
    let pushed = sym (append-nil done) ∙ ap (λ (xs : List ℕ). done ++ filter_map at xs) (sym none)
    ∙ c.loop-slot.invariant ∙ ap (λ (xs : List ℕ). filter_map at xs) slots in
    let all = pushed ∙ sym (values_jobs c.self.inside.table c.self.inside.slots)
    ∙ ap (λ (m : map.FinMap place_cmp Job). map.values m) c.self.view_is in
    IfOk-weaker c.new.result _ _ (λ l h. h ∙ all) c.new.ensures.ok
