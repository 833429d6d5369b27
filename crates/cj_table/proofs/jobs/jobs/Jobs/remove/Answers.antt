-- Jobs::remove: its clause ok of a key that has no slot, and the type's invariant, that the index without the slot
-- agrees with the table and the slots.
use Rattle.std.proofs.Common.{rules, sym, ap, ◌∙◌}
use Rattle.std.specs.FinMap as map
use Rattle.std.specs.Option.{option_and_then}
use Rattle.cj_types.specs.Keys.{place_cmp}
use Rattle.cj_types.specs.declared.job.Job.{Job}
use Rattle.cj_table.specs.jobs.Slots.{job_at}
use Rattle.cj_table.proofs.JobsLemmas.Standing.{get_jobs}
use Rattle.cj_table.proofs.JobsLemmas.Kept.{none_removed}
use Rattle.cj_table.proofs.JobsLemmas.Updates.{index_removed}
use Rattle.cj_table.proofs.jobs.jobs.Jobs.remove.Goals as goal

pub returns-in_default-clause-ok : goal.returns-in_default-clause-ok
returns-in_default-clause-ok c =
    let absent = c.in_default.ensures ∙ c.get.ensures in
    none_removed c.args.self.now c.args.key.now
    (ap (λ (m : map.FinMap place_cmp Job). map.get m c.args.key.now) (sym c.self.view_is)
    ∙ get_jobs c.self.inside.table c.self.inside.slots c.args.key.now
    ∙ ap (option_and_then (job_at c.self.inside.slots)) (sym absent))

pub invariant_of-self : goal.invariant_of-self
invariant_of-self c =
    index_removed _ _ _ _ _ _ _ _ _ c.self.invariant (c.in-Some.ensures ∙ c.get.ensures) c.in_ok-owner.ensures.ok
    c.take.ensures c.remove.ensures (search rules)
