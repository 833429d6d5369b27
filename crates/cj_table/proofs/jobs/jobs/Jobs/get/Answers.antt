-- Jobs::get: its clauses, of a key that has a slot and of one that has none.
use Rattle.std.proofs.Common.{option_copied, sym, ap, ◌∙◌}
use Rattle.std.specs.Option.{option_and_then}
use Rattle.std.specs.FinMap as map
use Rattle.cj_types.specs.Keys.{place_cmp}
use Rattle.cj_types.specs.declared.job.Job.{Job}
use Rattle.cj_table.specs.jobs.Slots.{job_at}
use Rattle.cj_table.proofs.JobsLemmas.Standing.{get_jobs}
use Rattle.cj_table.proofs.JobsLemmas.Updates.{keyed_there}
use Rattle.cj_table.proofs.jobs.jobs.Jobs.get.Goals as goal

pub returns-in_err-slot-clause-value : goal.returns-in_err-slot-clause-value
returns-in_err-slot-clause-value c =
    ap option_copied c.from_residual.ensures
    ∙ ap (option_and_then (job_at c.self.inside.slots)) c.in_err-slot.ensures
    ∙ sym (get_jobs c.self.inside.table c.self.inside.slots c.args.key.now)
    ∙ ap (λ (m : map.FinMap place_cmp Job). map.get m c.args.key.now) c.self.view_is

pub returns-clause-value : goal.returns-clause-value
returns-clause-value c =
    c.get-2.ensures
    ∙ ap (option_and_then (job_at c.self.inside.slots)) c.in_ok-slot.ensures
    ∙ sym (get_jobs c.self.inside.table c.self.inside.slots c.args.key.now)
    ∙ ap (λ (m : map.FinMap place_cmp Job). map.get m c.args.key.now) c.self.view_is

pub returns-clause-keyed : goal.returns-clause-keyed
returns-clause-keyed c =
    keyed_there c.get-2.result (job_at c.self.inside.slots c.in_ok-slot.slot.now) c.args.key.now c.get-2.ensures
    (c.self.invariant.keyed c.args.key.now c.in_ok-slot.slot.now (sym c.in_ok-slot.ensures))
