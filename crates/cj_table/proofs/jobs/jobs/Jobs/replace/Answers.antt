-- Jobs::replace: that its key has a slot where a Job stands, the type's invariant, that the index and the table agree
-- with the slots with the Job in place of the old one, and its one clause.
use Rattle.std.proofs.Common.{◌≡◌, Some, ap, ◌∙◌}
use Rattle.std.specs.FinMap as map
use Rattle.cj_types.specs.Keys.{place_cmp}
use Rattle.cj_types.specs.declared.job.Job.{Job}
use Rattle.cj_table.specs.jobs.Slots.{jobs_of}
use Rattle.cj_table.specs.jobs.Owners.{owners_of}
use Rattle.cj_table.proofs.JobsLemmas.Updates.{stands, replaced_stands, index_replaced, jobs_replaced}
use Rattle.cj_table.proofs.jobs.jobs.Jobs.replace.Goals as goal

pub set-requires : goal.set-requires
set-requires c =
    let is = c.in-Some.ensures ∙ ap (λ (j : Job). map.get c.self.inside.table j.key) c.deref.ensures in
    stands c.self.inside.table c.self.inside.slots c.self.inside.index c.args.job.key c.in-Some.slot.now
    c.self.invariant is

pub invariant_of-self : goal.invariant_of-self
invariant_of-self c =
    let owners : owners_of (jobs_of c.self.inside.table c.self.inside.slots) c.args.job.key ≡ Some c.args.job.owners =
    ap (λ (m : map.FinMap place_cmp Job). owners_of m c.args.job.key) c.self.view_is ∙ c.requires in
    let is = c.in-Some.ensures ∙ ap (λ (j : Job). map.get c.self.inside.table j.key) c.deref.ensures in
    index_replaced c.self.inside.table c.self.inside.slots c.set.new.self c.self.inside.index c.args.job
    c.in-Some.slot.now c.self.invariant owners is c.set.ensures

pub unreachable-requires : goal.unreachable-requires
unreachable-requires c =
    let owners : owners_of (jobs_of c.self.inside.table c.self.inside.slots) c.args.job.key ≡ Some c.args.job.owners =
    ap (λ (m : map.FinMap place_cmp Job). owners_of m c.args.job.key) c.self.view_is ∙ c.requires in
    replaced_stands c.self.inside.table c.self.inside.slots c.args.job owners
    (c.in-None.ensures ∙ ap (λ (j : Job). map.get c.self.inside.table j.key) c.deref.ensures)

pub returns : goal.returns
returns c =
    let is = c.in-Some.ensures ∙ ap (λ (j : Job). map.get c.self.inside.table j.key) c.deref.ensures in
    jobs_replaced c.self.inside.table c.self.inside.slots c.set.new.self c.self.inside.index c.args.job
    c.in-Some.slot.now c.self.invariant is c.set.ensures
    ∙ ap (λ (m : map.FinMap place_cmp Job). map.insert m c.args.job.key c.args.job) c.self.view_is
