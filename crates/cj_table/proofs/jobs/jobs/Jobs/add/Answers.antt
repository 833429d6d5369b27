-- Jobs::add: its clause err where the table or the index can't grow, that the index agrees with the table and the
-- slots, and its clause ok.
use Rattle.std.proofs.Common.{◌≡◌, Some, None, ap, ◌∙◌, subst}
use Rattle.std.specs.FinMap as map
use Rattle.std.proofs.lemmas.Result.{IfOk-at_ok}
use Rattle.cj_types.specs.Keys.{Place, place_cmp}
use Rattle.cj_types.specs.declared.job.Job.{Job}
use Rattle.cj_table.specs.jobs.Slots.{jobs_of, Writes}
use Rattle.cj_table.specs.jobs.Index.{owner_of, Sets}
use Rattle.cj_table.proofs.JobsLemmas.Kept.{same_after, index_kept, jobs_kept, taken_back}
use Rattle.cj_table.proofs.JobsLemmas.Updates.{absent, index_added, jobs_added}
use Rattle.cj_table.proofs.jobs.jobs.Jobs.add.Goals as goal

pub returns-in-Err-clause-err : goal.returns-in-Err-clause-err
returns-in-Err-clause-err c =
    let same = same_after c.self.inside.slots c.put.new.self c.clear.new.self c.in_ok-slot.slot c.in_ok-owner.shared
    c.in_ok-slot.ensures.free c.in_ok-slot.ensures.ok c.clear.ensures in
    jobs_kept c.self.inside.table c.insert.new.self c.self.inside.slots c.clear.new.self c.in-Err.ensures.err same
    ∙ c.self.view_is

pub invariant_of-self-in-Err-put : goal.invariant_of-self-in-Err-put
invariant_of-self-in-Err-put c =
    let none : map.get (jobs_of c.self.inside.table c.self.inside.slots) c.args.job.key ≡ None =
    ap (λ (m : map.FinMap place_cmp Job). map.get m c.args.job.key) c.self.view_is ∙ c.requires in
    let key = IfOk-at_ok (λ k. k ≡ c.args.job.key) c.in_ok-owner.ensures.ok.1 c.key_of.ensures.ok in
    let put = c.in_default.ensures.ok ∙ ap (λ (k : Place). map.insert c.self.inside.table k c.in_ok-slot.slot) key in
    let same = same_after c.self.inside.slots c.put.new.self c.clear-in-Err-put.new.self c.in_ok-slot.slot
    c.in_ok-owner.shared c.in_ok-slot.ensures.free c.in_ok-slot.ensures.ok c.clear-in-Err-put.ensures in
    let back = taken_back c.self.inside.table c.insert.new.self c.remove.new.self c.args.job.key c.in_ok-slot.slot
    (absent c.self.inside.table c.self.inside.slots c.self.inside.index c.args.job.key c.self.invariant none) put
    (c.remove.ensures ∙ ap (λ (j : Job). map.remove c.insert.new.self j.key) c.deref-in-Err-put.ensures) in
    index_kept c.self.inside.table c.remove.new.self c.self.inside.slots c.clear-in-Err-put.new.self
    c.self.inside.index c.put-2.new.self c.self.invariant back same c.in-Err-put.ensures.err

pub returns-in-Err-put-clause-err : goal.returns-in-Err-put-clause-err
returns-in-Err-put-clause-err c =
    let none : map.get (jobs_of c.self.inside.table c.self.inside.slots) c.args.job.key ≡ None =
    ap (λ (m : map.FinMap place_cmp Job). map.get m c.args.job.key) c.self.view_is ∙ c.requires in
    let key = IfOk-at_ok (λ k. k ≡ c.args.job.key) c.in_ok-owner.ensures.ok.1 c.key_of.ensures.ok in
    let put = c.in_default.ensures.ok ∙ ap (λ (k : Place). map.insert c.self.inside.table k c.in_ok-slot.slot) key in
    let same = same_after c.self.inside.slots c.put.new.self c.clear-in-Err-put.new.self c.in_ok-slot.slot
    c.in_ok-owner.shared c.in_ok-slot.ensures.free c.in_ok-slot.ensures.ok c.clear-in-Err-put.ensures in
    let back = taken_back c.self.inside.table c.insert.new.self c.remove.new.self c.args.job.key c.in_ok-slot.slot
    (absent c.self.inside.table c.self.inside.slots c.self.inside.index c.args.job.key c.self.invariant none) put
    (c.remove.ensures ∙ ap (λ (j : Job). map.remove c.insert.new.self j.key) c.deref-in-Err-put.ensures) in
    jobs_kept c.self.inside.table c.remove.new.self c.self.inside.slots c.clear-in-Err-put.new.self back same
    ∙ c.self.view_is

pub invariant_of-self-in_default-put : goal.invariant_of-self-in_default-put
invariant_of-self-in_default-put c =
    let none : map.get (jobs_of c.self.inside.table c.self.inside.slots) c.args.job.key ≡ None =
    ap (λ (m : map.FinMap place_cmp Job). map.get m c.args.job.key) c.self.view_is ∙ c.requires in
    let owner = IfOk-at_ok (λ o. o ≡ owner_of c.args.job) c.in_ok-owner.ensures.ok.0 c.of.ensures.ok in
    let key = IfOk-at_ok (λ k. k ≡ c.args.job.key) c.in_ok-owner.ensures.ok.1 c.key_of.ensures.ok in
    let shared = IfOk-at_ok (λ j. j ≡ c.args.job) c.in_ok-owner.ensures.ok.2 c.share.ensures.ok in
    let put = c.in_default.ensures.ok ∙ ap (λ (k : Place). map.insert c.self.inside.table k c.in_ok-slot.slot) key in
    let writes = subst (λ j. Writes (Some j) c.self.inside.slots c.put.new.self c.in_ok-slot.slot) shared
    c.in_ok-slot.ensures.ok in
    let sets = subst (λ (j : Job). Sets (Some c.in_ok-slot.slot) c.self.inside.index c.put-2.new.self
    (owner_of c.args.job) j.key) c.deref.ensures
    (subst (λ o. Sets (Some c.in_ok-slot.slot) c.self.inside.index c.put-2.new.self o c.deref.result.now.key) owner
    c.in_default-put.ensures.ok) in
    index_added c.self.inside.table c.insert.new.self c.self.inside.slots c.put.new.self c.self.inside.index
    c.put-2.new.self c.args.job c.in_ok-slot.slot c.self.invariant none c.in_ok-slot.ensures.free writes put sets

pub returns-clause-ok : goal.returns-clause-ok
returns-clause-ok c =
    let key = IfOk-at_ok (λ k. k ≡ c.args.job.key) c.in_ok-owner.ensures.ok.1 c.key_of.ensures.ok in
    let shared = IfOk-at_ok (λ j. j ≡ c.args.job) c.in_ok-owner.ensures.ok.2 c.share.ensures.ok in
    let put = c.in_default.ensures.ok ∙ ap (λ (k : Place). map.insert c.self.inside.table k c.in_ok-slot.slot) key in
    let writes = subst (λ j. Writes (Some j) c.self.inside.slots c.put.new.self c.in_ok-slot.slot) shared
    c.in_ok-slot.ensures.ok in
    jobs_added c.self.inside.table c.insert.new.self c.self.inside.slots c.put.new.self c.self.inside.index c.args.job
    c.in_ok-slot.slot c.self.invariant c.in_ok-slot.ensures.free writes put
    ∙ ap (λ (m : map.FinMap place_cmp Job). map.insert m c.args.job.key c.args.job) c.self.view_is
