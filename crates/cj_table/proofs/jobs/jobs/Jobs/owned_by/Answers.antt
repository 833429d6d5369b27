-- Jobs::owned_by: its clause ok, as the Jobs at the owner's slots are the CronJob's.
use Rattle.std.proofs.Common.{◌≡◌, ◌∙◌}
use Rattle.std.specs.List.{filter_map}
use Rattle.std.specs.FinMap as map
use Rattle.std.proofs.lemmas.Result.{IfOk-weaker}
use Rattle.cj_table.specs.jobs.Owners.{owned_by}
use Rattle.cj_table.specs.jobs.Slots.{job_at}
use Rattle.cj_table.specs.jobs.Index.{own_slots}
use Rattle.cj_table.proofs.JobsLemmas.Found.{found_owned}
use Rattle.cj_table.proofs.jobs.jobs.Jobs.owned_by.Goals as goal

pub returns-clause-ok : goal.returns-clause-ok
returns-clause-ok c =
    let e : filter_map (job_at c.self.inside.slots) (map.values (own_slots c.self.inside.index c.in_ok-owner.owner))
    ≡ owned_by c.args.self.now c.args.key.now =
    rw (c.in_ok-owner.ensures.ok, ← c.self.view_is)
    (found_owned c.self.inside.table c.self.inside.slots c.self.inside.index c.args.key.now c.self.invariant)
    in
    IfOk-weaker c.list.result _ _ (λ v h. h ∙ e) c.list.ensures.ok
