-- ByOwner::list: its clause ok, of an owner that has Jobs and of one that has none.
use Rattle.std.proofs.Common.{ℕ, List, sym, ap, ◌∙◌}
use Rattle.std.specs.List.{filter_map}
use Rattle.std.specs.FinMap as map
use Rattle.std.proofs.lemmas.Result.{IfOk-weaker}
use Rattle.cj_table.specs.jobs.Slots.{Table, job_at}
use Rattle.cj_table.proofs.Rows.{no_values}
use Rattle.cj_table.proofs.JobsLemmas.Stored.{own_found}
use Rattle.cj_table.proofs.jobs.by_owner.ByOwner.list.Goals as goal

pub returns-in-Some-clause-ok : goal.returns-in-Some-clause-ok
returns-in-Some-clause-ok c =
    let own = own_found c.args.self.now c.self.inside.rows.entries c.args.owner.now _ c.self.view_is
    c.in-Some.ensures.value in
    IfOk-weaker c.list.result _ _
    (λ l h. h ∙ ap (λ (m : Table). filter_map (job_at c.args.slots.now) (map.values m)) (sym own)) c.list.ensures.ok

pub returns-in-None-clause-ok : goal.returns-in-None-clause-ok
returns-in-None-clause-ok c =
    let own = own_found c.args.self.now c.self.inside.rows.entries c.args.owner.now _ c.self.view_is
    c.in-None.ensures.value in
    let at = job_at c.args.slots.now in
    IfOk-weaker c.new-in-None.result _ _
    (λ l h. h ∙ c.new.ensures.items ∙ ap (λ (xs : List ℕ). filter_map at xs) no_values
    ∙ ap (λ (m : Table). filter_map at (map.values m)) (sym own))
    c.new-in-None.ensures.ok
