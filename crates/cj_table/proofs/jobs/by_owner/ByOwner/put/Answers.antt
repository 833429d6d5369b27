-- ByOwner::put: what the index has with the slot under an owner that has some, or under a new one, and that it stays as
-- it was where there is no memory.
use Rattle.std.proofs.Common.{ℕ, refl, ap, ◌∙◌}
use Rattle.std.specs.FinMap as map
use Rattle.cj_types.specs.Keys.{place_cmp}
use Rattle.cj_table.proofs.JobsLemmas.Stored.{put_in, kept_in, put_new}
use Rattle.cj_table.proofs.jobs.by_owner.ByOwner.put.Goals as goal

pub returns-in-Some-get_mut-clause-ok : goal.returns-in-Some-get_mut-clause-ok
returns-in-Some-get_mut-clause-ok c =
    let w = c.insert.new.self in
    let writes = (c.get_mut.follows.holds w).3 (rw (← c.in-Some-get_mut.ensures.value) refl) in
    put_in c.insert.result c.args.self.now c.self.inside.rows.entries (c.get_mut.follows.lender w).entries c.args.owner
    c.in-Some.owner c.in-Some-get_mut.own.now w _ _ _ c.self.view_is c.in-Some.is c.in-Some-get_mut.ensures.value
    writes.0 c.in_ok-key.ensures.ok c.insert.ensures.ok

pub returns-in-Some-get_mut-clause-err : goal.returns-in-Some-get_mut-clause-err
returns-in-Some-get_mut-clause-err c =
    let w = c.insert.new.self in
    let writes = (c.get_mut.follows.holds w).3 (rw (← c.in-Some-get_mut.ensures.value) refl) in
    kept_in c.insert.result c.args.self.now c.self.inside.rows.entries (c.get_mut.follows.lender w).entries
    c.in-Some.owner c.in-Some-get_mut.own.now w c.self.view_is c.in-Some-get_mut.ensures.value writes.0
    c.insert.ensures.err

pub returns-in-Ok-clause-ok : goal.returns-in-Ok-clause-ok
returns-in-Ok-clause-ok c =
    let w = c.insert-2.new.self in
    let writes = rw c.get_mut.follows.holds-at-none at c.in-Ok.ensures.updates in
    let put = c.in_ok-insert.ensures.ok
    ∙ ap (λ (m : map.FinMap place_cmp ℕ). map.insert m c.in_ok-key.key c.args.slot) c.new-own.ensures in
    put_new c.args.self.now c.self.inside.rows.entries c.insert-3.new.self.entries c.args.owner c.in-Some.owner w
    _ _ _ c.self.view_is c.in-Some.is c.in_default-get_mut.ensures.value writes.0 c.in_ok-key.ensures.ok put
