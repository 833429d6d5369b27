-- ByOwner::take: what the index has without the Job, where the owner has no Jobs, where it has no other, and where it
-- has others.
use Rattle.std.proofs.Common.{refl, ap}
use Rattle.cj_table.proofs.JobsLemmas.Stored.{absent_in, emptied_in, taken_in}
use Rattle.cj_table.proofs.jobs.by_owner.ByOwner.take.Goals as goal

pub returns-in_default-get_mut : goal.returns-in_default-get_mut
returns-in_default-get_mut c =
    absent_in c.args.self.now c.self.inside.rows.entries c.get_mut.follows.lender-at-none.entries c.args.owner
    c.in-Some.owner c.args.key.now c.self.view_is c.in-Some.is c.in_default-get_mut.ensures.value
    (ap (λ m. m.entries) c.get_mut.follows.holds-at-none)

pub returns-then-is_empty : goal.returns-then-is_empty
returns-then-is_empty c =
    let w = c.remove.new.self in
    let writes = (c.get_mut.follows.holds w).3 (rw (← c.in-Some-get_mut.ensures.value) refl) in
    emptied_in c.args.self.now c.self.inside.rows.entries (c.get_mut.follows.lender w).entries
    c.remove-then-is_empty.new.self.entries c.args.owner c.in-Some.owner c.in-Some-get_mut.own.now w c.args.key.now
    c.self.view_is c.in-Some.is c.in-Some-get_mut.ensures.value writes.0 c.remove.ensures
    (c.is_empty.ensures c.if-is_empty.true) c.remove-then-is_empty.ensures.updates.0

pub returns : goal.returns
returns c =
    let w = c.remove.new.self in
    let writes = (c.get_mut.follows.holds w).3 (rw (← c.in-Some-get_mut.ensures.value) refl) in
    taken_in c.args.self.now c.self.inside.rows.entries (c.get_mut.follows.lender w).entries c.args.owner
    c.in-Some.owner c.in-Some-get_mut.own.now w c.args.key.now c.self.view_is c.in-Some.is
    c.in-Some-get_mut.ensures.value writes.0 c.remove.ensures
