-- count_one: its clause roles, that each pass keeps its role.
use Rattle.std.proofs.Common.{ap}
use Rattle.std.proofs.Math.Seq.{map-set_same}
use Rattle.cj_hub.proofs.book.count_one.Goals as goal

pub returns-clause-roles : goal.returns-clause-roles
returns-clause-roles c =
    map-set_same (λ s. s.role) c.args.enrolled.now.items c.args.number _ c.index_mut.result.now
    (ap (λ s. s.role) c.index_mut.ensures.value)
