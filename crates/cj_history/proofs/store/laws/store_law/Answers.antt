-- store_law: its clause StoreLaw, that the store has what the writes left; and the samples.
use Rattle.cj_history.proofs.StoreLemmas.Stores.{store_agrees}
use Rattle.cj_history.proofs.StoreLemmas.Sample.{legal_again, none_then, another, three_writes, two_objects, knows_two}
use Rattle.cj_history.proofs.store.laws.store_law.Goals as goal

pub returns : goal.returns
returns c = let a = legal_again in let b = none_then in let d = another in let e = three_writes in let f
    = two_objects in let g = knows_two in store_agrees
