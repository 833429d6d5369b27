-- Store::new: that the store with no object is sound, as the type's invariant asks for.
use Rattle.cj_store.proofs.Kept.{new_sound}
use Rattle.cj_store.proofs.store.Store.new.Goals as goal

pub invariant_of-result : goal.invariant_of-result
invariant_of-result c = new_sound _ _ c.new.ensures c.new-2.ensures
