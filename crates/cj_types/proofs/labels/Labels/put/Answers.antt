-- Labels::put: the type's invariant, that the names rise, after a set and after an insert.
use Rattle.std.specs.Result.{is_ok}
use Rattle.cj_types.proofs.LabelPlaces.{set_keeps, insert_keeps}
use Rattle.cj_types.proofs.labels.Labels.put.Goals as goal

pub invariant_of-self : goal.invariant_of-self
invariant_of-self c =
    set_keeps c.args.name c.as_str.result.now c.args.value c.self.inside.items.items c.as_slice.result.now c.in-Ok.place
    c.as_str.ensures c.as_slice.ensures.value (c.in-Ok.ensures.found_put c.args.value) c.self.invariant

pub invariant_of-self-in-Err : goal.invariant_of-self-in-Err
invariant_of-self-in-Err c =
    insert_keeps (is_ok c.insert.result) c.args.name c.as_str.result.now c.args.value c.self.inside.items.items
    c.as_slice.result.now c.insert.new.self.items c.in-Err.place c.as_str.ensures c.as_slice.ensures.value
    (c.in-Err.ensures.absent_put c.args.value) c.insert.ensures.items c.self.invariant
