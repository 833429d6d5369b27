-- find_place: its clause found_put, where the entry at the place has the name.
use Rattle.std.proofs.Common.{◌≡◌, sym}
use Rattle.std.specs.declared.cmp.Ordering.TheVariants.{Equal}
use Rattle.cj_types.specs.LabelMap.{text_cmp}
use Rattle.cj_types.proofs.LabelPlaces.{put_equal}
use Rattle.cj_types.proofs.labels.find_place.Goals as goal

pub returns-in-Equal-clause-found_put : goal.returns-in-Equal-clause-found_put
returns-in-Equal-clause-found_put c = λ v.
    let entry = c.index-items-i.result in
    let equal : text_cmp c.args.name.now entry.0 ≡ Equal = cc (c.cmp.ensures, c.as_str.ensures, c.in-Equal.is) in
    put_equal c.args.name.now v c.args.items.now c.loop-i.i entry c.loop-i-test.true (sym c.index-items-i.is) equal
    (c.loop-i.invariant v)
