-- comes_last: its one clause where there is an entry, that the name is put at the end.
use Rattle.std.proofs.Common.{◌≡◌, ◌∙◌, sym}
use Rattle.std.specs.declared.cmp.Ordering.TheVariants.{Greater}
use Rattle.cj_types.specs.LabelMap.{text_cmp}
use Rattle.cj_types.proofs.LabelEnds.{greater, put_last}
use Rattle.cj_types.proofs.labels.comes_last.Goals as goal

pub returns-in-Some : goal.returns-in-Some
returns-in-Some c = λ after v.
    let entry = c.in-Some.entry in
    let order : c.cmp.result ≡ text_cmp c.args.name.now entry.now.0 = cc (c.cmp.ensures, c.as_str.ensures) in
    let over : text_cmp c.args.name.now entry.now.0 ≡ Greater = sym order
    ∙ greater c.cmp.result (sym c.is_gt.ensures ∙ after) in
    put_last c.args.name.now v c.args.items.now entry.now (sym c.in-Some.ensures.value) over c.requires.sorted
