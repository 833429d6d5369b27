-- Families::of: its loop goes on with a gap more, and no tally gets too large.
use Rattle.std.proofs.Common.{◌≡◌, ◌∙◌, ◌+◌, ◌++◌, ◌∷◌, [], take, ap, sym, subst, arith}
use Rattle.std.proofs.lemmas.Grind.{common_steps}
use Rattle.std.proofs.lemmas.List.{take_more}
use Rattle.cj_history.specs.declared.gaps.gap.Gap.{Gap}
use Rattle.cj_program.specs.remarks.Families.{IsCounted, kind_of}
use Rattle.cj_program.proofs.Counted.{count_short}
use Rattle.cj_program.proofs.remarks.families.Families.of.Goals as goal

pub note-requires : goal.note-requires
note-requires c =
    let gaps = take c.loop-gap.gap-index c.args.gaps.now in
    let short = count_short c.loop-gap.families (kind_of c.gap-item.result) gaps c.loop-gap.invariant in
    grind (arith, common_steps, short)

pub loop-gap-preserved : goal.loop-gap-preserved
loop-gap-preserved c =
    let gaps = c.args.gaps.now in
    let gap = c.gap-item.result in
    let i = c.loop-gap.gap-index in
    let more : take i gaps ++ gap ∷ [] ≡ take (i + 1) gaps =
    sym (take_more gaps i gap c.loop-gap-test.true ∙ ap (λ (x : Gap). take i gaps ++ x ∷ []) (sym c.gap-item.is)) in
    subst (IsCounted c.note.new.self) more (c.in_ok-note.ensures.ok (take i gaps) c.loop-gap.invariant)
