-- split: its ensures where a mark is found and where none is, and each turn of its loop.
use Rattle.std.proofs.Common.{◌∙◌, sym, ap, refl, arith, drop, take, length, length-drop, ◌-◌, ◌+◌, append-nil}
use Rattle.std.proofs.lemmas.List.{take_all, drop_all}
use Rattle.cj_schedule.specs.Pieces.{is_mark}
use Rattle.cj_schedule.proofs.FirstSplits.{split_here, split_on, split_empty, after_front}
use Rattle.cj_schedule.proofs.text.split.Goals as goal

pub returns-then-is_at : goal.returns-then-is_at
returns-then-is_at c =
    let here = split_here (is_mark c.args.mark) c.args.text.now c.loop-i.i c.loop-i-test.true
    (sym c.is_at.ensures ∙ c.if-is_at.true) in
    let all = c.loop-i.invariant in
    let rest = take_all (length c.args.text.now - (c.loop-i.i + 1)) (drop (c.loop-i.i + 1) c.args.text.now)
    (simp length-drop (omega arith)) in
    rw rest (sym (all ∙ ap (after_front (take c.loop-i.i c.args.text.now)) here ∙ rw (append-nil) refl))

pub loop-i-preserved : goal.loop-i-preserved
loop-i-preserved c = split_on (is_mark c.args.mark) c.args.text.now c.loop-i.i _ c.loop-i-test.true
    (sym c.is_at.ensures ∙ c.if-is_at.false) c.loop-i.invariant

pub returns : goal.returns
returns c =
    let all = c.loop-i.invariant in
    let none = drop_all c.loop-i.i c.args.text.now c.loop-i-test.false in
    let whole = take_all c.loop-i.i c.args.text.now c.loop-i-test.false in
    sym (all ∙ rw (none, whole, split_empty, append-nil) refl)
