-- comes_to_rest: its loop, before the first entry and with one entry more, and its clause.
use Rattle.std.proofs.Common.{true, take, ap, arith}
use mathlib.Core.List.{reverse}
use Rattle.cj_run.specs.declared.turns.Progress.{Progress}
use Rattle.cj_run.proofs.Kept.{look_none, look_on, rests_whole}
use Rattle.cj_run.proofs.upkeep.comes_to_rest.Goals as goal

pub loop-entry-init : goal.loop-entry-init
loop-entry-init c = record {
  short = omega (arith, ap (λ (p : Progress). p.begun) c.new.ensures);
  looks = look_none c.args.span.now
      (record { progress = c.new.result; work = c.new-2.result; untaken = c.new-3.result; kept = true })
      c.new.ensures c.new-2.ensures.queue c.new-2.ensures.hands c.new-3.ensures;
}

pub loop-entry-preserved : goal.loop-entry-preserved
loop-entry-preserved c = record {
  short = omega (arith, c.in_ok-see.ensures.short, c.loop-entry.invariant.short);
  looks = look_on c.args.span.now c.loop-entry.entry-index c.args.entries.now c.entry-item.result c.see.new.self
      c.loop-entry-test.true c.entry-item.is
      (c.in_ok-see.ensures.ok (reverse (take c.loop-entry.entry-index c.args.entries.now))
      c.loop-entry.invariant.looks);
}

pub returns : goal.returns
returns c =
    let end = c.loop-entry-test.false in
    rests_whole c.args.span.now c.loop-entry.entry-index c.args.entries.now c.loop-entry.upkeep (omega (arith, end))
    c.loop-entry.invariant.looks
