-- list: before its loop nothing is listed, and its clause ok.
use Rattle.std.proofs.Common.{List, sym, subst, take_all, arith, ◌∙◌}
use mathlib.Core.List.{reverse}
use Rattle.cj_calls.specs.Rows.{Told}
use Rattle.cj_history.specs.gaps.reading.Known.{has}
use Rattle.cj_history.specs.gaps.reading.Listed.{AreListed}
use Rattle.cj_history.proofs.gaps.find.list.Goals as goal

pub loop-entry-init : goal.loop-entry-init
loop-entry-init c = record {
  covers = λ u x is. (let f = sym (c.new-intervals.ensures u) ∙ is in absurd (cc f));
  gaps = c.new-listed.ensures;
}

pub returns-clause-ok : goal.returns-clause-ok
returns-clause-ok c =
    subst (λ (es : List Told). AreListed (has c.args.marks.now) (reverse es) c.loop-entry.listed)
    (take_all c.loop-entry.entry-index c.args.entries.now (omega arith)) c.loop-entry.invariant.gaps
