-- all_gaps_of: its clause ok, by what the history tells; and a sample.
use Rattle.std.proofs.Common.{◌∙◌, ap, List, ◌++◌}
use mathlib.Core.List.{reverse}
use Rattle.cj_history.specs.declared.gaps.gap.Gap.{Gap}
use Rattle.cj_history.proofs.GapsLemmas.Late.{all_gaps}
use Rattle.cj_history.proofs.GapsLemmas.Sample.{hour_is_late}
use Rattle.cj_history.proofs.gaps.late.all_gaps_of.Goals as goal

pub returns-clause-ok : goal.returns-clause-ok
returns-clause-ok c =
    let sample = hour_is_late in
    let h = reverse c.args.entries.now in
    let late = c.in_ok-late.late.items in
    all_gaps c.in_ok-marks.marks h c.in_ok-listed.listed late c.append.new.self.items c.args.at c.args.standing.now
    c.in_ok-marks.ensures.ok c.in_ok-listed.ensures.ok c.in_ok-late.ensures.ok
    (c.in_ok-append.ensures.items ∙ ap (λ (l : List Gap). l ++ late) c.into_gaps-gaps.ensures)
