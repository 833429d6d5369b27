-- gaps_of: its clauses ok and whole, by what the history tells; and the samples.
use Rattle.std.proofs.Common.{List, sym, subst}
use mathlib.Core.List.{reverse}
use Rattle.cj_history.specs.declared.gaps.gap.Gap.{Gap}
use Rattle.cj_history.specs.gaps.Gaps.{AreGaps}
use Rattle.cj_history.specs.gaps.Whole.{MadeOrTold}
use Rattle.cj_history.proofs.GapsLemmas.Made.{made_or_told}
use Rattle.cj_history.proofs.GapsLemmas.Sample.{hour_is_gap, started_is_none, later_is_gap, edited_hour}
use Rattle.cj_history.proofs.GapsLemmas.Whole.{just_gaps, are_gaps}
use Rattle.cj_history.proofs.gaps.find.gaps_of.Goals as goal

pub returns-clause-ok : goal.returns-clause-ok
returns-clause-ok c =
    let a = hour_is_gap in
    let b = started_is_none in
    let d = later_is_gap in
    let e = edited_hour in
    let h = reverse c.args.entries.now in
    subst (λ (l : List Gap). AreGaps h l) (sym c.into_gaps.ensures)
    (are_gaps h c.in_ok-listed.listed
    (just_gaps c.in_ok-marks.marks h c.in_ok-listed.listed c.in_ok-marks.ensures.ok c.in_ok-listed.ensures.ok))

pub returns-clause-whole : goal.returns-clause-whole
returns-clause-whole c =
    let h = reverse c.args.entries.now in
    subst (λ (l : List Gap). MadeOrTold h l) (sym c.into_gaps.ensures)
    (made_or_told h c.in_ok-listed.listed
    (just_gaps c.in_ok-marks.marks h c.in_ok-listed.listed c.in_ok-marks.ensures.ok c.in_ok-listed.ensures.ok))
