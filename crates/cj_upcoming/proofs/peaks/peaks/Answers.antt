-- peaks: its clauses, as the first of the minutes in order.
use Rattle.std.proofs.Common.{◌∙◌, ap, sym, subst, length}
use Rattle.std.specs.List.{All}
use Rattle.std.specs.List.Sorted.{IsPermutation}
use Rattle.std.proofs.lemmas.List.Elements.{All-take}
use Rattle.std.proofs.lemmas.List.Sorted.{All-permutation}
use Rattle.cj_upcoming.specs.Minutes.{minutes, IsPeaks, IsWithin}
use Rattle.cj_upcoming.proofs.Fullest.{first_are_peaks}
use Rattle.cj_upcoming.proofs.peaks.peaks.Goals as goal

pub returns-clause-peaks : goal.returns-clause-peaks
returns-clause-peaks c =
    let ms = minutes c.args.starts.now in
    let all = c.sort.new.minutes.items in
    let same = subst (λ xs. IsPermutation xs all) c.in_ok-all.ensures.same c.sort.ensures.same in
    let long = c.sort.ensures.long ∙ ap length c.in_ok-all.ensures.same in
    subst (λ xs. IsPeaks c.args.most ms xs) (sym c.truncate.ensures.items)
    (first_are_peaks c.args.most ms all same c.in_ok-sort.ensures.sorted long)

pub returns-clause-within : goal.returns-clause-within
returns-clause-within c =
    let P = IsWithin c.args.starts.now in
    let all = c.sort.new.minutes.items in
    subst (λ xs. All P xs) (sym c.truncate.ensures.items)
    (All-take P c.args.most all (All-permutation P c.in_ok-all.all.items all c.sort.ensures.same
    c.in_ok-all.ensures.within))
