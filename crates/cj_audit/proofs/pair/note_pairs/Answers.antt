-- note_pairs: its clause ok, since the pairs of Jobs are the same in any order of the list.
use Rattle.std.proofs.Common.{sym, subst}
use Rattle.std.specs.List.Sorted.{IsPermutation}
use Rattle.std.proofs.lemmas.Result.{on_ok_weaker}
use Rattle.cj_audit.specs.Notes.{IsPairIn}
use Rattle.cj_audit.proofs.Noting.{notes_as}
use Rattle.cj_audit.proofs.PairsIn.{pairs_moved, pairs_moved_back}
use Rattle.cj_audit.proofs.pair.note_pairs.Goals as goal

pub returns-clause-ok : goal.returns-clause-ok
returns-clause-ok c =
    let p = c.args.pairing in
    let cron = c.args.cron.now in
    let xs = c.args.runs.now.items in
    let ys = c.as_slice.result.now in
    let moved : IsPermutation xs ys = subst (λ zs. IsPermutation xs zs)
    (sym c.as_slice.ensures.value) c.sort.ensures.same in
    on_ok_weaker c.note_sorted.result
    (λ h. notes_as (IsPairIn p cron ys) (IsPairIn p cron xs) c.args.notes.now c.note_sorted.new.notes
    (λ f g. pairs_moved_back p cron xs ys f moved g)
    (λ f g. pairs_moved p cron xs ys f moved g) h) c.note_sorted.ensures.ok
