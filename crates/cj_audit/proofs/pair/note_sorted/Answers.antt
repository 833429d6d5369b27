-- note_sorted: what stands behind a Job of a rising list rises with it; its clause ok, as the pairs of each Job with
-- those behind it are all pairs.
use Rattle.std.proofs.Common.{◌∷◌, ◌+◌, drop, sym, subst, arith}
use Rattle.cj_status.specs.Order.{IsRising}
use Rattle.cj_audit.specs.Pairs.{comes_before, IsPairNote}
use Rattle.cj_audit.specs.Notes.{Notes, AnyOf, IsPairIn}
use Rattle.cj_audit.proofs.Noting.{notes_as}
use Rattle.cj_audit.proofs.PairsIn.{PairsFrom, pairs_to, pairs_back}
use Rattle.cj_audit.proofs.Walks.{leads_step, leads_done, from_place, rest_at, rising_drop}
use Rattle.cj_audit.proofs.pair.note_sorted.Goals as goal

pub note_behind-requires : goal.note_behind-requires
note_behind-requires c =
    let xs = c.args.runs.now in
    let i = c.loop-i.i in
    let x = c.index-runs-i.result in
    let rising = subst (λ ys. IsRising (comes_before c.args.pairing) ys)
    (rest_at xs i x (omega arith) c.index-runs-i.is)
    (rising_drop (comes_before c.args.pairing) xs i c.requires) in
    subst (λ ys. IsRising (comes_before c.args.pairing) (x ∷ ys)) (sym (from_place xs (i + 1))) rising

pub loop-i-preserved : goal.loop-i-preserved
loop-i-preserved c =
    let xs = c.args.runs.now in
    let i = c.loop-i.i in
    let x = c.index-runs-i.result in
    let P = IsPairNote c.args.pairing c.args.cron.now x in
    let gained = subst (λ ys. Notes (AnyOf P ys) c.loop-i.notes c.note_behind.new.notes) (from_place xs (i + 1))
    c.in_ok-note_behind.ensures.ok in
    leads_step (PairsFrom c.args.pairing c.args.cron.now) (AnyOf P (drop (i + 1) xs)) xs i x c.args.notes.now
    c.loop-i.notes c.note_behind.new.notes (λ f h. h) (λ f h. h)
    (omega arith) c.index-runs-i.is c.loop-i.invariant gained

pub returns-clause-ok : goal.returns-clause-ok
returns-clause-ok c =
    let p = c.args.pairing in
    let cron = c.args.cron.now in
    let xs = c.args.runs.now in
    notes_as (PairsFrom p cron xs) (IsPairIn p cron xs) c.args.notes.now c.loop-i.notes (λ f h. pairs_to p cron xs f h)
    (λ f h. pairs_back p cron xs f c.requires h)
    (leads_done (PairsFrom p cron) xs c.loop-i.i c.args.notes.now c.loop-i.notes (λ f h. h) (omega arith)
    c.loop-i.invariant)
