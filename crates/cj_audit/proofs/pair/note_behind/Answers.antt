-- note_behind: its clause ok: where the Job reaches no further none of the rest makes a pair with it.
use Rattle.std.proofs.Common.{rules, ◌≡◌, ◌+◌, false, drop, subst, arith}
use Rattle.std.specs.List.{AllByRecursion}
use Rattle.cj_status.specs.Order.{IsRising}
use Rattle.cj_audit.specs.Pairs.{comes_before, reaches, IsPairNote}
use Rattle.cj_audit.specs.Notes.{AnyOf}
use Rattle.cj_audit.proofs.PairsIn.{none_behind}
use Rattle.cj_audit.proofs.Walks.{leads_step, leads_end, leads_done, rest_at, rising_drop, all_drop}
use Rattle.cj_audit.proofs.pair.note_behind.Goals as goal

pub returns-then-not-reaches-clause-ok : goal.returns-then-not-reaches-clause-ok
returns-then-not-reaches-clause-ok c =
    let xs = c.args.behind.now in
    let i = c.loop-second.second-index in
    let x = c.second-item.result in
    let p = c.args.pairing in
    let first = c.args.first.now in
    let rest = rest_at xs i x (omega arith) c.second-item.is in
    let far : reaches p first x ≡ false = search rules in
    let after = subst (λ ys. AllByRecursion (λ y. comes_before p y first ≡ false) ys) rest
    (all_drop (λ y. comes_before p y first ≡ false) xs i c.requires.0) in
    let rising = subst (λ ys. IsRising (comes_before p) ys) rest (rising_drop (comes_before p) xs i c.requires.1) in
    leads_end (AnyOf (IsPairNote p c.args.cron.now first)) xs i c.args.notes.now c.loop-second.notes
    (λ f h. none_behind p c.args.cron.now first x (drop (i + 1) xs) f far after.0 rising
    (subst (λ ys. AnyOf (IsPairNote p c.args.cron.now first) ys f) rest h)) c.loop-second.invariant

pub loop-second-preserved : goal.loop-second-preserved
loop-second-preserved c =
    let Q = AnyOf (IsPairNote c.args.pairing c.args.cron.now c.args.first.now) in
    leads_step Q (IsPairNote c.args.pairing c.args.cron.now c.args.first.now c.second-item.result) c.args.behind.now
    c.loop-second.second-index c.second-item.result c.args.notes.now c.loop-second.notes c.note_pair.new.notes
    (λ f h. h) (λ f h. h) (omega arith) c.second-item.is c.loop-second.invariant c.in_ok-note_pair.ensures.ok

pub returns-clause-ok : goal.returns-clause-ok
returns-clause-ok c =
    leads_done (AnyOf (IsPairNote c.args.pairing c.args.cron.now c.args.first.now)) c.args.behind.now
    c.loop-second.second-index c.args.notes.now c.loop-second.notes (λ f h. h) (omega arith) c.loop-second.invariant
