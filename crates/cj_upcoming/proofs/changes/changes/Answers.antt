-- changes: its loop and its ensures, interval by interval.
use Rattle.std.proofs.Common.{◌≡◌, ◌≤◌, ◌++◌, ◌∷◌, ◌+◌, ℕ, [], cond, ap, sym, subst, ◌∙◌, arith, append-nil}
use Rattle.cj_zone.specs.Offset.{zone_offset}
use Rattle.cj_upcoming.specs.Changes.{changes, is_change}
use Rattle.cj_upcoming.proofs.Places.{grows}
use Rattle.cj_upcoming.proofs.Steady.{changes_none, changes_end, changes_step}
use Rattle.cj_upcoming.proofs.changes.changes.Goals as goal

pub returns-then-same-last : goal.returns-then-same-last
returns-then-same-last c =
    let z = c.args.zone.now in
    let at = c.loop-at.at in
    let same = c.same_until-same.result in
    let last = c.get-last.result in
    let items = c.loop-at.changes.items in
    let steady = subst (λ a. (t : ℕ) → a ≤ t → t ≤ same → zone_offset z t ≡ zone_offset z a) c.instant.ensures
    c.same_until-same.ensures.same in
    sym (append-nil items)
    ∙ ap (λ xs. items ++ xs) (sym (changes_none z at same last (omega (arith, c.if-same-last.true)) steady))
    ∙ c.loop-at.invariant

pub loop-at-preserved : goal.loop-at-preserved
loop-at-preserved c =
    let z = c.args.zone.now in
    let at = c.loop-at.at in
    let same = c.same_until-same.result in
    let last = c.get-last.result in
    let items = c.loop-at.changes.items in
    let steady = subst (λ a. (t : ℕ) → a ≤ t → t ≤ same → zone_offset z t ≡ zone_offset z a) c.instant.ensures
    c.same_until-same.ensures.same in
    let low = subst (λ a. a ≤ same) c.instant.ensures c.same_until-same.ensures.low in
    grows items c.push_if.new.changes.items (cond (is_change z (same + 1)) ((same + 1) ∷ []) [])
    (changes z (same + 1) last) (changes z c.args.after c.args.last)
    (c.in_ok-push_if.ensures ∙ ap (λ b. items ++ cond b ((same + 1) ∷ []) []) c.is_change.ensures)
    (ap (λ xs. items ++ xs) (sym (changes_step z at same last low (omega (arith, c.if-same-last.false)) steady))
    ∙ c.loop-at.invariant)

pub returns : goal.returns
returns c =
    let items = c.loop-at.changes.items in
    sym (append-nil items)
    ∙ ap (λ xs. items ++ xs)
    (sym (changes_end c.args.zone.now c.loop-at.at c.get-last.result (omega (arith, c.loop-at-test.false))))
    ∙ c.loop-at.invariant
