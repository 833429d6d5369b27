-- first_since_change: that since may be called, and its clause same where a change is found.
use Rattle.std.proofs.Common.{arith, ap, sym, refl, ◌∙◌, pos, ◌-◌}
use Rattle.std.specs.Prelude.{int_div}
use Rattle.jiff_core.proofs.SignedLemmas.{signed_arith}
use Rattle.jiff_tz.specs.PosixRule.{transition_view}
use Rattle.jiff_tz.specs.Tzif as Table
use Rattle.jiff.specs.ZoneView.{plain_transition}
use Rattle.cj_zone.proofs.TablesLemmas.{count_same_back, early_row, floor_previous, back_early, back_late, previous_in, no_previous, change_of}
use Rattle.cj_zone.proofs.changes.first_since_change.Goals as goal

pub since-requires : goal.since-requires
since-requires c =
    let z = c.args.tables.now in
    let found = ap change_of (sym c.in-Some.is) ∙ previous_in c.next.result c.args.tables
    c.from_plain-instant.result.nanosecond _ _ c.next.ensures.steps
    (c.preceding.ensures ∙ rw c.tzif.ensures refl) in
    let is = floor_previous z c.args.at c.from_plain-instant.result.nanosecond c.as_second.result
    (transition_view (plain_transition c.in-Some.change)) c.requires
    (rw c.from_plain-instant.ensures c.second_after.ensures) found
    (c.as_second.ensures ∙ ap (λ i. int_div i.nanosecond (pos 1_000_000_000)) c.timestamp.ensures) in
    back_early (Table.transition_at z (Table.count_at z (pos c.args.at) - 1)) c.as_second.result c.args.at is.1
    (early_row z c.args.at (Table.count_at z (pos c.args.at) - 1) (omega (arith, is.0)))

pub returns-in-Some-clause-same : goal.returns-in-Some-clause-same
returns-in-Some-clause-same c = λ t above within.
    let z = c.args.tables.now in
    let found = ap change_of (sym c.in-Some.is) ∙ previous_in c.next.result c.args.tables
    c.from_plain-instant.result.nanosecond _ _ c.next.ensures.steps
    (c.preceding.ensures ∙ rw c.tzif.ensures refl) in
    let is = floor_previous z c.args.at c.from_plain-instant.result.nanosecond c.as_second.result
    (transition_view (plain_transition c.in-Some.change)) c.requires
    (rw c.from_plain-instant.ensures c.second_after.ensures) found
    (c.as_second.ensures ∙ ap (λ i. int_div i.nanosecond (pos 1_000_000_000)) c.timestamp.ensures) in
    let late = back_late (Table.transition_at z (Table.count_at z (pos c.args.at) - 1)) c.as_second.result
    c.since.result is.1 c.since.ensures.above in
    count_same_back z t c.args.at c.requires (λ _. omega (arith, signed_arith)) within

pub returns-in-None-clause-same : goal.returns-in-None-clause-same
returns-in-None-clause-same c = λ t above within.
    let none = ap change_of (sym c.in-None.is) ∙ previous_in c.next.result c.args.tables
    c.from_plain-instant.result.nanosecond _ _ c.next.ensures.steps (c.preceding.ensures ∙ rw c.tzif.ensures refl) in
    count_same_back c.args.tables.now t c.args.at c.requires
    (λ some. absurd (no_previous c.args.tables.now c.args.at c.from_plain-instant.result.nanosecond
    (rw c.from_plain-instant.ensures c.second_after.ensures) none some)) within
