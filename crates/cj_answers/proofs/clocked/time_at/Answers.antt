-- time_at: its clause shown, part by part, and its clause none, by which test fails.
use Rattle.std.proofs.Common.{◌≡◌, ℤ, pos, ◌+ℤ◌, ◌*ℤ◌, ap, sym, subst, ◌∙◌, w64}
use Rattle.std.proofs.lemmas.Int.{to_z-of_z}
use Rattle.jiff_core.specs.DateTime.{civil_nanos}
use Rattle.jiff_core.specs.Timestamp.{nanos_of_seconds}
use Rattle.jiff_fmt.specs.Temporal.{parse_timestamp}
use Rattle.cj_answers.specs.Clocked.{IsWhole, IsWithin}
use Rattle.cj_answers.proofs.ClockedLemmas.{shown_reads, within_zone}
use Rattle.cj_answers.proofs.clocked.time_at.Goals as goal
use Rattle.cj_answers.proofs.clocked.time_at.Goals.{else-is_whole-via-then-is_whole+else-is_within, else-is_whole-via-else-is_whole}

pub returns-in_ok-shown_text-clause-shown : goal.returns-in_ok-shown_text-clause-shown
returns-in_ok-shown_text-clause-shown c =
    let whole : IsWhole c.offset_of-offset.result.seconds =
    subst IsWhole (sym c.offset_of-offset.ensures) (c.is_whole.ensures.0 c.if-is_whole.true) in
    record {
      shown = c.shown_at-shown.result;
      offset = c.offset_of-offset.result;
      clock = rw c.local.ensures at (c.is_within.ensures.0 c.if-is_within.true);
      instant = c.shown_at-shown.ensures.shown;
      whole = whole;
      says = c.in_ok-shown_text.ensures;
      reads = ap parse_timestamp c.in_ok-shown_text.ensures
          ∙ shown_reads c.args.time c.shown_at-shown.result c.offset_of-offset.result c.shown_at-shown.ensures.in_range
          whole c.shown_at-shown.ensures.shown;
    }

pub returns-else-is_whole-clause-none : goal.returns-else-is_whole-clause-none
returns-else-is_whole-clause-none c = λ none is whole.
    let same = to_z-of_z w64 c.args.seconds c.ranges.seconds in
    let shown = subst
    (λ s. civil_nanos c.shown_at-shown.result ≡ pos c.args.time *ℤ pos 1_000_000_000 +ℤ nanos_of_seconds s)
    (c.offset_of-offset.ensures ∙ same) c.shown_at-shown.ensures.shown in
    let within = within_zone c.args.zone.now c.args.time c.args.seconds c.shown_at-shown.result c.requires is shown in
    elim c.else-is_whole.branch [
      | else-is_whole-via-then-is_whole+else-is_within w ↦
          let yes = w.is_within.ensures.1
          (subst (λ civil. IsWithin civil c.shown_at-shown.result) (sym w.local.ensures) within) in
          cc (yes, w.if-is_within.false)
      | else-is_whole-via-else-is_whole w ↦
          cc (c.is_whole.ensures.1 (subst IsWhole (sym same) whole), w.if-is_whole.false)
    ]
