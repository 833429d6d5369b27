-- A clock goes by what `jiff` makes of its zone's source.
use Rattle.std.proofs.Common.{◌≡◌, to_z, of_z, w32, w64, FitsSigned, ℕ, zero, suc, ◌+◌, ◌-◌, ◌≤◌, ◌==◌, ℤ, pos, ◌*ℤ◌, int_le, Bool, true, false, if◌then◌else◌, refl, ap, ◌∙◌, arith, List, [], ◌∷◌, length, map, get_or, vec_len, Option, None, Some, IsNone, option_map}
use Rattle.std.specs.List.{prefix_len}
use Rattle.std.proofs.lemmas.List.{get_or-map, length-map}
use Rattle.std.proofs.lemmas.List.Sums.{prefix_len-le-length}
use Rattle.std.proofs.lemmas.Bool.Decides.{nat_tests}
use Rattle.std.proofs.lemmas.Int.{to_z-of_z}
use Rattle.jiff_core.proofs.SignedLemmas.{signed_arith}
use Rattle.jiff_core.specs.Timestamp.{IsOffsetSeconds}
use Rattle.jiff_core.specs.declared.Offset.{Offset}
use Rattle.jiff_tz.specs.PosixReader.{read_whole}
use Rattle.jiff_tz.specs.PosixRule as Posix
use Rattle.jiff_tz.specs.PosixRule.{match_some, rule_nanos, utc_window, in_window, dst_at_by}
use Rattle.jiff_tz.specs.PosixText.{tz_view, dst_view, day_time_view}
use Rattle.jiff_tz.specs.Tzif as Table
use Rattle.jiff_tz.specs.Tzif.{tzif_view, count_at, floor_second, no_transition, type_after}
use Rattle.jiff_tz.specs.TzifText.{transition_text, no_row}
use Rattle.jiff_tz.specs.Year.{year_of_nanos}
use Rattle.jiff_tz.specs.declared.posix.DayTime.{DayTime}
use Rattle.jiff_tz.specs.declared.posix.Dst.{Dst}
use Rattle.jiff_tz.specs.declared.posix.TimeZone.{TimeZone as PosixRule}
use Rattle.jiff_tz.specs.declared.tzif.Tzif.{Tzif}
use Rattle.jiff_tz.specs.declared.tzif.transition.Transition.{Transition}
use Rattle.cj_zone.specs.declared.rules.Rules.{Rules}
use Rattle.cj_zone.specs.declared.rules.Rules.TheVariants as Own
use Rattle.cj_zone.specs.declared.source.Source.{Source}
use Rattle.cj_zone.specs.declared.source.Source.TheVariants.{Utc, Rule, File}
use Rattle.cj_zone.specs.Clock.{rules_offset}
use Rattle.cj_zone.specs.Made.{IsClockOf, IsRuleClock}
use Rattle.cj_zone.specs.NamedSource.{NamedSource}
use Rattle.cj_zone.specs.Offset.{change_in, daylight_window, daylight_offset, rule_offset, rows_until, offset_after, file_offset, source_offset, zone_offset}

-- What a clock goes by gives an offset in range at each instant.
pub rules_offset-range : (rules : Rules) (t : ℕ) → IsOffsetSeconds (rules_offset rules t)
rules_offset-range Own.Utc t = (Prim.search, Prim.search)
rules_offset-range (Own.Posix rule) t = (Posix.offset_at rule (pos t *ℤ pos 1_000_000_000)).in_range
rules_offset-range (Own.Table table) t = (Table.offset_at table (pos t *ℤ pos 1_000_000_000)).in_range

-- a rule by its text
-- A change, by its text, falls where jiff says it does.
change_in-view : (year : ℤ) (d : DayTime) (ahead : ℤ) → change_in year (day_time_view d) ahead ≡ rule_nanos year d ahead
unfolding change_in rule_nanos
change_in-view year d ahead = refl

-- Daylight saving time, by the text, begins and ends where jiff says it does.
daylight_window-view : (std : Offset) (d : Dst) (year : ℤ) → daylight_window std.seconds (dst_view d) year
    ≡ utc_window d year std
unfolding daylight_window utc_window
daylight_window-view std d year = rw (
  change_in-view year d.rule.start std.seconds,
  change_in-view year d.rule.end d.offset.seconds,
) refl

-- For daylight_offset-view: to choose the offset or to choose its seconds is the same.
in_daylight : (std : Offset) (d : Dst) (b : Bool) → (if b then d.offset.seconds else std.seconds)
    ≡ (match_some (if b then Some d else None) std (λ d. d.offset)).seconds
in_daylight std d true = refl
in_daylight std d false = refl

-- The offset by the text is what jiff says, with daylight saving time or without.
daylight_offset-view : (std : Offset) (dst : Option Dst) (n : ℤ)
    → daylight_offset std.seconds (option_map dst_view dst) n
    ≡ (match_some (dst_at_by std dst n) std (λ d. d.offset)).seconds
daylight_offset-view std None n = refl
daylight_offset-view std (Some d) n =
    ap (λ w. if in_window w n then d.offset.seconds else std.seconds) (daylight_window-view std d (year_of_nanos n))
    ∙ in_daylight std d (in_window (utc_window d (year_of_nanos n) std) n)

-- The offset of a rule, by its text, is what jiff says.
pub rule_offset-view : (rule : PosixRule) (n : ℤ) → rule_offset (tz_view rule) n ≡ (Posix.offset_at rule n).seconds
rule_offset-view rule n = daylight_offset-view rule.std_offset rule.dst n

-- a file by its text
-- As many rows of the text lie at or before a second as of the table.
rows_until-view : (rows : List Transition) (second : ℤ) → rows_until (map transition_text rows) second
    ≡ prefix_len (λ (row : Transition). int_le row.second second) rows
rows_until-view [] second = refl
rows_until-view (row ∷ rows) second = ap (λ n. if int_le row.second second then 1 + n else 0)
    (rows_until-view rows second)

-- The offset after so many rows of the text is that of the table.
seconds_after-view : (z : Tzif) (count : ℕ) → count ≤ vec_len z.transitions
    → (if count == 0 then z.first.offset.seconds
    else (get_or (map transition_text z.transitions.items) (count - 1) no_row).after.seconds)
    ≡ (type_after z count).offset.seconds
seconds_after-view z zero h = refl
seconds_after-view z (suc k) h =
    let some : (suc k == 0) ≡ false = grind (arith, nat_tests) in
    let back : suc k - 1 ≡ k = omega arith in
    rw (some, back) (ap (λ row. row.after.seconds)
    (get_or-map transition_text z.transitions.items k (no_transition z) no_row (omega arith)))

-- For offset_after-view: after the last row, the rule of the text holds as that of the table.
by_rule : (b : Bool) (o : Option PosixRule) (type : Offset) (n : ℤ)
    → match_some (if b then option_map tz_view o else None) type.seconds (λ rule. rule_offset rule n)
    ≡ (match_some (if b then o else None) type (λ tz. Posix.offset_at tz n)).seconds
by_rule false o type n = refl
by_rule true None type n = refl
by_rule true (Some rule) type n = rule_offset-view rule n

-- The offset after so many rows, with the rule after the last, is what jiff says.
offset_after-view : (z : Tzif) (count : ℕ) (n : ℤ) → count ≤ vec_len z.transitions
    → offset_after (tzif_view z) count n ≡ (match_some (if count == vec_len z.transitions then z.posix_tz else None)
    (type_after z count).offset (λ tz. Posix.offset_at tz n)).seconds
offset_after-view z count n h =
    let same : length z.transitions.items ≡ vec_len z.transitions = omega arith in
    ap (λ size. match_some (if count == size then option_map tz_view z.posix_tz else None)
    (if count == 0 then z.first.offset.seconds
    else (get_or (map transition_text z.transitions.items) (count - 1) no_row).after.seconds)
    (λ rule. rule_offset rule n)) (length-map z.transitions.items transition_text ∙ same)
    ∙ ap (λ seconds. match_some (if count == vec_len z.transitions then option_map tz_view z.posix_tz else None) seconds
    (λ rule. rule_offset rule n)) (seconds_after-view z count h)
    ∙ by_rule (count == vec_len z.transitions) z.posix_tz (type_after z count).offset n

-- The offset of a file, by its text, is what jiff says.
pub file_offset-view : (z : Tzif) (n : ℤ) → file_offset (tzif_view z) n ≡ (Table.offset_at z n).seconds
file_offset-view z n =
    let most = prefix_len-le-length (λ (row : Transition). int_le row.second (floor_second n)) z.transitions.items in
    ap (λ count. offset_after (tzif_view z) count n) (rows_until-view z.transitions.items (floor_second n))
    ∙ offset_after-view z (count_at z (floor_second n)) n (omega arith)

-- A rule of which a clock is made can be read.
pub clock_read : (rule : List ℕ) (rules : Rules) → IsRuleClock rule rules → IsNone (read_whole rule) → ⊥
clock_read rule Own.Utc h none = h
clock_read rule (Own.Posix posix) h none = absurd (cc (h, none))
clock_read rule (Own.Table table) h none = h

-- so the source states what the clock does
pub source_offset-clock : (source : Source) (rules : Rules) (t : ℕ) → IsClockOf source rules
    → source_offset source (pos t *ℤ pos 1_000_000_000) ≡ rules_offset rules t
unfolding source_offset
source_offset-clock Utc Own.Utc t h = refl
source_offset-clock Utc (Own.Posix rule) t h = absurd h
source_offset-clock Utc (Own.Table table) t h = absurd h
source_offset-clock (Rule text) Own.Utc t h = absurd h
source_offset-clock (Rule text) (Own.Posix rule) t h = rw h (rule_offset-view rule (pos t *ℤ pos 1_000_000_000))
source_offset-clock (Rule text) (Own.Table table) t h = absurd h
source_offset-clock (File bytes) Own.Utc t h = absurd h
source_offset-clock (File bytes) (Own.Posix rule) t h = absurd h
source_offset-clock (File bytes) (Own.Table table) t h = rw h.0 (file_offset-view table (pos t *ℤ pos 1_000_000_000))

-- The offset of a zone, by what it was made of, is that of its clock.
pub zone_offset-clock : (zone : NamedSource) (rules : Rules) (t : ℕ) → IsClockOf zone.source rules
    → zone_offset zone t ≡ rules_offset rules t
zone_offset-clock zone rules t h = source_offset-clock zone.source rules t h

-- The offset of a zone is in range at each instant.
pub zone_offset-range : (zone : NamedSource) (rules : Rules) (t : ℕ) → IsClockOf zone.source rules
    → IsOffsetSeconds (zone_offset zone t)
zone_offset-range zone rules t h = rw (zone_offset-clock zone rules t h) (rules_offset-range rules t)

-- For offset_of: the seconds of an offset, in 32 bits and then in 64, are what they are.
pub wide_seconds : (s : ℤ) → IsOffsetSeconds s → to_z w64 (of_z w64 (to_z w32 (of_z w32 s))) ≡ s
wide_seconds s h =
    let narrow : FitsSigned w32 s = omega (arith, signed_arith) in
    let wide : FitsSigned w64 s = omega (arith, signed_arith) in
    ap (λ z. to_z w64 (of_z w64 z)) (to_z-of_z w32 s narrow) ∙ to_z-of_z w64 s wide
