-- Between two changes of a rule, and within one year, its clock stays as far ahead as it is.
use Rattle.std.proofs.Common.{◌≡◌, ◌-ℤ◌, w8, FitsSigned, ℕ, ◌+◌, ◌-◌, ◌/◌, ◌≤◌, ◌&&◌, not, ◌≤ℤ◌, ◌<ℤ◌, ℤ, pos, ◌*ℤ◌, Bool, true, false, if◌then◌else◌, int_le, int_lt, Option, None, Some, option_map, vec_len, unsigned_abs, w64, inl, refl, sym, ap, ◌∙◌, arith}
use Rattle.std.specs.Prelude.{int_div}
use Rattle.std.specs.Int.{int_div_euclid}
use Rattle.std.proofs.lemmas.Int.{to_z-of_z}
use borrow.Author.Differences.{le-false, lt-true, lt-false}
use mir.Val.{to_z, of_z}
use Rattle.jiff_core.specs.Date.{epoch_day}
use Rattle.jiff_core.specs.Calendar.{days_in_month, days_from_civil}
use Rattle.jiff_core.specs.Timestamp.{IsTimestampNanos, IsOffsetSeconds}
use Rattle.jiff_core.specs.declared.Offset.{Offset}
use Rattle.jiff_core.specs.declared.civil.date.Date.{Date}
use Rattle.jiff_core.proofs.CalendarLemmas.{day_count-day, days_from_civil-day_count}
use Rattle.jiff_core.proofs.SignedLemmas.{signed_arith, signed_casts}
use Rattle.jiff_tz.specs.declared.info.OffsetInfo.{OffsetInfo}
use Rattle.jiff_tz.specs.declared.posix.Dst.{Dst}
use Rattle.jiff_tz.specs.declared.posix.TimeZone.{TimeZone as Rule}
use Rattle.jiff_tz.specs.PosixRule.{match_some, in_window, transition_of, utc_window, next_by, next_year, dst_at_by}
use Rattle.jiff_tz.specs.PosixRule as Posix
use Rattle.jiff_tz.specs.PosixRule.{transition_view}
use Rattle.jiff_tz.specs.Zone.{next_at}
use Rattle.jiff_tz.specs.declared.timezone.TimeZone.TheVariants as Kind
use Rattle.jiff.specs.Transitions.{Search, Steps, search_from}
use Rattle.jiff.specs.ZoneView.{plain_transition}
use Rattle.jiff.specs.declared.tz.transitions.TimeZoneTransition.{TimeZoneTransition}
use Rattle.jiff_tz.specs.Year.{year_of_day, year_of_nanos}
use Rattle.jiff_tz.proofs.TzifLemmas.{le_yes, le_no}
use Rattle.jiff_tz.proofs.YearLemmas.{year_of_day-date}
use Rattle.jiff_tz.specs.PosixText.{tz_view}
use Rattle.jiff_tz.specs.Tzif as Table
use Rattle.jiff_tz.specs.Tzif.{count_at, type_after}
use Rattle.jiff_tz.specs.declared.tzif.Tzif.{Tzif}
use Rattle.cj_zone.specs.Offset.{rule_offset}
use Rattle.cj_zone.specs.Steady.{IsSteady}
use Rattle.cj_zone.specs.Interval.{IsOffsetInterval}
use Rattle.cj_zone.proofs.ClockLemmas.{rule_offset-view}
use Rattle.cj_zone.proofs.TablesLemmas.{lt_yes, lt_no, offset_of_past, change_of, found_by}

-- on one side of both ends of a span, or between them
between_same : (lo hi n m : ℤ) (b c : Bool) → int_lt n lo ≡ b → int_lt n hi ≡ c → n ≤ℤ m → (b ≡ true → m <ℤ lo)
    → (b ≡ false → c ≡ true → m <ℤ hi)
    → (int_le lo n && int_lt n hi) ≡ (int_le lo m && int_lt m hi)
between_same lo hi n m true c e f le first second =
    let here = lt-true n lo e in
    let there = first refl in
    rw (le_no lo n (omega (arith, signed_arith)), le_no lo m there) refl
between_same lo hi n m false true e f le first second =
    let low = lt-false n lo e in
    let here = lt-true n hi f in
    let there = second refl refl in
    rw (
      le_yes lo n (omega (arith, signed_arith)),
      le_yes lo m (omega (arith, signed_arith)),
      lt_yes n hi (omega (arith, signed_arith)),
      lt_yes m hi there,
    ) refl
between_same lo hi n m false false e f le first second =
    let low = lt-false n lo e in
    let here = lt-false n hi f in
    rw (
      le_yes lo n (omega (arith, signed_arith)),
      le_yes lo m (omega (arith, signed_arith)),
      lt_no n hi (omega (arith, signed_arith)),
      lt_no m hi (omega (arith, signed_arith)),
    ) refl

-- A change of a rule's clock: its moment, and the offset after it.
abbrev Change : Type 0
Change = ℤ × OffsetInfo

-- For window_by: of two tests, the first that holds says which change was found.
first_of : (b c : Bool) (p q rest : Option Change) (x : Change) → Some x ≡ (if b then p else (if c then q else rest))
    → (b ≡ true → Some x ≡ p) × (b ≡ false → c ≡ true → Some x ≡ q)
first_of true c p q rest x e = (λ _. e, λ no. absurd cc)
first_of false true p q rest x e = (λ no. absurd cc, λ _ _. e)
first_of false false p q rest x e = (λ no. absurd cc, λ _ no. absurd cc)

-- For moment_of: what is made of a moment only under a test has that moment, where it is there.
moment_by : (b : Bool) (n : ℤ) (info : OffsetInfo) (x : Change) → Some x ≡ (if b then Some (n, info) else None)
    → x.0 ≡ n
moment_by true n info x e = let same : x ≡ (n, info) = cc in ap (λ (c : Change). c.0) same
moment_by false n info x e = absurd cc

-- A change that is looked up for a moment, and is there, comes at that moment.
moment_of : (tz : Rule) (d : Dst) (w : ℤ × ℤ) (n : ℤ) (x : Change) → Some x ≡ transition_of tz d w n → x.0 ≡ n
moment_of tz d w n x e = moment_by _ n _ x e

-- Up to the change that comes next, both moments lie in the span or neither does.
window_by : (tz : Rule) (d : Dst) (w : ℤ × ℤ) (n m : ℤ) (x : Change) (rest : Option Change) (lo hi : ℤ) → n ≤ℤ m
    → m <ℤ x.0
    → Some x ≡ (if int_lt n lo then transition_of tz d w lo
    else (if int_lt n hi then transition_of tz d w hi else rest))
    → (int_le lo n && int_lt n hi) ≡ (int_le lo m && int_lt m hi)
window_by tz d w n m x rest lo hi le before e =
    let found = first_of (int_lt n lo) (int_lt n hi) (transition_of tz d w lo) (transition_of tz d w hi) rest x e in
    between_same lo hi n m (int_lt n lo) (int_lt n hi) refl refl le
    (λ b. let at = moment_of tz d w lo x (found.0 b) in omega (arith, signed_arith))
    (λ b c. let at = moment_of tz d w hi x (found.1 b c) in omega (arith, signed_arith))

-- The same where the ends may stand the other way round, and the span is what is outside.
window_same : (tz : Rule) (d : Dst) (w : ℤ × ℤ) (n m : ℤ) (x : Change) (rest : Option Change) (b : Bool)
    → int_le w.0 w.1 ≡ b → n ≤ℤ m → m <ℤ x.0
    → Some x ≡ (if int_lt n (if b then w else (w.1, w.0)).0 then transition_of tz d w (if b then w else (w.1, w.0)).0
    else (if int_lt n (if b then w else (w.1, w.0)).1 then transition_of tz d w (if b then w else (w.1, w.0)).1
    else rest))
    → (if b then int_le w.0 n && int_lt n w.1 else not (int_le w.1 n && int_lt n w.0))
    ≡ (if b then int_le w.0 m && int_lt m w.1 else not (int_le w.1 m && int_lt m w.0))
window_same tz d w n m x rest true o le before e = window_by tz d w n m x rest w.0 w.1 le before e
window_same tz d w n m x rest false o le before e = ap not (window_by tz d w n m x rest w.1 w.0 le before e)

-- Up to a rule's next change, daylight saving time holds at both moments or at neither.
in_window_same : (tz : Rule) (d : Dst) (y n m : ℤ) (x : Change) → n ≤ℤ m → m <ℤ x.0 → Some x ≡ next_by tz d y n
    → in_window (utc_window d y tz.std_offset) n ≡ in_window (utc_window d y tz.std_offset) m
in_window_same tz d y n m x le before e = window_same tz d (utc_window d y tz.std_offset) n m x
    (next_year tz d y) _ refl le before e

-- For rule_steady: the same offset holds at both moments, with daylight saving time or without.
rule_by : (tz : Rule) (o : Option Dst) (n m : ℤ) (x : Change) → tz.dst ≡ o → n ≤ℤ m → m <ℤ x.0
    → year_of_nanos n ≡ year_of_nanos m → Some x ≡ match_some o None (λ d. next_by tz d (year_of_nanos n) n)
    → (match_some (dst_at_by tz.std_offset o m) tz.std_offset (λ d. d.offset)).seconds
    ≡ (match_some (dst_at_by tz.std_offset o n) tz.std_offset (λ d. d.offset)).seconds
rule_by tz None n m x is le before year e = refl
rule_by tz (Some d) n m x is le before year e =
    let same = in_window_same tz d (year_of_nanos n) n m x le before e in
    ap (λ y. (match_some (if in_window (utc_window d y tz.std_offset) m then Some d else None) tz.std_offset
    (λ (d : Dst). d.offset)).seconds) (sym year)
    ∙ ap (λ b. (match_some (if b then Some d else None) tz.std_offset (λ (d : Dst). d.offset)).seconds) (sym same)

-- Up to its next change, and within one year in UTC, a rule's offset stays.
pub rule_steady : (tz : Rule) (n m : ℤ) (x : Change) → n ≤ℤ m → m <ℤ x.0 → year_of_nanos n ≡ year_of_nanos m
    → Some x ≡ Posix.next_at tz n → (Posix.offset_at tz m).seconds ≡ (Posix.offset_at tz n).seconds
rule_steady tz n m x le before year e = rule_by tz tz.dst n m x refl le before year e

-- the days of a month lie in the year of the month
-- The day of an instant's nanoseconds is that of its seconds.
day_of_nanos : (t : ℕ) → int_div_euclid (pos t *ℤ pos 1_000_000_000) (pos 86_400_000_000_000) ≡ pos (t / 86_400)
day_of_nanos t = omega (arith, signed_arith)

-- An instant lies in the year of the date of its day.
pub year_of_date : (d : Date) (t : ℕ) → epoch_day d ≡ pos (t / 86_400) → year_of_nanos (pos t *ℤ pos 1_000_000_000)
    ≡ d.year
year_of_date d t e = ap year_of_day (day_of_nanos t ∙ sym e) ∙ year_of_day-date d

-- So many days on, within the month, the day number is greater by as many.
month_day : (d : Date) (day k : ℕ) → epoch_day d ≡ pos day → d.day + k ≤ days_in_month d.year d.month
    → days_from_civil d.year d.month (d.day + k) ≡ pos (day + k)
month_day d day k e within =
    let some = d.day_in.0 in
    let is : epoch_day d ≡ days_from_civil d.year d.month d.day = refl in
    let count = day_count-day d.year d.month d.day (d.day + k) some (omega arith) in
    let here = days_from_civil-day_count d.year d.month d.day in
    let there = days_from_civil-day_count d.year d.month (d.day + k) in
    omega (arith, signed_arith)

-- An instant so many days on, within the month, lies in the year of the date.
pub month_year : (d : Date) (at t k : ℕ) → epoch_day d ≡ pos (at / 86_400) → t / 86_400 ≡ at / 86_400 + k
    → d.day + k ≤ days_in_month d.year d.month → year_of_nanos (pos t *ℤ pos 1_000_000_000) ≡ d.year
month_year d at t k e place within =
    let some = d.day_in.0 in
    year_of_date (record {
      year = d.year;
      month = d.month;
      day = d.day + k;
      year_in = d.year_in;
      month_in = d.month_in;
      day_in = (omega arith, within);
    }) t
    (month_day d (at / 86_400) k e within ∙ ap pos (sym place))

-- A clock stays as it is from an instant up to the same instant.
pub steady_here : (f : ℕ → ℤ) (at last : ℕ) → last ≡ at → IsSteady f at last
steady_here f at last e = record {
  same = λ t above within.
      let is : t ≡ at = omega arith in
      ap f is;
}

-- A clock that from an instant on equals a steady one is steady.
pub steady_along : (f g : ℕ → ℤ) (at last : ℕ) → ((t : ℕ) → at ≤ t → f t ≡ g t) → IsSteady g at last → at ≤ last
    → IsSteady f at last
steady_along f g at last same h le = record {
  same = λ t above within. same t above ∙ h.same t above within ∙ sym (same at (omega arith));
}

-- past the tables the clock is the rule's
-- For past_is_rule: where the tables have this rule, by its text, the offset is the rule's.
by_view : (o : Option Rule) (r : Rule) (type : Offset) (n : ℤ) → Some (tz_view r) ≡ option_map tz_view o
    → (match_some o type (λ tz. Posix.offset_at tz n)).seconds ≡ (Posix.offset_at r n).seconds
by_view None r type n e = absurd cc
by_view (Some tz) r type n e =
    let same : tz_view r ≡ tz_view tz = cc in
    sym (rule_offset-view tz n) ∙ ap (λ view. rule_offset view n) (sym same) ∙ rule_offset-view r n

-- From the last transition on, the tables give the offset of their rule.
pub past_is_rule : (z : Tzif) (from t : ℕ) (r : Rule) → count_at z (pos from) ≡ vec_len z.transitions → from ≤ t
    → Some (tz_view r) ≡ option_map tz_view z.posix_tz → (Table.offset_at z (pos t *ℤ pos 1_000_000_000)).seconds
    ≡ (Posix.offset_at r (pos t *ℤ pos 1_000_000_000)).seconds
past_is_rule z from t r all le e =
    ap (λ (o : Offset). o.seconds) (offset_of_past z from t all le) ∙ by_view z.posix_tz r
    (type_after z (vec_len z.transitions)).offset (pos t *ℤ pos 1_000_000_000) e

-- a second before that of an instant lies before the instant, with the second as the code has it
pub second_before : (f n : ℤ) (at g t : ℕ) → f ≡ int_div n (pos 1_000_000_000) → IsTimestampNanos n → g ≡ at
    → g ≤ 253_370_764_799 → int_le (to_z w64 (of_z w64 f)) (to_z w64 g) ≡ false
    → t ≤ unsigned_abs (to_z w64 (of_z w64 f)) - 1
    → (pos t *ℤ pos 1_000_000_000) <ℤ n
second_before f n at g t floor range e most late within =
    let low = range.0 in
    let high = range.1 in
    let more = le-false (to_z w64 (of_z w64 f)) (to_z w64 g) late in
    omega (arith, signed_casts)

-- Where a clock is steady, it goes by the one offset that it has at the start.
pub one_clock : (f : ℕ → ℤ) (offset : ℤ) (at last : ℕ) → IsOffsetSeconds offset → offset ≡ f at → IsSteady f at last
    → IsOffsetInterval f offset offset at last
one_clock f offset at last range e h = record {
  one_in = range;
  other_in = range;
  is_one_of = λ t above within. inl (h.same t above within ∙ sym e);
}

-- For of_rule: what jiff finds from a rule's moment on is the rule's next change.
pub next_of : (r : Option TimeZoneTransition) (rule : Rule) (n : ℤ) (s t : Search) (x : TimeZoneTransition)
    → Steps next_at s r t → s ≡ search_from (Kind.Posix rule) n → r ≡ Some x
    → Some (transition_view (plain_transition x)) ≡ Posix.next_at rule n
unfolding next_at
next_of r rule n s t x steps from is =
    ap change_of (sym is) ∙ found_by next_at r (Kind.Posix rule) n s t steps from

-- For end_of_month: the days that are left of a month, as the code reckons them in 8 bits.
pub left_days : (days day : ℤ) (m n : ℕ) → days ≡ pos m → day ≡ pos n → n ≤ m → m ≤ 31
    → unsigned_abs (to_z w8 (of_z w8 (to_z w8 (of_z w8 days) -ℤ to_z w8 (of_z w8 day)))) ≡ m - n
left_days days day m n e f le most =
    let all : FitsSigned w8 (pos m) = omega (arith, signed_arith) in
    let gone : FitsSigned w8 (pos n) = omega (arith, signed_arith) in
    let left : FitsSigned w8 (pos m -ℤ pos n) = omega (arith, signed_arith) in
    let is : pos m -ℤ pos n ≡ pos (m - n) = omega (arith, signed_arith) in
    rw (
      e,
      f,
      to_z-of_z w8 (pos m) all,
      to_z-of_z w8 (pos n) gone,
      to_z-of_z w8 (pos m -ℤ pos n) left,
    ) (ap unsigned_abs is)
