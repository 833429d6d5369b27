-- What a clock shows that keeps its offset, and the due times in the list of those that are left.
use Rattle.std.proofs.Common.{◌≡◌, ℕ, ◌+◌, ◌-◌, ◌*◌, ◌/◌, ◌%◌, ◌<◌, ◌≤◌, true, false, List, [], ◌∷◌, ◌++◌, Option, Some, IfSome, sym, ap, subst, ◌∙◌, arith, inl, inr, ℤ, pos, ◌+ℤ◌, w64}
use Rattle.std.specs.Int.{int_div_euclid}
use mir.Val.{to_z, of_z}
use Rattle.cj_base.specs.Instant.{last_second}
use Rattle.cj_schedule.specs.Matches.{Sets}
use Rattle.cj_schedule.specs.Next.{IsNext}
use Rattle.cj_zone.specs.Interval.{IsOneOf, IsOffsetInterval}
use Rattle.cj_zone.specs.Offset.{zone_offset}
use Rattle.cj_zone.specs.declared.zone.Zone.{Zone}
use Rattle.cj_due.specs.Due.{due, IsQuiet, IsLeastDue}
use Rattle.cj_due.specs.DueTimes.{due_times, IsSteadyClock, IsOnDay}
use Rattle.cj_due.specs.calendar.Minutes.{minute_in_day}
use Rattle.cj_due.specs.calendar.Shown.{day_at, minute_at}
use Rattle.cj_due.proofs.AheadLemmas.{due_ahead, from_bits, least_due, quiet_to}
use Rattle.cj_due.proofs.CalendarLemmas.ShownLemmas.{same_day_on, allowed_day}
use Rattle.cj_due.proofs.DueLemmas.{due-whole, IsQuietBelow, quiet_start}
use Rattle.cj_due.proofs.MissedLemmas.{missed_times-none, missed_times-one, missed_times-split}

-- the list
-- The first of the due times that are left is the least one, and the others are those after it.
pub due_times-next : (s : Sets) (z : Zone) (at end t : ℕ) → IsLeastDue s z at end t
    → due_times s z at end ≡ t ∷ due_times s z t end
due_times-next s z at end t h =
    missed_times-split s z at t end (omega (arith, h.above)) h.within
    ∙ ap (λ first. first ++ due_times s z t end) (missed_times-one s z at end t h)

-- Where nothing is due up to an instant between, those that are left are those after it.
pub due_times-skip : (s : Sets) (z : Zone) (at mid end : ℕ) → at ≤ mid → mid ≤ end → IsQuiet s z at mid
    → due_times s z at end ≡ due_times s z mid end
due_times-skip s z at mid end a b quiet =
    missed_times-split s z at mid end a b
    ∙ ap (λ first. first ++ due_times s z mid end) (missed_times-none s z at mid quiet)

-- the clock
-- Before the next minute in which the clock shows an allowed one nothing is due.
span_quiet_below : (s : Sets) (z : Zone) (at until base n : ℕ) → IsSteadyClock s z at until base → n ≤ until / 60 + 1
    → ((k : ℕ) → at / 60 + 1 ≤ k → k < n → minute_at s (base + k) ≡ false) → IsQuietBelow s z at (n * 60)
span_quiet_below s z at until base n clock within off =
    quiet_to s z at (at / 60 + 1) n (quiet_start s z at)
    (λ k above below. clock.shows k (omega arith) (omega arith) ∙ off k above below)

-- The next minute in which the clock shows an allowed one is the least due instant.
pub span_next : (s : Sets) (z : Zone) (at until base n t : ℕ) → IsSteadyClock s z at until base → t ≡ n * 60 → t ≤ until
    → at / 60 + 1 ≤ n → ((k : ℕ) → at / 60 + 1 ≤ k → k < n → minute_at s (base + k) ≡ false)
    → minute_at s (base + n) ≡ true → IsLeastDue s z at until t
span_next s z at until base n t clock e within above off on =
    least_due s z at until n t e above (omega arith)
    (span_quiet_below s z at until base n clock (omega arith) off)
    (clock.shows n (omega arith) (omega arith) ∙ on)

-- Where the clock shows no allowed minute any more, nothing is due as long as it keeps its offset.
pub span_quiet : (s : Sets) (z : Zone) (at until base : ℕ) → IsSteadyClock s z at until base
    → ((k : ℕ) → at / 60 + 1 ≤ k → k < until / 60 + 1 → minute_at s (base + k) ≡ false) → IsQuiet s z at until
span_quiet s z at until base clock off = λ t above below.
    (span_quiet_below s z at until base (until / 60 + 1) clock (omega arith) off).quiet t above (omega arith)

-- the day
-- The next allowed minute of the day in hand is the least due instant.
pub day_next : (s : Sets) (z : Zone) (at until base minute n t : ℕ) → IsSteadyClock s z at until base
    → IsOnDay s at base minute → IsNext (minute_in_day s) (minute + 1) n → n < 1_440 → t ≡ at + (n - minute) * 60
    → t ≤ until → IsLeastDue s z at until t
day_next s z at until base minute n t clock on next low e within =
    let place = on.place in
    let whole = on.whole in
    let above = next.above in
    let first : (base + (at / 60 + 1)) / 1_440 ≡ (base + at / 60) / 1_440 = omega arith in
    let after : (base + (at / 60 + 1)) % 1_440 ≡ minute + 1 = omega arith in
    let found : base + (at / 60 + (n - minute)) ≡ (base + at / 60) / 1_440 * 1_440 + n = omega arith in
    let shown = same_day_on s (base + (at / 60 + 1)) ((base + at / 60) / 1_440) n first on.allowed
    (subst (λ m. IsNext (minute_in_day s) m n) (sym after) next) low in
    span_next s z at until base (at / 60 + (n - minute)) t clock (omega arith) within (omega arith)
    (λ k above below. shown.least (base + k) (omega arith) (omega arith)) (ap (minute_at s) found ∙ shown.passes)

-- And it is on that day.
pub day_stays : (s : Sets) (at base minute n t : ℕ) → IsOnDay s at base minute → minute < n → n < 1_440
    → t ≡ at + (n - minute) * 60 → IsOnDay s t base n
day_stays s at base minute n t on above low e =
    let place = on.place in
    let whole = on.whole in
    let same : (base + t / 60) / 1_440 ≡ (base + at / 60) / 1_440 = omega arith in
    record { whole = omega arith; place = omega arith; allowed = ap (day_at s) same ∙ on.allowed }

-- A minute in which the clock shows an allowed one is on an allowed day.
pub day_of_minute : (s : Sets) (base n t : ℕ) → t ≡ n * 60 → minute_at s (base + n) ≡ true
    → IsOnDay s t base ((base + n) % 1_440)
day_of_minute s base n t e on =
    let same : t / 60 ≡ n = omega arith in
    record {
      whole = omega arith;
      place = ap (λ m. (base + m) % 1_440) same;
      allowed = ap (λ m. day_at s ((base + m) / 1_440)) same ∙ allowed_day s (base + n) on;
    }

-- an offset that is kept
-- One of two offsets that are the same is the first.
one_of_same : (one other offset : ℤ) → other ≡ one → IsOneOf one other offset → offset ≡ one
one_of_same one other offset e (inl h) = h
one_of_same one other offset e (inr h) = h ∙ e

-- While a clock keeps its offset, a minute is due where the clock shows an allowed one.
pub steady_due : (s : Sets) (z : Zone) (from last base k : ℕ) (one other : ℤ)
    → IsOffsetInterval (zone_offset z) one other from last → other ≡ one
    → pos base ≡ pos 6_295_085_280 +ℤ int_div_euclid (to_z w64 (of_z w64 one)) (pos 60) → from ≤ k * 60 → k * 60 ≤ last
    → k * 60 ≤ last_second → due s z (k * 60) ≡ minute_at s (base + k)
steady_due s z from last base k one other interval same b above within in_range =
    due_ahead s z k base one in_range interval.one_in
    (one_of_same one other (zone_offset z (k * 60)) same (interval.is_one_of (k * 60) above within))
    (from_bits base one interval.one_in b)

-- So it does up to the end of the search too.
pub steady_clock : (s : Sets) (z : Zone) (from at last until base : ℕ) (one other : ℤ)
    → IsOffsetInterval (zone_offset z) one other from last → other ≡ one
    → pos base ≡ pos 6_295_085_280 +ℤ int_div_euclid (to_z w64 (of_z w64 one)) (pos 60) → base ≤ 6_295_087_000
    → from ≤ at → until ≤ last → until ≤ last_second → IsSteadyClock s z at until base
steady_clock s z from at last until base one other interval same b high start within in_range = record {
  in_range = high;
  shows = λ k above below. steady_due s z from last base k one other interval same b (omega arith) (omega arith)
      (omega arith);
}

-- A due instant is on an allowed day of the clock.
pub day_of_due : (s : Sets) (z : Zone) (t last base : ℕ) (one other : ℤ)
    → IsOffsetInterval (zone_offset z) one other t last → other ≡ one
    → pos base ≡ pos 6_295_085_280 +ℤ int_div_euclid (to_z w64 (of_z w64 one)) (pos 60) → t ≤ last → t ≤ last_second
    → due s z t ≡ true → IsOnDay s t base ((base + t / 60) % 1_440)
day_of_due s z t last base one other interval same b within in_range here =
    let whole = due-whole s z t here in
    let minute : t ≡ t / 60 * 60 = omega arith in
    day_of_minute s base (t / 60) t minute
    (sym (steady_due s z t last base (t / 60) one other interval same b (omega arith) (omega arith) (omega arith))
    ∙ ap (due s z) (sym minute) ∙ here)

-- what is left
-- The least due instant up to one instant is the least one up to a later one.
least_up_to : (s : Sets) (z : Zone) (at until end t : ℕ) → until ≤ end → IsLeastDue s z at until t
    → IsLeastDue s z at end t
least_up_to s z at until end t le h =
    record { above = h.above; within = omega (arith, h.within); is_due = h.is_due; least = h.least }

-- The due times that are left are the least one and those after it.
pub left_next : (s : Sets) (z : Zone) (at until end t first : ℕ) (left : List ℕ) → due_times s z at end ≡ left
    → until ≤ end → IsLeastDue s z at until t → first ≡ t → left ≡ first ∷ due_times s z t end
left_next s z at until end t first left is le h e =
    sym is ∙ due_times-next s z at end t (least_up_to s z at until end t le h)
    ∙ ap (λ n. n ∷ due_times s z t end) (sym e)

-- They stay the same up to an instant before which nothing is due.
pub left_same : (s : Sets) (z : Zone) (at mid end : ℕ) (left : List ℕ) → due_times s z at end ≡ left → at ≤ mid
    → mid ≤ end → IsQuiet s z at mid → due_times s z mid end ≡ left
left_same s z at mid end left is a b quiet = sym (due_times-skip s z at mid end a b quiet) ∙ is

-- Where nothing is due up to the end, none are left.
pub left_none : (s : Sets) (z : Zone) (at end : ℕ) (left : List ℕ) → due_times s z at end ≡ left → IsQuiet s z at end
    → left ≡ []
left_none s z at end left is quiet = sym is ∙ missed_times-none s z at end quiet

-- From the end on none are left.
pub none_after : (s : Sets) (z : Zone) (at end : ℕ) → end ≤ at → due_times s z at end ≡ []
none_after s z at end le = missed_times-none s z at end (λ t above below. absurd (omega arith))

-- A clock that keeps its offset keeps it from later on.
pub clock_later : (s : Sets) (z : Zone) (at until base later : ℕ) → IsSteadyClock s z at until base → at ≤ later
    → IsSteadyClock s z later until base
clock_later s z at until base later clock le =
    record { in_range = clock.in_range; shows = λ k above within. clock.shows k (omega arith) within }

-- The least due instant that a search found.
pub least_of : (s : Sets) (z : Zone) (lo hi t : ℕ) (o : Option ℕ) → o ≡ Some t → IfSome o (λ n. IsLeastDue s z lo hi n)
    → IsLeastDue s z lo hi t
least_of s z lo hi t o e h = subst (λ found. IfSome found (λ n. IsLeastDue s z lo hi n)) e h
