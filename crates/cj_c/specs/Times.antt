-- What the exported functions answer that look for due times, by the definitions of `cj_due`.
use Rattle.std.specs.Prelude.{◌≡◌, ◌⊎◌, ℕ, ◌+◌, ◌<◌, ◌≤◌, List, [], ◌++◌, take, drop, length}
use Rattle.cj_base.specs.Instant.{last_second}
use Rattle.cj_due.specs.Due.{reach, missed_count, IsQuiet, IsLeastDue, IsLatestDue}
use Rattle.cj_due.specs.DueTimes.{due_times}
use Rattle.cj_c.specs.Status.{done, none, range}
use Rattle.cj_c.specs.declared.times.CronMissed.{CronMissed}
use Rattle.cj_c.specs.declared.timetable.Timetable.{Timetable}

-- the least due time after an instant and within 3,000 days; or there is none; or the instant is
-- out of range
-- rule: library-next
abbrev pub IsNextDue : Timetable → ℕ → ℕ → ℕ → ℕ → Type 0
IsNextDue t after old new status =
    ((status ≡ done) × IsLeastDue t.schedule t.zone after (after + reach) new)
    ⊎ (((status ≡ none) × IsQuiet t.schedule t.zone after (after + reach) × (new ≡ old))
    ⊎ ((status ≡ range) × (last_second < after) × (new ≡ old)))

-- one of two instants is out of range
abbrev pub IsPastEnd : ℕ → ℕ → Type 0
IsPastEnd lo hi = (last_second < lo) ⊎ (last_second < hi)

-- the first `count` due times after an instant and up to another, in order, at the beginning of a
-- buffer whose rest stays; all of them, unless the buffer is full
-- rule: library-next-many
pub record AreFirstDue (t : Timetable) (lo hi : ℕ) (old new : List ℕ) (count : ℕ) : Type 0 where
  pub room : count ≤ length old
  pub later : List ℕ
  pub are : due_times t.schedule t.zone lo hi ≡ take count new ++ later
  pub all : count < length old → later ≡ []
  pub stays : drop count new ≡ drop count old

-- those; or one of the two instants is out of range
-- rule: library-next-many
abbrev pub AreNextDue : Timetable → ℕ → ℕ → List ℕ → List ℕ → ℕ → ℕ → ℕ → Type 0
AreNextDue t lo hi old new counted count status =
    ((status ≡ done) × AreFirstDue t lo hi old new count)
    ⊎ ((status ≡ range) × IsPastEnd lo hi × (new ≡ old) × (count ≡ counted))

-- the greatest due time after an instant and up to another; or there is none; or one of them is out
-- of range
-- rule: library-previous
abbrev pub IsPreviousDue : Timetable → ℕ → ℕ → ℕ → ℕ → ℕ → Type 0
IsPreviousDue t lo hi old new status =
    ((status ≡ done) × IsLatestDue t.schedule t.zone lo hi new)
    ⊎ (((status ≡ none) × IsQuiet t.schedule t.zone lo hi × (new ≡ old))
    ⊎ ((status ≡ range) × IsPastEnd lo hi × (new ≡ old)))

-- none, given as 0; or their number, from 1 to 100, and the greatest; or more than 100, given as
-- 101, and the greatest
-- rule: library-missed
abbrev pub IsMissedTold : Timetable → ℕ → ℕ → CronMissed → Type 0
IsMissedTold t lo hi m =
    ((m.count ≡ 0) × (m.latest ≡ 0) × (missed_count t.schedule t.zone lo hi ≡ 0))
    ⊎ (((m.count ≡ missed_count t.schedule t.zone lo hi) × (0 < m.count) × (m.count ≤ 100)
    × IsLatestDue t.schedule t.zone lo hi m.latest)
    ⊎ ((m.count ≡ 101) × (100 < missed_count t.schedule t.zone lo hi)
    × IsLatestDue t.schedule t.zone lo hi m.latest))

-- rule: library-missed
abbrev pub IsMissedDue : Timetable → ℕ → ℕ → CronMissed → CronMissed → ℕ → Type 0
IsMissedDue t lo hi old new status =
    ((status ≡ done) × IsMissedTold t lo hi new)
    ⊎ ((status ≡ range) × IsPastEnd lo hi × (new ≡ old))
