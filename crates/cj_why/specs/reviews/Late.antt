-- The times that came too late for a starting deadline: Kubernetes CronJob documentation, "Deadline
-- for delayed Job start".
use Rattle.std.specs.Prelude.{◌≡◌, ◌⊎◌, ℕ, ◌<◌, ◌≤◌, List, [], ◌++◌, codes, decimal, Option, None, Some, unwrap_or}
use Rattle.cj_types.specs.declared.cron.CronJob.{CronJob}
use Rattle.cj_schedule.specs.Grammar.{IsSchedule}
use Rattle.cj_schedule.specs.Matches.{Sets}
use Rattle.cj_zone.specs.declared.zone.Zone.{Zone}
use Rattle.cj_zone.specs.TimeText.{time_text_of}
use Rattle.cj_due.specs.declared.answer.Missed.{Missed}
use Rattle.cj_due.specs.declared.answer.Missed.TheVariants as Kind
use Rattle.cj_due.specs.Missed.{IsMissed}
use Rattle.cj_due.specs.Window.{window_of}
use Rattle.cj_why.specs.Since.{base_words}

-- the last scheduled time, and the creation before the first
abbrev pub base_of : CronJob → ℕ
base_of cron = unwrap_or cron.status.last_schedule_time cron.meta.created

-- the times after that, up to the moment less the deadline
-- rule: why-late
pub record IsLateSince (cron : CronJob) (s : Sets) (z : Zone) (now : ℕ) (late : Missed)
    : Type 0 where
  pub past : base_of cron < window_of cron now
  pub counted : IsMissed s z (base_of cron) (window_of cron now) late

-- the deadline takes none away
pub record IsInTime (cron : CronJob) (now : ℕ) (late : Missed) : Type 0 where
  pub whole : window_of cron now ≤ base_of cron
  pub none : late ≡ Kind.None

abbrev pub IsTextLate : CronJob → Zone → ℕ → Missed → Type 0
IsTextLate cron z now late =
    ((s : Sets) × IsSchedule cron.spec.schedule s
    × (IsInTime cron now late ⊎ IsLateSince cron s z now late))
    ⊎ (((s : Sets) → IsSchedule cron.spec.schedule s → ⊥) × (late ≡ Kind.None))

-- without a zone nothing is known of the times
-- rule: why-late
abbrev pub IsLateOf : CronJob → Option Zone → ℕ → Missed → Type 0
IsLateOf cron None now late = late ≡ Kind.None
IsLateOf cron (Some z) now late = IsTextLate cron z now late

-- ---- in words

abbrev pub late_count : List ℕ → List ℕ → List ℕ → List ℕ
late_count count base latest =
    codes "too late: " ++ (count ++ (codes " since " ++ (base ++ (codes ", the latest at "
    ++ (latest ++ codes ", as spec.startingDeadlineSeconds is past for them\n")))))

-- nothing where there are none
-- rule: why-late
abbrev pub late_words : Option ℕ → Missed → List ℕ
late_words last Kind.None = []
late_words last (Kind.Some count latest) =
    late_count (decimal count) (base_words last) (time_text_of latest)
late_words last (Kind.Many latest) =
    late_count (codes "more than 100") (base_words last) (time_text_of latest)
