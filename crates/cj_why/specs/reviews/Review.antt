-- What is printed of each CronJob of a cluster at a moment: how many times it missed, and what its
-- next sync does.
use Rattle.std.specs.Prelude.{◌≡◌, ◌⊎◌, ℕ, ◌<◌, ◌≤◌, List, ◌++◌, codes, decimal, Option, None, Some}
use Rattle.cj_types.specs.declared.cron.CronJob.{CronJob}
use Rattle.cj_types.specs.Keys.{Place}
use Rattle.cj_schedule.specs.Grammar.{IsSchedule}
use Rattle.cj_schedule.specs.Matches.{Sets}
use Rattle.cj_zone.specs.declared.zone.Zone.{Zone}
use Rattle.cj_zone.specs.TimeText.{time_text_of}
use Rattle.cj_due.specs.declared.answer.Missed.{Missed}
use Rattle.cj_due.specs.declared.answer.Missed.TheVariants as Kind
use Rattle.cj_due.specs.Missed.{IsMissed}
use Rattle.cj_due.specs.Window.{window_of}
use Rattle.cj_decide.specs.declared.steps.Steps.{Steps}
use Rattle.cj_decide.specs.Decision.{IsPlan}
use Rattle.cj_cluster.specs.Content.{Content}
use Rattle.cj_cluster.specs.declared.cron.ClusterCron.{ClusterCron}
use Rattle.cj_why.specs.reviews.Lacking.{lines_for, never_line}
use Rattle.cj_why.specs.reviews.Seen.{found, lacking, listed, unknown}
use Rattle.cj_why.specs.reviews.ZoneFor.{zone_for}

-- ---- how many times were missed

-- `0` to `100`, or `more`
-- rule: why-lines
abbrev pub count_text : Missed → List ℕ
count_text Kind.None = codes "0"
count_text (Kind.Some count latest) = decimal count
count_text (Kind.Many latest) = codes "more"

-- the times since the lower end of those that count
pub record IsMissedSince (cron : CronJob) (s : Sets) (z : Zone) (now : ℕ) (missed : Missed)
    : Type 0 where
  pub past : window_of cron now < now
  pub counted : IsMissed s z (window_of cron now) now missed

-- no time counts yet
pub record IsMissedBefore (cron : CronJob) (now : ℕ) (missed : Missed) : Type 0 where
  pub early : now ≤ window_of cron now
  pub none : missed ≡ Kind.None

abbrev pub IsTextMissed : CronJob → Zone → ℕ → Missed → Type 0
IsTextMissed cron z now missed =
    ((s : Sets) × IsSchedule cron.spec.schedule s
    × (IsMissedBefore cron now missed ⊎ IsMissedSince cron s z now missed))
    ⊎ (((s : Sets) → IsSchedule cron.spec.schedule s → ⊥) × (missed ≡ Kind.None))

-- without a zone nothing is known of the times
-- rule: why-lines
abbrev pub IsMissedOf : CronJob → Option Zone → ℕ → Missed → Type 0
IsMissedOf cron None now missed = missed ≡ Kind.None
IsMissedOf cron (Some z) now missed = IsTextMissed cron z now missed

-- ---- the lines

-- `cron NAMESPACE/NAME missed COUNT since TIME`
-- rule: why-lines
abbrev pub head_line : Place → List ℕ → ℕ → List ℕ
head_line key count since =
    codes "cron "
    ++ (key.namespace
    ++ (codes "/" ++ (key.name ++ (codes " missed " ++ (count ++ (codes " since "
    ++ (time_text_of since ++ codes "\n")))))))

-- of one CronJob: that line, what keeps it from ever starting a Job, the Jobs that the list lacks,
-- and the lines of its one plan, where that doesn't rest on them
-- rules: why-lines, why-lacks, why-never
pub record IsCronReview (zones : List Zone) (content : Content) (now : ℕ) (c : ClusterCron)
    (text : List ℕ) : Type 0 where
  pub missed : Missed
  pub counted : IsMissedOf c.cron (zone_for c.cron.spec.time_zone zones) now missed
  pub steps : Steps
  pub planned : IsPlan (Some c.cron) (listed content c) (found content c) now
      (zone_for c.cron.spec.time_zone zones) steps
  pub are : text ≡ head_line c.cron.key (count_text missed) (window_of c.cron now)
      ++ (never_line c.marks c.cron.spec steps.next
      ++ lines_for c.marks (lacking content c) (unknown content c) c.cron.spec.policy steps)
