-- Why a Job is started at a moment, or why not: Kubernetes CronJob documentation, "Schedule
-- suspension", "Time zones", "CronJob limitations" and "Concurrency policy".
use Rattle.std.specs.Prelude.{◌≡◌, ◌⊎◌, ℕ, ◌==◌, ◌<◌, ◌≤◌, Bool, true, false, List, ◌++◌, Option, None, Some, codes}
use Rattle.cj_types.specs.declared.cron.CronJob.{CronJob}
use Rattle.cj_types.specs.declared.policy.Policy.{Policy}
use Rattle.cj_types.specs.declared.policy.Policy.TheVariants.{Allow, Forbid, Replace}
use Rattle.cj_schedule.specs.Matches.{Sets}
use Rattle.cj_schedule.specs.Grammar.{IsSchedule}
use Rattle.cj_zone.specs.declared.zone.Zone.{Zone}
use Rattle.cj_zone.specs.TimeText.{time_text_of}
use Rattle.cj_status.specs.declared.refs.JobRef.{JobRef}
use Rattle.cj_status.specs.Refs.{has_any}
use Rattle.cj_due.specs.declared.answer.Missed.{Missed}
use Rattle.cj_due.specs.declared.answer.Missed.TheVariants as Kind
use Rattle.cj_due.specs.Missed.{IsMissed}
use Rattle.cj_due.specs.Window.{window_of}
use Rattle.cj_why.specs.Missed.{missed_words, no_window}
use Rattle.cj_why.specs.Running.{lacking_lines, lacks_any, running_lines}
use Rattle.cj_why.specs.Since.{since_words}

-- by the concurrency policy, whether a Job of the CronJob is known to run, and whether one may that
-- isn't known
-- rules: explain-why, why-lacks
abbrev pub start_by : Policy → Bool → Bool → List ℕ
start_by Forbid true lacks =
    codes "start: none, since spec.concurrencyPolicy is Forbid and a Job of it runs\n"
start_by Replace true lacks =
    codes "start: one, in place of those that run, since spec.concurrencyPolicy is Replace\n"
start_by Allow true lacks =
    codes "start: one, beside those that run, since spec.concurrencyPolicy is Allow\n"
start_by Forbid false true = codes "start: not known, since spec.concurrencyPolicy is Forbid and a Job that the list lacks may run\n"
start_by Replace false true = codes "start: one, in place of any that the list lacks, since spec.concurrencyPolicy is Replace\n"
start_by Allow false true =
    codes "start: one, beside any that the list lacks, since spec.concurrencyPolicy is Allow\n"
start_by policy false false = codes "start: one, since a time was missed and no Job of it runs\n"

abbrev pub start_words : Missed → Policy → Bool → Bool → List ℕ
start_words Kind.None policy busy lacks = codes "start: none, since no time was missed\n"
start_words (Kind.Some count latest) policy busy lacks = start_by policy busy lacks
start_words (Kind.Many latest) policy busy lacks = start_by policy busy lacks

-- what was missed, which Jobs run, which may, and what comes of it
abbrev pub told : List ℕ → List JobRef → List (List ℕ) → List ℕ → List ℕ
told missed running lacking start =
    missed ++ (running_lines running ++ (lacking_lines lacking ++ start))

-- no time at all is in time
-- rule: why-never
abbrev pub is_never : Option ℕ → Bool
is_never None = false
is_never (Some deadline) = deadline == 0

-- rule: why-never
abbrev pub never_in_time : List ℕ
never_in_time =
    codes "start: none, since spec.startingDeadlineSeconds is 0, so that no time is ever in time\n"

-- no time counts yet
pub record IsBefore (cron : CronJob) (running : List JobRef) (lacking : List (List ℕ)) (now : ℕ)
    (words : List ℕ) : Type 0 where
  pub early : now ≤ window_of cron now
  pub are : words ≡ told (no_window cron now) running lacking
      (codes "start: none, since no time was missed\n")

-- the times that were missed since the lower end of those that count
pub record IsSince (cron : CronJob) (s : Sets) (z : Zone) (running : List JobRef)
    (lacking : List (List ℕ)) (now : ℕ) (words : List ℕ) : Type 0 where
  pub past : window_of cron now < now
  pub missed : Missed
  pub counted : IsMissed s z (window_of cron now) now missed
  pub are : words ≡ told (missed_words missed (time_text_of (window_of cron now))
      (since_words cron now)) running lacking
      (start_words missed cron.spec.policy (has_any running) (lacks_any lacking))

abbrev pub IsTimesWhy : CronJob → Sets → Zone → List JobRef → List (List ℕ) → ℕ → List ℕ → Type 0
IsTimesWhy cron s z running lacking now words =
    IsBefore cron running lacking now words ⊎ IsSince cron s z running lacking now words

-- a text that isn't a schedule has no due times
abbrev pub IsTextWhy : CronJob → Zone → List JobRef → List (List ℕ) → ℕ → List ℕ → Type 0
IsTextWhy cron z running lacking now words =
    ((s : Sets) × IsSchedule cron.spec.schedule s × IsTimesWhy cron s z running lacking now words)
    ⊎ (((s : Sets) → IsSchedule cron.spec.schedule s → ⊥)
    × (words ≡ codes "start: none, since spec.schedule is no schedule\n"))

-- without a zone nothing is known of the times
abbrev pub IsZoneWhy : CronJob → Option Zone → List JobRef → List (List ℕ) → ℕ → List ℕ → Type 0
IsZoneWhy cron None running lacking now words =
    words ≡ codes "start: none, since no zone of the name in spec.timeZone is given\n"
IsZoneWhy cron (Some z) running lacking now words = IsTextWhy cron z running lacking now words

-- with a deadline of 0 no time is ever in time
-- rule: why-never
abbrev pub IsWhyUnlessNever : Bool → CronJob → Option Zone → List JobRef → List (List ℕ) → ℕ
    → List ℕ → Type 0
IsWhyUnlessNever true cron z running lacking now words = words ≡ never_in_time
IsWhyUnlessNever false cron z running lacking now words = IsZoneWhy cron z running lacking now words

-- a suspended CronJob starts nothing
abbrev pub IsWhyUnlessSuspended : Bool → CronJob → Option Zone → List JobRef → List (List ℕ) → ℕ
    → List ℕ → Type 0
IsWhyUnlessSuspended true cron z running lacking now words =
    words ≡ codes "start: none, since spec.suspend is true\n"
IsWhyUnlessSuspended false cron z running lacking now words =
    IsWhyUnlessNever (is_never cron.spec.starting_deadline_seconds) cron z running lacking now words

-- the first of these cases that holds, as the plan's own; `lacking` are the names of Jobs of which
-- the live read knows nothing
-- rule: explain-why
abbrev pub IsWhy : CronJob → Option Zone → List JobRef → List (List ℕ) → ℕ → List ℕ → Type 0
IsWhy cron z running lacking now words =
    IsWhyUnlessSuspended cron.spec.suspend cron z running lacking now words
