-- Whether a Job is started, and for which time: Kubernetes CronJob documentation, "Schedule
-- suspension", "Time zones", "CronJob limitations" and "Concurrency policy".
use Rattle.std.specs.Prelude.{◌≡◌, ◌⊎◌, ℕ, ◌+◌, Bool, true, false, Option, None, Some}
use Rattle.cj_types.specs.declared.cron.CronJob.{CronJob}
use Rattle.cj_types.specs.declared.policy.Policy.{Policy}
use Rattle.cj_types.specs.declared.policy.Policy.TheVariants.{Allow, Forbid, Replace}
use Rattle.cj_types.specs.declared.policy.Reason.{Reason}
use Rattle.cj_types.specs.declared.policy.Reason.TheVariants.{UnknownTimeZone, JobAlreadyActive}
use Rattle.cj_schedule.specs.Matches.{Sets}
use Rattle.cj_schedule.specs.Grammar.{IsSchedule}
use Rattle.cj_zone.specs.declared.zone.Zone.{Zone}
use Rattle.cj_due.specs.declared.answer.Missed.{Missed}
use Rattle.cj_due.specs.declared.answer.Missed.TheVariants as Kind
use Rattle.cj_due.specs.Due.{reach, IsQuiet, IsLeastDue}
use Rattle.cj_due.specs.Missed.{IsMissed}
use Rattle.cj_due.specs.Window.{window_of}
use Rattle.cj_decide.specs.declared.start_decision.StartDecision.{StartDecision}

-- no Job is started
abbrev pub rests : Option Reason → Option ℕ → StartDecision
rests reason next = record { time = None; replaces = false; is_late = false; reason = reason; next = next }

-- a Job is started for a time; it replaces those that run, or not
abbrev pub starts : ℕ → Bool → Option ℕ → StartDecision
starts time replaces next = record { time = Some time; replaces = replaces; is_late = false; reason = None; next = next }

-- a start decision, marked that more than 100 times were missed
-- rule: too-many-missed
abbrev pub late : StartDecision → StartDecision
late v = record { time = v.time; replaces = v.replaces; is_late = true; reason = v.reason; next = v.next }

-- the start decision for a time, by the concurrency policy and by whether a Job of the CronJob runs
-- rule: decision-cases
abbrev pub by_policy : Policy → Bool → ℕ → Option ℕ → StartDecision
by_policy Forbid true time next = rests (Some JobAlreadyActive) next
by_policy Forbid false time next = starts time false next
by_policy Replace busy time next = starts time true next
by_policy Allow busy time next = starts time false next

-- the start decision by the times missed; however many they are, a Job is started for the latest
-- rule: too-many-missed
abbrev pub by_missed : Missed → Policy → Bool → Option ℕ → StartDecision
by_missed Kind.None policy busy next = rests None next
by_missed (Kind.Some count latest) policy busy next = by_policy policy busy latest next
by_missed (Kind.Many latest) policy busy next = late (by_policy policy busy latest next)

-- the least due time after now and within 3,000 days, if there is one
-- rule: next-of-plan
abbrev pub IsNext : Sets → Zone → ℕ → Option ℕ → Type 0
IsNext s z now None = IsQuiet s z now (now + reach)
IsNext s z now (Some t) = IsLeastDue s z now (now + reach) t

-- the start decision by the times missed since the window's lower end, and by the next due time
abbrev pub IsByTimes : CronJob → Sets → Zone → Bool → ℕ → StartDecision → Type 0
IsByTimes cron s z busy now v =
    (missed : Missed) × (next : Option ℕ) × IsMissed s z (window_of cron now) now missed
    × IsNext s z now next
    × (v ≡ by_missed missed cron.spec.policy busy next)

-- a text that isn't a schedule has no due times
abbrev pub IsByText : CronJob → Zone → Bool → ℕ → StartDecision → Type 0
IsByText cron z busy now v =
    ((s : Sets) × IsSchedule cron.spec.schedule s × IsByTimes cron s z busy now v)
    ⊎ (((s : Sets) → IsSchedule cron.spec.schedule s → ⊥) × (v ≡ rests None None))

-- without a zone the due times aren't known
abbrev pub IsByZone : CronJob → Option Zone → Bool → ℕ → StartDecision → Type 0
IsByZone cron None busy now v = v ≡ rests (Some UnknownTimeZone) None
IsByZone cron (Some z) busy now v = IsByText cron z busy now v

-- a suspended CronJob starts nothing
abbrev pub IsUnlessSuspended : Bool → CronJob → Option Zone → Bool → ℕ → StartDecision → Type 0
IsUnlessSuspended true cron z busy now v = v ≡ rests None None
IsUnlessSuspended false cron z busy now v = IsByZone cron z busy now v

-- the start decision on a CronJob, by the first of the cases that holds
-- rule: decision-cases
abbrev pub IsStartDecision : CronJob → Option Zone → Bool → ℕ → StartDecision → Type 0
IsStartDecision cron z busy now v = IsUnlessSuspended cron.spec.suspend cron z busy now v
