-- In a word, why a CronJob starts a Job at a moment, or why not, and which CronJobs want a look:
-- Kubernetes CronJob documentation, "Schedule suspension", "Deadline for delayed Job start", "Time
-- zones" and "Concurrency policy".
use Rattle.std.specs.Prelude.{ℕ, ◌+◌, nat_lt, List, ◌&&◌, ◌||◌, not, Bool, true, false, if◌then◌else◌, Option, None, Some, codes, is_some}
use Rattle.std.specs.List.{list_any}
use Rattle.std.specs.FinMap as maps
use Rattle.cj_types.specs.declared.job.JobDraft.{JobDraft}
use Rattle.cj_types.specs.declared.policy.Reason.{Reason}
use Rattle.cj_types.specs.declared.policy.Reason.TheVariants as Cause
use Rattle.cj_status.specs.Refs.{has_any}
use Rattle.cj_due.specs.declared.answer.Missed.{Missed}
use Rattle.cj_due.specs.declared.answer.Missed.TheVariants as Kind
use Rattle.cj_decide.specs.declared.start.Claim.{Claim}
use Rattle.cj_decide.specs.declared.steps.Steps.{Steps}
use Rattle.cj_cluster.specs.Content.{Content, is_halted}
use Rattle.cj_cluster.specs.declared.cron.ClusterCron.{ClusterCron}
use Rattle.cj_why.specs.Running.{lacks_any}
use Rattle.cj_why.specs.Why.{is_never}
use Rattle.cj_why.specs.reviews.Lacking.{is_sure}
use Rattle.cj_why.specs.declared.reviews.verdict.Verdict.{Verdict}
use Rattle.cj_why.specs.declared.reviews.verdict.Verdict.TheVariants.{Deleting, LacksJobs, NameTaken, NeverDue, NeverInTime, NothingMissed, Replaces, SkippedRunning, Starts, Stuck, Suspended, TooLate, ZoneUnknown}

-- the list has a Job of the name that is made
abbrev pub is_taken : Content → Option JobDraft → Bool
is_taken content None = false
is_taken content (Some draft) = is_some (maps.get content.jobs draft.key)

abbrev pub is_skipped : Reason → Bool
is_skipped Cause.JobAlreadyActive = true
is_skipped Cause.UnknownTimeZone = false
is_skipped Cause.TooManyMissedTimes = false
is_skipped Cause.FailedCreate = false

-- a time was missed: whether the plan rests on Jobs that the list lacks, whether the name is taken,
-- and whether those that run go first
abbrev pub starting : Bool → Bool → Bool → Verdict
starting true taken replaces = LacksJobs
starting false true replaces = NameTaken
starting false false true = Replaces
starting false false false = Starts

-- nothing is started: whether that is since a Job runs, when the schedule comes next, and whether
-- times came too late for the deadline
abbrev pub resting : Bool → Option ℕ → Bool → Verdict
resting true next late = SkippedRunning
resting false None late = NeverDue
resting false (Some time) true = TooLate
resting false (Some time) false = NothingMissed

abbrev pub by_claim : Option Claim → Bool → Bool → Bool → Steps → Verdict
by_claim None lacks taken late p = resting (list_any is_skipped p.reasons) p.next late
by_claim (Some claim) lacks taken late p = starting lacks taken (has_any p.drop_first)

-- whether the zone is known
abbrev pub by_zone : Bool → Bool → Bool → Bool → Steps → Verdict
by_zone false lacks taken late p = ZoneUnknown
by_zone true lacks taken late p = by_claim p.claim lacks taken late p

-- whether no time is ever in time
abbrev pub by_deadline : Bool → Bool → Bool → Bool → Bool → Steps → Verdict
by_deadline true known lacks taken late p = NeverInTime
by_deadline false known lacks taken late p = by_zone known lacks taken late p

abbrev pub by_suspension : Bool → Bool → Bool → Bool → Bool → Bool → Steps → Verdict
by_suspension true never known lacks taken late p = Suspended
by_suspension false never known lacks taken late p = by_deadline never known lacks taken late p

-- the first of these cases that holds: it is being deleted, it is stuck, or by its plan
-- rule: why-verdict
abbrev pub by_marks : Bool → Bool → Verdict → Verdict
by_marks true stuck verdict = Deleting
by_marks false true verdict = Stuck
by_marks false false verdict = verdict

-- there are such times
abbrev pub is_some_missed : Missed → Bool
is_some_missed Kind.None = false
is_some_missed (Kind.Some count latest) = true
is_some_missed (Kind.Many latest) = true

-- of a CronJob's plan: whether its zone is known, the names of the Jobs of which nothing is known,
-- and the times that came too late
-- rule: why-verdict
abbrev pub verdict_of : ClusterCron → Bool → List (List ℕ) → Missed → Content → Steps → Verdict
verdict_of c known unknown late content p =
    by_marks c.marks.is_deleting c.marks.is_stuck (by_suspension c.cron.spec.suspend
    (is_never c.cron.spec.starting_deadline_seconds) known
    (lacks_any unknown && not (is_sure c.cron.spec.policy p.claim)) (is_taken content p.make)
    (is_some_missed late) p)

-- when to look again: of one that starts nothing, never
-- rule: why-verdict
abbrev pub next_of : ClusterCron → Steps → Option ℕ
next_of c p = if is_halted c.marks then None else p.next

-- ---- which want a look

-- a controller that runs would have started it: it is more than two minutes ago
-- rule: why-problems
abbrev pub is_overdue : ℕ → ℕ → Bool
is_overdue now latest = nat_lt (latest + 120) now

-- more than the one time was missed whose Job starts, or that one is overdue
-- rule: why-problems
abbrev pub is_behind : ℕ → Missed → Bool
is_behind now Kind.None = false
is_behind now (Kind.Some count latest) = nat_lt 1 count || is_overdue now latest
is_behind now (Kind.Many latest) = true

-- a CronJob that is suspended or being deleted is as somebody wants it
-- rule: why-problems
abbrev pub is_problem : Verdict → ℕ → Missed → Bool
is_problem Starts now missed = is_behind now missed
is_problem Replaces now missed = is_behind now missed
is_problem NothingMissed now missed = false
is_problem Deleting now missed = false
is_problem Suspended now missed = false
is_problem SkippedRunning now missed = true
is_problem NameTaken now missed = true
is_problem LacksJobs now missed = true
is_problem NeverInTime now missed = true
is_problem NeverDue now missed = true
is_problem ZoneUnknown now missed = true
is_problem TooLate now missed = true
is_problem Stuck now missed = true

-- ---- in words

-- rule: why-verdict
abbrev pub verdict_text : Verdict → List ℕ
verdict_text Starts = codes "starts"
verdict_text Replaces = codes "replaces"
verdict_text NothingMissed = codes "nothing missed"
verdict_text Suspended = codes "suspended"
verdict_text SkippedRunning = codes "skipped: running"
verdict_text NameTaken = codes "name taken"
verdict_text LacksJobs = codes "lacks Jobs"
verdict_text NeverInTime = codes "never: spec.startingDeadlineSeconds"
verdict_text NeverDue = codes "never: spec.schedule"
verdict_text ZoneUnknown = codes "zone unknown"
verdict_text TooLate = codes "too late: spec.startingDeadlineSeconds"
verdict_text Deleting = codes "being deleted"
verdict_text Stuck = codes "stuck: status.active"
