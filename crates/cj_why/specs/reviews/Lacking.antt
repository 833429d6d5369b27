-- What is printed of a plan where the list lacks Jobs that `status.active` names, and what keeps a
-- CronJob from ever starting a Job: Kubernetes CronJob documentation, "Concurrency policy",
-- "Schedule suspension" and "Deadline for delayed Job start".
use Rattle.std.specs.Prelude.{ℕ, List, [], ◌∷◌, ◌++◌, ◌||◌, not, if◌then◌else◌, codes, Bool, true, false, Option, None, Some}
use Rattle.cj_types.specs.declared.cron.CronSpec.{CronSpec}
use Rattle.cj_types.specs.declared.policy.Policy.{Policy}
use Rattle.cj_types.specs.declared.policy.Policy.TheVariants.{Allow, Forbid, Replace}
use Rattle.cj_decide.specs.declared.start.Claim.{Claim}
use Rattle.cj_decide.specs.declared.steps.Steps.{Steps}
use Rattle.cj_cluster.specs.Content.{is_halted}
use Rattle.cj_cluster.specs.declared.cron.CronMarks.{CronMarks}
use Rattle.cj_why.specs.Running.{lacks_any}
use Rattle.cj_why.specs.Why.{is_never}
use Rattle.cj_why.specs.reviews.PlanLines.{plan_lines, time_value, word_line}

-- `lacks NAME` of each
-- rule: why-lacks
abbrev pub lack_lines : List (List ℕ) → List ℕ
lack_lines [] = []
lack_lines (name ∷ names) = word_line (codes "lacks") name ++ lack_lines names

-- the plan that takes them for gone is that of those that run too: it starts nothing, and more Jobs
-- that run let no Job start; or the policy looks at none that run
-- rule: why-lacks
abbrev pub is_sure : Policy → Option Claim → Bool
is_sure Allow claim = true
is_sure Forbid None = true
is_sure Forbid (Some claim) = false
is_sure Replace None = true
is_sure Replace (Some claim) = false

-- a plan that isn't sure is not shown; when to look again rests on the schedule alone
abbrev pub sure_lines : Bool → Steps → List ℕ
sure_lines true p = plan_lines p
sure_lines false p = word_line (codes "next") (time_value p.next)

-- whether the plan is that of the CronJob's controller: of its Jobs none is unknown that it would
-- rest on
-- rule: why-lacks
abbrev pub is_known : List (List ℕ) → Policy → Steps → Bool
is_known unknown policy p = not (lacks_any unknown) || is_sure policy p.claim

-- a CronJob that is being deleted, or is stuck, has no plan, and nothing comes next
-- rules: why-lacks, why-never
abbrev pub lines_by : CronMarks → Bool → Steps → List ℕ
lines_by marks known p =
    if is_halted marks then word_line (codes "next") (time_value None) else sure_lines known p

-- by the names that the list lacks, and those of which nothing is known
-- rule: why-lacks
abbrev pub lines_for : CronMarks → List (List ℕ) → List (List ℕ) → Policy → Steps → List ℕ
lines_for marks lacking unknown policy p =
    lack_lines lacking ++ lines_by marks (is_known unknown policy p) p

-- ---- what never starts a Job

-- by whether the deadline is 0, and when the schedule comes next
abbrev pub never_by : Bool → Option ℕ → List ℕ
never_by true next = codes "never spec.startingDeadlineSeconds\n"
never_by false None = codes "never spec.schedule\n"
never_by false (Some time) = []

abbrev pub never_unless : Bool → CronSpec → Option ℕ → List ℕ
never_unless true spec next = codes "never spec.suspend\n"
never_unless false spec next = never_by (is_never spec.starting_deadline_seconds) next

-- by whether it is being deleted, and whether it is stuck
-- rule: why-never
abbrev pub never_halted : Bool → Bool → CronSpec → Option ℕ → List ℕ
never_halted true stuck spec next = codes "never metadata.deletionTimestamp\n"
never_halted false true spec next = codes "never status.active\n"
never_halted false false spec next = never_unless spec.suspend spec next

-- `never FIELD`: the first of these fields that keeps the CronJob from starting a Job at any moment
-- as it stands
-- rule: why-never
abbrev pub never_line : CronMarks → CronSpec → Option ℕ → List ℕ
never_line marks spec next = never_halted marks.is_deleting marks.is_stuck spec next
