-- Why a due time got no Job: Kubernetes CronJob documentation, "Schedule suspension", "Deadline for
-- delayed Job start", "Concurrency policy" and "CronJob limitations".
use Rattle.std.specs.Prelude.{ℕ, Bool, true, false, nat_le, if◌then◌else◌}
use Rattle.std.specs.List.{list_any}
use Rattle.cj_types.specs.declared.cron.CronJob.{CronJob}
use Rattle.cj_types.specs.declared.policy.Reason.{Reason}
use Rattle.cj_types.specs.declared.policy.Reason.TheVariants.{JobAlreadyActive}
use Rattle.cj_due.specs.Window.{deadline_start}
use Rattle.cj_decide.specs.Decision.{Planned}
use Rattle.cj_history.specs.declared.gaps.mark.Deed.TheVariants.{Claimed, Refused}
use Rattle.cj_history.specs.declared.gaps.mark.Mark.{Mark}
use Rattle.cj_history.specs.declared.gaps.gap.Why.{Why}
use Rattle.cj_history.specs.declared.gaps.gap.Why.TheVariants.{Suspended, TooLate, Forbidden, Earlier, NameTaken, NotMade}

abbrev pub is_active : Reason → Bool
is_active JobAlreadyActive = true
is_active reason = false

-- the sync told that a Job runs beside which the policy forbids another
abbrev pub is_forbidden : Planned → Bool
is_forbidden p = list_any is_active p.steps.reasons

-- the time was too long ago at the moment of the sync
abbrev pub is_late : CronJob → Planned → ℕ → Bool
is_late cron p t = nat_le t (deadline_start cron.spec.starting_deadline_seconds p.at)

-- why the first sync that came at or after the time started nothing for it: the first of these that
-- holds; where none of the three does, it passed over the time (a claim is of the latest time
-- missed)
abbrev pub why_left : CronJob → Planned → ℕ → Why
why_left cron p t =
    if cron.spec.suspend then Suspended
    else if is_late cron p t then TooLate
    else if is_forbidden p then Forbidden
    else Earlier

-- a claim counts first, by whichever sync: its Job's name was taken, or its worker gave up before
-- the making
-- rule: gaps
abbrev pub cause : (Mark → Bool) → CronJob → Planned → ℕ → Why
cause told cron p t =
    if told (record { uid = cron.meta.uid; time = t; deed = Refused }) then NameTaken
    else if told (record { uid = cron.meta.uid; time = t; deed = Claimed }) then NotMade
    else why_left cron p t
