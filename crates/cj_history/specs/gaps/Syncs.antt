-- The syncs of a CronJob in a history, and the times that each of them counts as missed (Kubernetes
-- CronJob documentation, "CronJob limitations": how many schedules it missed "in the duration from
-- its last scheduled time until now").
use Rattle.std.specs.Prelude.{◌≡◌, ◌⊎◌, ℕ, ◌<◌, ◌≤◌, true, List, [], ◌∷◌, Option, Some, None, Result, Ok, unwrap_or}
use Rattle.cj_base.specs.declared.refusal.Refusal.{Refusal}
use Rattle.cj_types.specs.declared.cron.CronJob.{CronJob}
use Rattle.cj_schedule.specs.Matches.{Sets}
use Rattle.cj_schedule.specs.Grammar.{IsSchedule}
use Rattle.cj_zone.specs.declared.zone.Zone.{Zone}
use Rattle.cj_due.specs.Due.{due}
use Rattle.cj_decide.specs.Decision.{Planned}
use Rattle.cj_calls.specs.Rows.{Told}
use Rattle.cj_calls.specs.declared.call.Call.{Call}
use Rattle.cj_calls.specs.declared.call.Call.TheVariants as Of
use Rattle.cj_calls.specs.declared.reply.Reply.{Reply}

-- the plan of an accepted claim, also of one that claims no time
abbrev pub plan_in : Call → Result Reply Refusal → Option Planned
plan_in (Of.Claim p) (Ok reply) = Some p
plan_in call answer = None

-- the last time that was scheduled, or the creation before the first
abbrev pub last_scheduled : CronJob → ℕ
last_scheduled cron = unwrap_or cron.status.last_schedule_time cron.meta.created

-- at a moment the CronJob has missed a time: it is due in the zone, by the schedule that its text
-- says, later than the last scheduled time, and not later than the moment; the starting deadline
-- cuts none of them
-- rule: gaps
pub record IsMissed (cron : CronJob) (z : Zone) (at t : ℕ) : Type 0 where
  pub schedule : Sets
  pub reads : IsSchedule cron.spec.schedule schedule
  pub is_due : due schedule z t ≡ true
  pub above : last_scheduled cron < t
  pub within : t ≤ at

-- a plan of the CronJob counts the times that it has missed, where the zone is known
-- rule: gaps
pub record Counts (cron : CronJob) (p : Planned) (t : ℕ) : Type 0 where
  pub zone : Zone
  pub known : p.zone ≡ Some zone
  pub missed : IsMissed cron zone p.at t

-- this entry is an accepted claim, whose plan counts the time for the CronJob with this uid
-- rule: gaps
pub record CountedAt (e : Told) (u t : ℕ) : Type 0 where
  pub plan : Planned
  pub sync : plan_in e.call e.answer ≡ Some plan
  pub cron : CronJob
  pub stands : plan.cron ≡ Some cron
  pub uid : cron.meta.uid ≡ u
  pub counts : Counts cron plan t

-- one of these entries is
-- rule: gaps
abbrev pub CountedIn : List Told → ℕ → ℕ → Type 0
CountedIn [] u t = ⊥
CountedIn (e ∷ h) u t = CountedAt e u t ⊎ CountedIn h u t
