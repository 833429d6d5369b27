-- The writes of a history, by its accepted calls alone. A history has its newest entry first.
use Rattle.std.specs.Prelude.{List, [], ◌∷◌, Option, Some, None, option_map, Result, Ok, Err}
use Rattle.cj_base.specs.declared.refusal.Refusal.{Refusal}
use Rattle.cj_types.specs.Keys.{Place}
use Rattle.cj_types.specs.declared.event.Event.{Event}
use Rattle.cj_decide.specs.Decision.{Planned}
use Rattle.cj_decide.specs.declared.start.Claim.{Claim}
use Rattle.cj_calls.specs.declared.call.Call.{Call}
use Rattle.cj_calls.specs.declared.call.Call.TheVariants as Of
use Rattle.cj_calls.specs.declared.reply.Reply.{Reply}
use Rattle.cj_calls.specs.declared.reply.Reply.TheVariants as Is
use Rattle.cj_calls.specs.Rows.{Told}
use Rattle.cj_state.specs.phases.Steps.{Step, drops, makes, sets, step_at}
use Rattle.cj_state.specs.declared.phases.sync.Phase.{Phase}
use Rattle.cj_state.specs.declared.phases.sync.Phase.TheVariants.{Works}
use Rattle.cj_state.specs.declared.phases.sync.InFlight.{InFlight}
use Rattle.cj_world_laws.specs.legal.InFlightSyncs.{sync}
use Rattle.cj_history.specs.store.Written.{current_cron, current_job, cron_created, cron_updated, status_set, cron_deleted, job_created, job_updated, job_ended, job_deleted}

-- ---- what a worker writes, by its sync, which its own entries say

-- a claim sets the status of the CronJob whose key is held
abbrev pub claimed : List Event → Option InFlight → Option Claim → Option Event
claimed ws (Some s) (Some claim) = option_map (status_set ws claim.status) (current_cron ws s.key)
claimed ws _ _ = None

-- the next step of a plan drops a Job, makes one at the plan's moment, or sets the status at the
-- end
abbrev pub stepped : List Event → Place → Planned → Option Step → Option Event
stepped ws k p None = None
stepped ws k p (Some (drops r)) = option_map (job_deleted ws) (current_job ws r.key)
stepped ws k p (Some (makes d)) = Some (job_created ws d p.at)
stepped ws k p (Some (sets status)) = option_map (status_set ws status) (current_cron ws k)

abbrev pub stepped_in : List Event → Place → Phase → Option Event
stepped_in ws k (Works work) = stepped ws k work.plan (step_at work.plan.steps work.place)
stepped_in ws k _ = None

abbrev pub stepped_by : List Event → Option InFlight → Option Event
stepped_by ws None = None
stepped_by ws (Some s) = stepped_in ws s.key s.phase

-- ---- what an entry writes

-- by the writes before it, its caller's sync before it, and its call, where that was accepted
-- rule: written-history
abbrev pub written_by : List Event → Option InFlight → Call → Reply → Option Event
written_by ws o (Of.CreateCron d now) r = Some (cron_created ws d now)
written_by ws o (Of.UpdateCron d) r = option_map (cron_updated ws d) (current_cron ws d.key)
written_by ws o (Of.DeleteCron k) r = option_map (cron_deleted ws) (current_cron ws k)
written_by ws o (Of.CreateJob d now) r = Some (job_created ws d now)
written_by ws o (Of.UpdateJob d) r = option_map (job_updated ws d) (current_job ws d.key)
written_by ws o (Of.DeleteJob k) r = option_map (job_deleted ws) (current_job ws k)
written_by ws o (Of.EndJob k u outcome now) r
    = option_map (job_ended ws outcome now) (current_job ws k)
written_by ws o (Of.Claim p) (Is.Claimed (Some c)) = claimed ws o p.steps.claim
written_by ws o Of.DropNext (Is.Dropped (Some d)) = stepped_by ws o
written_by ws o Of.MakeNext r = stepped_by ws o
written_by ws o Of.SetStatus r = stepped_by ws o
written_by ws o call r = None

-- a refused call writes nothing
abbrev pub entry_written : List Event → Option InFlight → Call → Result Reply Refusal → Option Event
entry_written ws o call (Ok r) = written_by ws o call r
entry_written ws o call (Err e) = None

abbrev pub with_write : Option Event → List Event → List Event
with_write None ws = ws
with_write (Some w) ws = w ∷ ws

-- rule: written-history
abbrev pub writes : List Told → List Event
writes [] = []
writes (e ∷ h) = with_write (entry_written (writes h) (sync h e.caller.number) e.call e.answer)
    (writes h)
