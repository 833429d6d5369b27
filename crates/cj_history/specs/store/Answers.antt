-- What a call on the store is answered, by the writes before it and, for a worker, by its sync,
-- which its own entries say.
use Rattle.std.specs.Prelude.{◌≡◌, ℕ, List, [], map as map_list, Option, Some, None, Result, Ok, Err, if◌then◌else◌, reverse}
use Rattle.cj_base.specs.declared.refusal.Refusal.{Refusal}
use Rattle.cj_base.specs.declared.refusal.Refusal.TheVariants.{NotFound, NotPermitted, OutOfPhase, Stale}
use Rattle.cj_types.specs.Keys.{Place, place}
use Rattle.cj_types.specs.Uids.{uid_text}
use Rattle.cj_types.specs.Events.{version_of}
use Rattle.cj_types.specs.declared.cron.CronJob.{CronJob}
use Rattle.cj_types.specs.declared.job.Job.{Job}
use Rattle.cj_types.specs.declared.event.Event.{Event}
use Rattle.cj_store.specs.Change.{map_ok}
use Rattle.cj_table.specs.jobs.Owners.{is_job_of}
use Rattle.cj_watch.specs.mirror.Laws.{next_fed}
use Rattle.cj_watch.specs.Laws.{answer_in}
use Rattle.cj_decide.specs.Decision.{Planned}
use Rattle.cj_decide.specs.declared.start.Claim.{Claim}
use Rattle.cj_calls.specs.declared.caller.Caller.{Caller}
use Rattle.cj_calls.specs.declared.caller.Role.{Role}
use Rattle.cj_calls.specs.declared.caller.Role.TheVariants.{User, Runner, Informer, Worker}
use Rattle.cj_calls.specs.declared.call.Call.{Call}
use Rattle.cj_calls.specs.declared.call.Call.TheVariants as Of
use Rattle.cj_calls.specs.declared.reply.Reply.{Reply}
use Rattle.cj_calls.specs.declared.reply.Reply.TheVariants as Say
use Rattle.cj_calls.specs.Rows.{Told}
use Rattle.cj_state.specs.phases.Inputs.{rests_on}
use Rattle.cj_state.specs.phases.Steps.{Step, drops, makes, sets, step_at}
use Rattle.cj_state.specs.declared.phases.sync.Work.{Work}
use Rattle.cj_state.specs.declared.phases.sync.Phase.{Phase}
use Rattle.cj_state.specs.declared.phases.sync.Phase.TheVariants.{Held, Seen, Listed, Checked, Works}
use Rattle.cj_state.specs.declared.phases.sync.InFlight.{InFlight}
use Rattle.cj_state.specs.Readings.{if_mine}
use Rattle.cj_state.specs.WorkerCalls.{event_reply, version_reply}
use Rattle.cj_state.specs.Legal.{IsLegal, answer_of}
use Rattle.cj_world_laws.specs.legal.InFlightSyncs.{sync}
use Rattle.cj_history.specs.store.Written.{version, current_cron, current_job}
use Rattle.cj_history.specs.store.Lists.{IsListing, passing}
use Rattle.cj_history.specs.store.Mirrors.{earliest, fed}
use Rattle.cj_history.specs.store.Writes.{writes}
use Rattle.cj_history.specs.store.Planned.{create_cron, update_cron, set_status, delete_cron, make_job, create_job, update_job, delete_job, end_job}

abbrev pub Answer : Type 0
Answer = Result Reply Refusal

-- ---- users, runners, informers

abbrev pub cron_found : Option CronJob → Answer
cron_found None = Err NotFound
cron_found (Some c) = Ok (Say.Cron c)

abbrev pub job_found : Option Job → Answer
job_found None = Err NotFound
job_found (Some j) = Ok (Say.Job j)

-- ---- workers

-- what stands under a name as one of the CronJob's, by now
abbrev pub active_now : List Event → List ℕ → List ℕ → List ℕ → Option Job
active_now ws uid namespace name = if_mine uid (current_job ws (place namespace name))

abbrev pub actives_now : List Event → Option CronJob → List (Option Job)
actives_now ws None = []
actives_now ws (Some c) = map_list (active_now ws (uid_text c.meta.uid) c.key.namespace)
    c.status.active

abbrev pub on_see_cron : List Event → Place → Phase → Answer
on_see_cron ws k Held = Ok (Say.SeenCron (current_cron ws k))
on_see_cron ws k p = Err OutOfPhase

abbrev pub on_see_active : List Event → Place → Phase → Answer
on_see_active ws k (Listed c js) = Ok (Say.SeenActive (actives_now ws c))
on_see_active ws k p = Err OutOfPhase

-- a claim sets the status of the CronJob that was seen, as it was seen
abbrev pub on_claiming : List Event → Place → Claim → Option CronJob → Answer
on_claiming ws k c None = Err Stale
on_claiming ws k c (Some cron) = map_ok (λ w. Say.Claimed (Some (c.time, version_of w)))
    (set_status ws k cron.meta.uid cron.meta.version c.status)

abbrev pub on_plan : List Event → Place → Planned → Option Claim → Answer
on_plan ws k p None = Ok (Say.Claimed None)
on_plan ws k p (Some c) = on_claiming ws k c p.cron

-- the plan must rest on the three answers that the worker got
abbrev pub on_claim : List Event → Place → Planned → Phase → Answer
on_claim ws k p (Checked c js ks) = if rests_on p c js ks then on_plan ws k p p.steps.claim else Err
    Stale
on_claim ws k p phase = Err OutOfPhase

-- a Job that isn't there, or has another uid by now, is gone
abbrev pub dropped : Place → Result Event Refusal → Answer
dropped name (Ok w) = Ok (Say.Dropped (Some (name, version_of w)))
dropped name (Err e) = Ok (Say.Dropped None)

abbrev pub on_drop_step : List Event → Option Step → Answer
on_drop_step ws (Some (drops r)) = dropped r.key (delete_job ws r.key (Some r.uid))
on_drop_step ws o = Err OutOfPhase

abbrev pub on_drop : List Event → Place → Phase → Answer
on_drop ws k (Works work) = on_drop_step ws (step_at work.plan.steps work.place)
on_drop ws k p = Err OutOfPhase

abbrev pub on_make_step : List Event → Planned → Option Step → Answer
on_make_step ws p (Some (makes d)) = map_ok event_reply (make_job ws d p.at)
on_make_step ws p o = Err OutOfPhase

abbrev pub on_make : List Event → Place → Phase → Answer
on_make ws k (Works work) = on_make_step ws work.plan (step_at work.plan.steps work.place)
on_make ws k p = Err OutOfPhase

-- the status at the end is set where nothing was written since the claim, or since what was seen
-- where nothing was claimed
abbrev pub on_setting : List Event → Place → Work → Option Step → Option CronJob → Answer
on_setting ws k work (Some (sets status)) (Some cron)
    = map_ok version_reply (set_status ws k cron.meta.uid work.version status)
on_setting ws k work o cron = Err OutOfPhase

abbrev pub on_set : List Event → Place → Phase → Answer
on_set ws k (Works work) = on_setting ws k work (step_at work.plan.steps work.place) work.plan.cron
on_set ws k p = Err OutOfPhase

abbrev pub for_sync : (Place → Phase → Answer) → Option InFlight → Answer
for_sync f None = Err OutOfPhase
for_sync f (Some s) = f s.key s.phase

-- the Jobs of the key as the first so many writes left them, in order of name
abbrev pub SeesJobs : ℕ → List Event → Place → Phase → Answer → Type 0
SeesJobs n ws k (Seen c) a = (js : List Job) × (a ≡ Ok (Say.SeenJobs js))
    × IsListing (λ j. j.key) (λ q. passing (is_job_of k) (current_job (earliest n ws) q)) js
SeesJobs n ws k p a = a ≡ Err OutOfPhase

abbrev pub OnSeeJobs : ℕ → List Event → Option InFlight → Answer → Type 0
OnSeeJobs n ws None a = a ≡ Err OutOfPhase
OnSeeJobs n ws (Some s) a = SeesJobs n ws s.key s.phase a

-- ---- whoever calls

-- the answer after these writes, of which the listing knows `n`, to a caller with this sync; the
-- queue's calls are told elsewhere
-- rule: looking-back
abbrev pub Says : ℕ → ℕ → List Event → Option InFlight → Role → Call → Answer → Type 0
Says window n ws o User (Of.CreateCron d now) a = a ≡ map_ok event_reply (create_cron ws d now)
Says window n ws o User (Of.UpdateCron d) a = a ≡ map_ok event_reply (update_cron ws d)
Says window n ws o User (Of.DeleteCron k) a = a ≡ map_ok version_reply (delete_cron ws k)
Says window n ws o User (Of.CreateJob d now) a = a ≡ map_ok event_reply (create_job ws d now)
Says window n ws o User (Of.UpdateJob d) a = a ≡ map_ok event_reply (update_job ws d)
Says window n ws o User (Of.DeleteJob k) a = a ≡ map_ok version_reply (delete_job ws k None)
Says window n ws o Runner (Of.EndJob k u outcome now) a
    = a ≡ map_ok event_reply (end_job ws k u outcome now)
Says window n ws o Informer (Of.Feed max) a
    = a ≡ Ok (Say.Version (next_fed window (version ws) n max))
Says window n ws o Informer (Of.Add k) a = Unit {0}
Says window n ws o Informer (Of.Tick now) a = Unit {0}
Says window n ws o Informer Of.Shut a = Unit {0}
Says window n ws o Worker Of.SeeCron a = a ≡ for_sync (on_see_cron ws) o
Says window n ws o Worker Of.SeeJobs a = OnSeeJobs n ws o a
Says window n ws o Worker Of.SeeActive a = a ≡ for_sync (on_see_active ws) o
Says window n ws o Worker (Of.Claim p) a = a ≡ for_sync (λ k. on_claim ws k p) o
Says window n ws o Worker Of.DropNext a = a ≡ for_sync (on_drop ws) o
Says window n ws o Worker Of.MakeNext a = a ≡ for_sync (on_make ws) o
Says window n ws o Worker Of.SetStatus a = a ≡ for_sync (on_set ws) o
Says window n ws o Worker Of.Take a = Unit {0}
Says window n ws o Worker (Of.Finish end reasons) a = Unit {0}
Says window n ws o Worker call a = a ≡ Err NotPermitted
Says window n ws o role (Of.GetCron k) a = a ≡ cron_found (current_cron ws k)
Says window n ws o role (Of.GetJob k) a = a ≡ job_found (current_job ws k)
Says window n ws o role Of.ListCrons a = (cs : List CronJob) × (a ≡ Ok (Say.Crons cs (version ws)))
    × IsListing (λ c. c.key) (current_cron ws) cs
Says window n ws o role Of.ListJobs a = (js : List Job) × (a ≡ Ok (Say.Jobs js (version ws)))
    × IsListing (λ j. j.key) (current_job ws) js
Says window n ws o role (Of.Watch v max) a
    = a ≡ map_ok (λ es. Say.Events es) (answer_in window (reverse ws) v max)
Says window n ws o role call a = a ≡ Err NotPermitted

-- whoever called whatever before
abbrev pub AnswerLaw : Type 0
AnswerLaw = (window : ℕ) (h : List Told) (caller : Caller) (call : Call) → IsLegal window h
    → Says window (fed window h) (writes h) (sync h caller.number) caller.role call
    (answer_of window h caller call)
