-- What one call of one caller answers and leaves. Who may make which call stands here: a call that
-- the role may not make is refused before anything else is looked at.
use Rattle.std.specs.Prelude.{ℕ, List, Option, Some, None, Result, Ok, Err}
use Rattle.std.specs.FinMap as map
use Rattle.cj_base.specs.declared.refusal.Refusal.{Refusal}
use Rattle.cj_base.specs.declared.refusal.Refusal.TheVariants.{NotPermitted, NotFound}
use Rattle.cj_types.specs.Keys.{Place}
use Rattle.cj_types.specs.declared.cron.CronJob.{CronJob}
use Rattle.cj_types.specs.declared.job.Job.{Job}
use Rattle.cj_types.specs.declared.event.Event.{Event}
use Rattle.cj_store.specs.Content.{nothing}
use Rattle.cj_store.specs.Change.{map_ok, cron_added, cron_modified, cron_gone, job_added, job_modified, job_gone}
use Rattle.cj_store.specs.Crons.{cron_created, cron_updated, cron_deleted}
use Rattle.cj_store.specs.Jobs.{job_created, job_updated, job_deleted, job_ended}
use Rattle.cj_watch.specs.Log.{new_log, since}
use Rattle.cj_watch.specs.mirror.Lagging.{new_mirror}
use Rattle.cj_queue.specs.Queue.{new_queue, added, ticked, closed}
use Rattle.cj_calls.specs.declared.caller.Caller.{Caller}
use Rattle.cj_calls.specs.declared.caller.Role.{Role}
use Rattle.cj_calls.specs.declared.caller.Role.TheVariants.{User, Runner, Informer, Worker}
use Rattle.cj_calls.specs.declared.call.Call.{Call}
use Rattle.cj_calls.specs.declared.call.Call.TheVariants as Of
use Rattle.cj_calls.specs.declared.reply.Reply.{Reply}
use Rattle.cj_calls.specs.declared.reply.Reply.TheVariants as Say
use Rattle.cj_state.specs.declared.state.State.{State}
use Rattle.cj_state.specs.Readings.{fed_up}
use Rattle.cj_state.specs.WorkerCalls.{Handled, handled, refused, written, event_reply, version_reply, take, see_cron, see_jobs, see_active, claim, drop_next, make_next, set_status, finish}

-- ---- calls of those that hold no key

-- a write of a caller that holds no key
abbrev pub writes : State → (Event → Reply) → Result Event Refusal → Handled
writes s say (Ok change) = handled (Ok (say change)) (written s change)
writes s say (Err e) = refused s e

abbrev pub found_cron : State → Option CronJob → Handled
found_cron s None = refused s NotFound
found_cron s (Some cron) = handled (Ok (Say.Cron cron)) s

abbrev pub found_job : State → Option Job → Handled
found_job s None = refused s NotFound
found_job s (Some job) = handled (Ok (Say.Job job)) s

abbrev pub told_events : State → Result (List Event) Refusal → Handled
told_events s (Ok events) = handled (Ok (Say.Events events)) s
told_events s (Err e) = refused s e

abbrev pub add : State → Place → Handled
add s k = handled (Ok Say.Done) (record s { queue = added s.queue k })

abbrev pub tick : State → ℕ → Handled
tick s now = handled (Ok Say.Done) (record s { queue = ticked s.queue now })

abbrev pub shut : State → Handled
shut s = handled (Ok Say.Done) (record s { queue = closed s.queue })

-- the lists learn of so many writes more, and the answer is of how many they know then
abbrev pub feed : State → ℕ → Handled
feed s max = handled (Ok (Say.Version (fed_up s max).fed)) (record s { mirror = fed_up s max })

-- ---- each role

-- the readings, which users, informers and runners share; nobody else may make another call
abbrev pub by_reader : State → Call → Handled
by_reader s (Of.GetCron k) = found_cron s (map.get s.store.crons k)
by_reader s (Of.GetJob k) = found_job s (map.get s.store.jobs k)
by_reader s Of.ListCrons = handled (Ok (Say.Crons (map.values s.store.crons) s.store.version)) s
by_reader s Of.ListJobs = handled (Ok (Say.Jobs (map.values s.store.jobs) s.store.version)) s
by_reader s (Of.Watch v max) = told_events s (since s.watch v max)
by_reader s _ = refused s NotPermitted

-- rule: roles
abbrev pub by_user : State → Call → Handled
by_user s (Of.CreateCron d n) = writes s event_reply (map_ok cron_added (cron_created s.store d n))
by_user s (Of.UpdateCron d) = writes s event_reply (map_ok cron_modified (cron_updated s.store d))
by_user s (Of.DeleteCron k) = writes s version_reply (map_ok cron_gone (cron_deleted s.store k))
by_user s (Of.CreateJob d n) = writes s event_reply (map_ok job_added (job_created s.store d n))
by_user s (Of.UpdateJob d) = writes s event_reply (map_ok job_modified (job_updated s.store d))
by_user s (Of.DeleteJob k) = writes s version_reply (map_ok job_gone (job_deleted s.store k None))
by_user s call = by_reader s call

-- rule: roles
abbrev pub by_runner : State → Call → Handled
by_runner s (Of.EndJob k u o n) = writes s event_reply
    (map_ok job_modified (job_ended s.store k u o n))
by_runner s call = by_reader s call

-- rule: roles
abbrev pub by_informer : State → Call → Handled
by_informer s (Of.Add k) = add s k
by_informer s (Of.Tick now) = tick s now
by_informer s Of.Shut = shut s
by_informer s (Of.Feed max) = feed s max
by_informer s call = by_reader s call

-- rule: roles
abbrev pub by_worker : State → ℕ → Call → Handled
by_worker s w Of.Take = take s w
by_worker s w Of.SeeCron = see_cron s w
by_worker s w Of.SeeJobs = see_jobs s w
by_worker s w Of.SeeActive = see_active s w
by_worker s w (Of.Claim p) = claim s w p
by_worker s w Of.DropNext = drop_next s w
by_worker s w Of.MakeNext = make_next s w
by_worker s w Of.SetStatus = set_status s w
by_worker s w (Of.Finish end reasons) = finish s w end
by_worker s w _ = refused s NotPermitted

-- rules: history, roles
abbrev pub by_role : State → Role → ℕ → Call → Handled
by_role s User w call = by_user s call
by_role s Runner w call = by_runner s call
by_role s Informer w call = by_informer s call
by_role s Worker w call = by_worker s w call

-- what the call answers and leaves
-- rule: history
unfoldable pub step_of : State → Caller → Call → Handled
step_of s caller call = by_role s caller.role caller.number call

-- before the first call
abbrev pub start : ℕ → State
start window = record { store = nothing; watch = new_log window; mirror = new_mirror; queue = new_queue; syncs = map.empty }
