-- That a run keeps up: where an instant is over, no work is left.
use Rattle.std.specs.Prelude.{◌≡◌, ℕ, ◌-◌, ◌<◌, ◌==◌, Bool, true, false, ◌&&◌, ◌||◌, if◌then◌else◌, List, [], ◌∷◌, ◌++◌, Option, Some, None, Result, Ok, Err, IsTrue}
use Rattle.std.specs.Ordering.{nat_cmp}
use Rattle.std.specs.BTreeMap as tree
use Rattle.std.specs.FinMap as map
use Rattle.cj_base.specs.declared.refusal.Refusal.{Refusal}
use Rattle.cj_types.specs.Keys.{Place, place_cmp}
use Rattle.cj_types.specs.declared.cron.CronJobDraft.{CronJobDraft}
use Rattle.cj_queue.specs.Queue.{Queue, added, closed, finished_ok, finished_retry, taken, ticked}
use Rattle.cj_calls.specs.Rows.{Told}
use Rattle.cj_calls.specs.declared.call.Call.{Call}
use Rattle.cj_calls.specs.declared.call.Call.TheVariants as Of
use Rattle.cj_calls.specs.declared.end.End.{End}
use Rattle.cj_calls.specs.declared.end.End.TheVariants.{Again, Well}
use Rattle.cj_calls.specs.declared.reply.Reply.{Reply}
use Rattle.cj_calls.specs.declared.reply.Reply.TheVariants as Is
use Rattle.cj_state.specs.Legal.{IsLegal, state_of}
use Rattle.cj_state.specs.WorkerCalls.{next_ms}
use Rattle.cj_state.specs.declared.phases.sync.InFlight.{InFlight}
use Rattle.cj_world_laws.specs.legal.InFlightSyncs.{sync}
use Rattle.cj_world_laws.specs.legal.Rest.{IsAtRest}
use Rattle.cj_history.specs.progress.Kept.{IsDone}
use Rattle.cj_history.specs.queue.Deeds.{next_in}
use Rattle.cj_script.specs.simulation.Spans.{SpanView, instant}
use Rattle.cj_run.specs.Turns.{begins, ends, progress_of, turn}
use Rattle.cj_run.specs.declared.turns.Progress.{Progress}
use Rattle.cj_run.specs.declared.upkeep.Hand.{Hand}
use Rattle.cj_run.specs.declared.upkeep.Upkeep.{Upkeep}
use Rattle.cj_run.specs.declared.upkeep.Work.{Work}

-- CronJobs by their keys
abbrev pub Drafts : Type 0
Drafts = map.FinMap place_cmp CronJobDraft

-- an instant goes on, and is over with the call
abbrev pub is_over_with : SpanView → Progress → Told → Bool
is_over_with s p e = p.on && (begins s p e.caller.role e.call || ends e.caller.role e.call)

-- the CronJobs that were created, and neither deleted nor their keys taken since, after an accepted
-- call
-- rule: run-keeps-up
abbrev pub untaken_after : Drafts → Call → Reply → Drafts
untaken_after m (Of.CreateCron d now) reply = map.insert m d.key d
untaken_after m (Of.DeleteCron k) reply = map.remove m k
untaken_after m Of.Take (Is.Key k) = map.remove m k
untaken_after m call reply = m

abbrev pub untaken_by : Drafts → Call → Result Reply Refusal → Drafts
untaken_by m call (Ok reply) = untaken_after m call reply
untaken_by m call (Err refusal) = m

-- and after a history
abbrev pub untaken : List Told → Drafts
untaken [] = map.empty
untaken (e ∷ h) = untaken_by (untaken h) e.call e.answer

-- no key is queued and no worker holds one, the queue isn't shut, and the key of each CronJob that
-- was created was taken since
-- rule: run-keeps-up
pub record IsSettled (window : ℕ) (h : List Told) : Type 0 where
  pub rest : IsAtRest (state_of window h)
  pub runs : (state_of window h).queue.shut ≡ false
  pub taken : (k : Place) → map.get (untaken h) k ≡ None

-- so it is where an instant is over
-- rule: run-keeps-up
abbrev pub ComesToRest : ℕ → SpanView → List Told → Type 0
ComesToRest window s h = (later before : List Told) (e : Told) → h ≡ later ++ e ∷ before
    → is_over_with s (progress_of s before) e ≡ true → IsSettled window before

-- and the next time of each CronJob whose last sync ended well is after the moment: where it came,
-- the key was taken again
-- rule: run-keeps-up
pub record IsCaughtUp (window moment : ℕ) (h : List Told) : Type 0 where
  pub settled : IsSettled window h
  pub due : (k : Place) (t : ℕ) → IsDone h k t → moment < t

-- where an instant is over, all is done that was due up to it
-- rule: run-keeps-up
abbrev pub KeepsUp : ℕ → SpanView → List Told → Type 0
KeepsUp window s h = (later before : List Told) (e : Told) → h ≡ later ++ e ∷ before
    → is_over_with s (progress_of s before) e ≡ true
    → IsCaughtUp window (instant s (turn s before - 1)) before

-- ---- what is known of the work

-- what a worker holds: its key, and the next time of the plan that it claimed
abbrev pub holds : Place → Option ℕ → Option Hand
holds k next = Some (record { key = k; next = next })

abbrev pub hand_of : Option InFlight → Option Hand
hand_of None = None
hand_of (Some sync) = holds sync.key (next_in sync.phase)

abbrev pub with_next : Option Hand → Option ℕ → Option Hand
with_next None next = None
with_next (Some hand) next = holds hand.key next

-- what its caller holds after an accepted call
abbrev pub hand_after : Option Hand → Call → Reply → Option Hand
hand_after o Of.Take (Is.Key k) = holds k None
hand_after o Of.SeeCron (Is.SeenCron c) = with_next o None
hand_after o (Of.Claim plan) (Is.Claimed c) = with_next o plan.steps.next
hand_after o (Of.Finish end reasons) Is.Done = None
hand_after o call reply = o

-- the queue after the end of a sync
abbrev pub ended_by : Option Hand → End → Queue → Queue
ended_by None end q = q
ended_by (Some hand) Well q = finished_ok q hand.key (next_ms hand.next)
ended_by (Some hand) (Again now) q = finished_retry q hand.key now

-- and after an accepted call
abbrev pub queue_after : Option Hand → Call → Reply → Queue → Queue
queue_after o (Of.Add k) Is.Done q = added q k
queue_after o (Of.Tick now) Is.Done q = ticked q now
queue_after o Of.Take (Is.Key k) q = taken q
queue_after o (Of.Finish end reasons) Is.Done q = ended_by o end q
queue_after o Of.Shut Is.Done q = closed q
queue_after o call reply q = q

-- what the worker with that number holds
abbrev pub hand_by : tree.BTreeMap ℕ Hand → ℕ → Option Hand
hand_by hands n = tree.get nat_cmp hands n

-- these are as before but for the one with the number
abbrev pub Sets : ℕ → Option Hand → tree.BTreeMap ℕ Hand → tree.BTreeMap ℕ Hand → Type 0
Sets number hand before after = (n : ℕ)
    → hand_by after n ≡ (if n == number then hand else hand_by before n)

-- the work after an answer
pub record Turns (number : ℕ) (call : Call) (reply : Reply) (v w : Work) : Type 0 where
  pub queue : w.queue ≡ queue_after (hand_by v.hands number) call reply v.queue
  pub hands : Sets number (hand_after (hand_by v.hands number) call reply) v.hands w.hands

abbrev pub Goes : ℕ → Call → Result Reply Refusal → Work → Work → Type 0
Goes number call (Ok reply) v w = Turns number call reply v w
Goes number call (Err refusal) v w = w ≡ v

-- no key is queued, none is held, and the queue isn't shut
pub record IsIdle (w : Work) : Type 0 where
  pub line : w.queue.row.line ≡ []
  pub hands : (n : ℕ) → hand_by w.hands n ≡ None
  pub runs : w.queue.shut ≡ false

-- and no CronJob that was created waits to be taken
pub record IsClear (v : Upkeep) : Type 0 where
  pub idle : IsIdle v.work
  pub taken : (k : Place) → map.get v.untaken k ≡ None

-- what is known is what the history says
pub record Knows (window : ℕ) (h : List Told) (w : Work) : Type 0 where
  pub queue : w.queue ≡ (state_of window h).queue
  pub hands : (n : ℕ) → hand_by w.hands n ≡ hand_of (sync h n)

-- what was seen of a history: how far it is, what work there is, which CronJobs wait to be taken,
-- and that it kept up so far
pub record Looks (s : SpanView) (v : Upkeep) (h : List Told) : Type 0 where
  pub progress : v.progress ≡ progress_of s h
  pub knows : (window : ℕ) → IsLegal window h → Knows window h v.work
  pub untaken_is : v.untaken ≡ untaken h
  pub kept : IsTrue v.kept → (window : ℕ) → IsLegal window h → ComesToRest window s h
