-- Each answer on the queue is the one that the operations and the caller's sync give.
use Rattle.std.proofs.Common.{◌≡◌, ℕ, Bool, true, false, List, [], ◌∷◌, Option, Some, None, refl, sym, ap, subst, ◌∙◌}
use Rattle.std.specs.Prelude.{Ok, Err, if◌then◌else◌, ◌||◌}
use Rattle.cj_base.specs.declared.refusal.Refusal.TheVariants as No
use Rattle.cj_types.specs.Keys.{Place}
use Rattle.cj_queue.specs.Parts.{key_eq, stands_in}
use Rattle.cj_queue.specs.Queue.{first}
use Rattle.cj_calls.specs.declared.caller.Caller.{Caller}
use Rattle.cj_calls.specs.declared.caller.Role.{Role}
use Rattle.cj_calls.specs.declared.caller.Role.TheVariants.{User, Runner, Informer, Worker}
use Rattle.cj_calls.specs.declared.call.Call.{Call}
use Rattle.cj_calls.specs.declared.call.Call.TheVariants as Of
use Rattle.cj_calls.specs.declared.end.End.{End}
use Rattle.cj_calls.specs.declared.end.End.TheVariants.{Well, Again}
use Rattle.cj_calls.specs.declared.reply.Reply.TheVariants as Say
use Rattle.cj_state.specs.phases.Steps.{step_at, is_over}
use Rattle.cj_state.specs.declared.phases.sync.Work.{Work}
use Rattle.cj_state.specs.declared.phases.sync.Phase.{Phase}
use Rattle.cj_state.specs.declared.phases.sync.Phase.TheVariants.{Held, Seen, Listed, Checked, Works}
use Rattle.cj_state.specs.declared.phases.sync.InFlight.{InFlight}
use Rattle.cj_state.specs.declared.state.State.{State}
use Rattle.cj_state.specs.WorkerCalls.{by_sync, sync_of, take, take_by, take_first, finish, finish_in, finish_work}
use Rattle.cj_state.specs.Step.{step_of, by_role, by_informer, by_worker}
use Rattle.cj_state.specs.Legal.{state_of}
use Rattle.cj_world_laws.proofs.LegalLemmas.HeldSyncs.{syncs_agree}
use Rattle.cj_history.specs.queue.Deeds.{Operation, operations}
use Rattle.cj_history.specs.queue.LookBacks.{queued, since, RisesBy}
use Rattle.cj_history.specs.queue.Laws.{IsQueue}
use Rattle.cj_history.specs.queue.Answers.{IsFirst, NoneQueued, OnTake, TakeSays, on_end, on_finish, Says, AnswerLaw}
use Rattle.cj_history.proofs.QueueLemmas.Rows.{itself}
use Rattle.cj_history.proofs.QueueLemmas.Agreed.{queue_agrees}

-- The queue of the state s is what the operations h say.
module _ (h : List Operation) (s : State) (is : IsQueue h s.queue) where
  -- a key that stands in the list, and isn't its first, stands behind it
  behind : (k j : Place) (ks : List Place) → stands_in (k ∷ ks) j ≡ true → key_eq j k ≡ false → stands_in ks j ≡ true
  behind k j ks m apart = by (key_eq j k) apart m
    where
      by : (b : Bool) → b ≡ false → (b || stands_in ks j) ≡ true → stands_in ks j ≡ true
      by true e f = absurd (cc e)
      by false e f = f

  -- The first key of the line is queued, and became so before each other queued key.
  is_first : (k : Place) (ks : List Place) → s.queue.row.line ≡ k ∷ ks → IsFirst h k
  is_first k ks e =
      let members : (j : Place) → stands_in (k ∷ ks) j ≡ queued h j = λ j. sym (ap (λ l. stands_in l j) e)
      ∙ is.line.members j in
      let rises : RisesBy (since h) (k ∷ ks) = subst (RisesBy (since h)) e is.line.order in
      record {
        there = sym (members k) ∙ itself k ks;
        before = λ j q apart. rises.0 j (behind k j ks (members j ∙ q) apart);
      }

  -- Where the line is empty, no key is queued.
  none_queued : s.queue.row.line ≡ [] → NoneQueued h
  none_queued e k = sym (is.line.members k) ∙ ap (λ l. stands_in l k) e

  -- Where the line is empty, ShutDown or Empty is what the operations say a Take is answered.
  nothing_says : (b : Bool) → s.queue.shut ≡ b → s.queue.row.line ≡ [] →
      OnTake h (Err (if b then No.ShutDown else No.Empty))
  nothing_says true e f = (none_queued f, sym is.shut ∙ e)
  nothing_says false e f = (none_queued f, sym is.shut ∙ e)

  -- A Take without a sync is answered as the operations say, has the line a first key or none.
  first_says : (w : ℕ) (l : List Place) → s.queue.row.line ≡ l → OnTake h (take_first s w (first l)).answer
  first_says w [] e = nothing_says s.queue.shut refl e
  first_says w (k ∷ ks) e = is_first k ks e

  -- A Take is answered as the operations say, has the caller a sync or none.
  take_says : (w : ℕ) (o : Option InFlight) → TakeSays h o (take_by s w o).answer
  take_says w None = first_says w s.queue.row.line refl
  take_says w (Some y) = refl

-- A worker at its plan may end well where no step is left (Done), and else is OutOfPhase.
work_says : (s : State) (w : ℕ) (k : Place) (work : Work) (b : Bool) → (finish_work s w k work b).answer
    ≡ (if b then Ok Say.Done else Err No.OutOfPhase)
work_says s w k work true = refl
work_says s w k work false = refl

-- The end of a sync by one who holds a key is answered as the phase of its sync says.
end_says : (s : State) (w : ℕ) (end : End) (k : Place) (p : Phase) → (finish_in s w end k p).answer ≡ on_end end p
end_says s w (Again now) k p = refl
end_says s w Well k Held = refl
end_says s w Well k (Seen c) = refl
end_says s w Well k (Listed c js) = refl
end_says s w Well k (Checked c js ks) = refl
end_says s w Well k (Works work) = work_says s w k work (is_over (step_at work.plan.steps work.place))

-- A Finish is answered as the caller's sync says; without a sync it is OutOfPhase.
finish_says : (s : State) (w : ℕ) (end : End) (o : Option InFlight) → (by_sync s (finish_in s w end) o).answer
    ≡ on_finish end o
finish_says s w end None = refl
finish_says s w end (Some y) = end_says s w end y.key y.phase

-- A worker's Take or Finish is answered as the operations and its sync say.
worker_says : (h : List Operation) (s : State) (w : ℕ) (call : Call) → IsQueue h s.queue
    → Says h (sync_of s w) Worker call (by_worker s w call).answer
unfolding take finish
worker_says h s w Of.Take is = take_says h s is w (sync_of s w)
worker_says h s w (Of.Finish end rs) is = finish_says s w end (sync_of s w)
worker_says h s w call is = tt

-- An informer's add, tick and shutdown are each answered Done.
informer_says : (h : List Operation) (s : State) (o : Option InFlight) (call : Call)
    → Says h o Informer call (by_informer s call).answer
informer_says h s o (Of.Add k) = refl
informer_says h s o (Of.Tick now) = refl
informer_says h s o Of.Shut = refl
informer_says h s o call = tt

-- Whatever the caller's role, its call of the queue is answered as the operations and its sync say.
role_says : (h : List Operation) (s : State) (role : Role) (w : ℕ) (call : Call) → IsQueue h s.queue
    → Says h (sync_of s w) role call (by_role s role w call).answer
role_says h s Worker w call is = worker_says h s w call is
role_says h s Informer w call is = informer_says h s (sync_of s w) call
role_says h s User w call is = tt
role_says h s Runner w call is = tt

-- A step at a queue that is what the operations say answers as the operations and the caller's sync
-- say.
step_says : (h : List Operation) (s : State) (caller : Caller) (call : Call) → IsQueue h s.queue
    → Says h (sync_of s caller.number) caller.role call (step_of s caller call).answer
unfolding step_of
step_says h s caller call is = role_says h s caller.role caller.number call is

-- For answer_law: after a legal history a call is answered as its operations and the caller's sync
-- say.
pub answers_agree : AnswerLaw
answers_agree window h caller call l =
    subst (λ (o : Option InFlight). Says (operations h) o caller.role call
    (step_of (state_of window h) caller call).answer)
    (syncs_agree window h l caller.number)
    (step_says (operations h) (state_of window h) caller call (queue_agrees window h l))
