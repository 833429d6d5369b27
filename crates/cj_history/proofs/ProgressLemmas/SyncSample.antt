-- A history after which a worker may begin a sync: a CronJob is created and its key added; and a
-- call aside.
use Rattle.std.proofs.Common.{◌≡◌, ℕ, Bool, true, false, List, [], ◌∷◌, Some, None, refl, sym, ap, subst, ◌∙◌}
use Rattle.std.specs.Prelude.{Result, Ok, ◌||◌}
use Rattle.cj_base.specs.declared.refusal.Refusal.{Refusal}
use Rattle.cj_types.specs.Keys.{Place}
use Rattle.cj_types.specs.declared.cron.CronJob.{CronJob}
use Rattle.cj_types.specs.declared.policy.Reason.{Reason}
use Rattle.cj_types.specs.declared.policy.Reason.TheVariants.{UnknownTimeZone}
use Rattle.cj_decide.specs.declared.start_decision.StartDecision.{StartDecision}
use Rattle.cj_decide.specs.StartDecisions.{rests, IsUnlessSuspended, IsStartDecision}
use Rattle.cj_decide.specs.Decision.{Planned}
use Rattle.cj_decide.proofs.Decided.{some_plan}
use Rattle.cj_world_laws.proofs.LegalLemmas.HeldSyncs.{syncs_agree}
use Rattle.cj_history.proofs.ProgressLemmas.Calls.{in_flight, finish_is}
use Rattle.cj_history.proofs.ProgressLemmas.Aside.{ok_entered}
use Rattle.cj_history.proofs.ProgressLemmas.Started.{IsRead}
use Rattle.cj_types.specs.declared.cron.CronJobDraft.{CronJobDraft}
use Rattle.cj_queue.specs.Queue.{Queue, first}
use Rattle.cj_calls.specs.declared.caller.Caller.{Caller}
use Rattle.cj_calls.specs.declared.caller.Role.{Role}
use Rattle.cj_calls.specs.declared.caller.Role.TheVariants.{Informer, Worker}
use Rattle.cj_calls.specs.declared.call.Call.TheVariants as Of
use Rattle.cj_calls.specs.declared.end.End.TheVariants.{Well}
use Rattle.cj_calls.specs.declared.reply.Reply.{Reply}
use Rattle.cj_calls.specs.declared.reply.Reply.TheVariants as Say
use Rattle.cj_calls.specs.Rows.{Told}
use Rattle.cj_state.specs.phases.Steps.{step_at}
use Rattle.cj_state.specs.declared.phases.sync.Work.{Work}
use Rattle.cj_state.specs.declared.phases.sync.Phase.TheVariants.{Works}
use Rattle.cj_state.specs.WorkerCalls.{Handled}
use Rattle.cj_state.specs.Step.{step_of}
use Rattle.cj_state.specs.Legal.{IsLegal, answer_of, state_of}
use Rattle.cj_world_laws.specs.once.Once.{is_ok}
use Rattle.cj_world_laws.specs.legal.InFlightSyncs.{sync}
use Rattle.cj_history.specs.queue.Deeds.{deed, next_of, operations}
use Rattle.cj_history.specs.queue.LookBacks.{is_shut, shut}
use Rattle.cj_history.specs.progress.Kept.{IsDone}
use Rattle.cj_history.specs.progress.Undisturbed.{worker, entry, AreAside}
use Rattle.cj_history.specs.progress.Syncs.{IsReady, IsFor, Closed, zoneless}
use Rattle.cj_history.proofs.QueueLemmas.Sample.{in_line}
use Rattle.cj_history.proofs.QueueLemmas.Agreed.{operations_agree}
use Rattle.cj_history.proofs.StoreLemmas.Sample.{a, told, created, new, legal_created}
use Rattle.cj_history.proofs.StoreLemmas.Stores.{store_agrees}
use Rattle.cj_history.proofs.ProgressLemmas.Whole.{makes_job}

-- d is the draft of the CronJob.
module _ (d : CronJobDraft) where
  -- the history in which a CronJob is created and its key added
  abbrev pub ready : List Told
  ready = told 2 Informer (Of.Add a) (Ok Say.Done) ∷ created d

  -- It is legal.
  pub legal_ready : IsLegal 3 ready
  unfolding step_of
  legal_ready = (refl, refl, legal_created d)

  -- After it the worker 5 may begin a sync of the CronJob.
  pub is_ready : IsReady 3 ready 5 a (new d 1 1)
  is_ready = record {
    idle = refl;
    line = ap (λ (q : Queue). first q.row.line) (operations_agree 3 ready legal_ready) ∙ in_line;
    stands = (store_agrees 3 ready legal_ready).crons a;
  }

  -- So its Take is accepted.
  pub takes : is_ok (answer_of 3 ready (worker 5) Of.Take) ≡ true
  takes = (makes_job 3 ready 5 a (new d 1 1) legal_ready is_ready).0

  -- A tick of an informer after it is aside, of the worker's number too.
  pub tick_aside : AreAside 5 a None (told 5 Informer (Of.Tick 7) (Ok Say.Done) ∷ []) (entry 3 ready 5 Of.Take ∷ ready)
  tick_aside = ((λ e. let role : ◌≡◌ {A = Role} Informer Worker = ap (λ (c : Caller). c.role) e in absurd (cc role)), tt, tt)

  -- With that tick the history is legal.
  pub legal_tick : IsLegal 3 (told 5 Informer (Of.Tick 7) (Ok Say.Done) ∷ entry 3 ready 5 Of.Take ∷ ready)
  unfolding step_of
  legal_tick = (refl, refl, (refl, ok_entered (answer_of 3 ready (worker 5) Of.Take) takes, legal_ready))

  -- So the worker's SeeCron after it is accepted.
  pub sees : is_ok (answer_of 3 (told 5 Informer (Of.Tick 7) (Ok Say.Done) ∷ entry 3 ready 5 Of.Take ∷ ready) (worker 5)
      Of.SeeCron) ≡ true
  sees = ((makes_job 3 ready 5 a (new d 1 1) legal_ready is_ready).1 (told 5 Informer (Of.Tick 7) (Ok Say.Done) ∷ [])
      legal_tick tick_aside).0

-- After the readings there is a plan for the answers: at any moment, for a CronJob that isn't
-- suspended, one whose zone isn't known.
pub has_plan : (window w : ℕ) (k : Place) (cron : CronJob) (h : List Told) → IsLegal window h
    → IsRead w k cron (state_of window h) → cron.spec.suspend ≡ false → (now : ℕ)
    → (p : Planned) × IsFor h w k p × Closed cron p × (p.at ≡ now)
has_plan window w k cron h l r e now =
    let v : StartDecision = rests (Some UnknownTimeZone) None in
    let is : (b : Bool) → IsStartDecision cron None b now v =
    λ b. subst (λ x. IsUnlessSuspended x cron None b now v) (sym e) refl in
    let d = some_plan cron r.jobs r.live now None v v (is true) (is false) in (
      record { cron = Some cron; jobs = r.jobs; active = r.live; at = now; zone = None; steps = d.0 },
      record { decided = d.1; rests = sym (syncs_agree window h l w) ∙ r.sync },
      zoneless e refl,
      refl,
    )

-- After the Finish of a worker that made all steps of a plan with a next time, its CronJob's sync
-- ended well with it.
pub is_done : (window : ℕ) (h : List Told) (w : ℕ) (k : Place) (work : Work) (reasons : List Reason) (t : ℕ)
    → IsLegal window h
    → sync h w ≡ Some (in_flight k (Works work)) → step_at work.plan.steps work.place ≡ None → work.plan.steps.next
    ≡ Some t
    → shut (operations h) ≡ false → IsDone (entry window h w (Of.Finish Well reasons) ∷ h) k t
is_done window h w k work reasons t l at over next runs =
    let answer : answer_of window h (worker w) (Of.Finish Well reasons) ≡ Ok Say.Done = ap (λ (x : Handled). x.answer)
    (finish_is (state_of window h) w k work reasons (syncs_agree window h l w ∙ at) over) in
    record {
      after = [];
      entry = entry window h w (Of.Finish Well reasons);
      before = h;
      is = refl;
      end = record { sits = in_flight k (Works work); held = at; key = refl; reasons = reasons; call = refl; answer = answer };
      next = ap next_of at ∙ next;
      runs = ap (λ (a : Result Reply Refusal). is_shut (deed (sync h w) (Of.Finish Well reasons) a)
          || shut (operations h))
          answer ∙ runs;
      untaken = tt;
    }
