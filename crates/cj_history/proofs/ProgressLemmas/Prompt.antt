-- When a sync is awaited, and that nothing is due before then.
use Rattle.std.proofs.Common.{◌≡◌, inl, inr, ℕ, ◌+◌, ◌<◌, ◌≤◌, Bool, true, false, List, [], ◌∷◌, Option, Some, None, refl, sym, ap, subst, ◌∙◌, arith}
use Rattle.std.specs.Prelude.{Result, Ok, Err, if◌then◌else◌}
use Rattle.cj_base.specs.declared.refusal.Refusal.TheVariants.{OutOfPhase}
use Rattle.cj_types.specs.Keys.{Place}
use Rattle.cj_types.specs.declared.cron.CronJob.{CronJob}
use Rattle.cj_types.specs.declared.job.Job.{Job}
use Rattle.cj_types.specs.declared.policy.Policy.{Policy}
use Rattle.cj_types.specs.declared.policy.Policy.TheVariants.{Allow, Forbid, Replace}
use Rattle.cj_types.specs.declared.policy.Reason.{Reason}
use Rattle.cj_schedule.specs.Matches.{Sets}
use Rattle.cj_schedule.specs.Grammar.{IsSchedule}
use Rattle.cj_zone.specs.declared.zone.Zone.{Zone}
use Rattle.cj_due.specs.declared.answer.Missed.{Missed}
use Rattle.cj_due.specs.declared.answer.Missed.TheVariants as Kind
use Rattle.cj_due.specs.Due.{reach, IsQuiet}
use Rattle.cj_status.specs.Refs.{has_any}
use Rattle.cj_decide.specs.declared.start_decision.StartDecision.{StartDecision}
use Rattle.cj_decide.specs.declared.steps.Steps.{Steps}
use Rattle.cj_decide.specs.StartDecisions.{by_policy, by_missed, IsNext, IsByText, IsByZone, IsUnlessSuspended}
use Rattle.cj_decide.specs.Decision.{running_of, IsDecision}
use Rattle.cj_calls.specs.Rows.{Told}
use Rattle.cj_calls.specs.declared.caller.Caller.{Caller}
use Rattle.cj_calls.specs.declared.caller.Role.{Role}
use Rattle.cj_calls.specs.declared.caller.Role.TheVariants.{Worker}
use Rattle.cj_calls.specs.declared.call.Call.{Call}
use Rattle.cj_calls.specs.declared.call.Call.TheVariants as Of
use Rattle.cj_calls.specs.declared.end.End.TheVariants.{Well}
use Rattle.cj_calls.specs.declared.reply.Reply.{Reply}
use Rattle.cj_calls.specs.declared.reply.Reply.TheVariants as Is
use Rattle.cj_state.specs.phases.Steps.{Step, step_at, is_over}
use Rattle.cj_state.specs.declared.phases.sync.Work.{Work}
use Rattle.cj_state.specs.declared.phases.sync.Phase.TheVariants.{Works}
use Rattle.cj_state.specs.Legal.{IsLegal, answer_of}
use Rattle.cj_world_laws.specs.legal.Exclusive.{IsTake}
use Rattle.cj_world_laws.specs.legal.InFlightSyncs.{sync}
use Rattle.cj_history.specs.queue.Answers.{on_finish, Says}
use Rattle.cj_history.specs.queue.Deeds.{next_of, operations}
use Rattle.cj_history.specs.progress.Undisturbed.{worker}
use Rattle.cj_history.specs.progress.Prompt.{IsOver}
use Rattle.cj_history.proofs.QueueLemmas.Answered.{answers_agree}
use Rattle.cj_history.proofs.ProgressLemmas.Missed.{one_schedule}
use Rattle.cj_history.proofs.ProgressLemmas.Calls.{in_flight}

-- ---- the next time of a plan

-- The policy plays no part in it.
policy_next : (p : Policy) (b : Bool) (t : ℕ) (n : Option ℕ) → (by_policy p b t n).next ≡ n
policy_next Forbid true t n = refl
policy_next Forbid false t n = refl
policy_next Replace b t n = refl
policy_next Allow b t n = refl

-- Nor do the times missed.
missed_next : (m : Missed) (p : Policy) (b : Bool) (n : Option ℕ) → (by_missed m p b n).next ≡ n
missed_next Kind.None p b n = refl
missed_next (Kind.Some count latest) p b n = policy_next p b latest n
missed_next (Kind.Many latest) p b n = policy_next p b latest n

-- In a known zone it is the first that is due.
text_next : (c : CronJob) (z : Zone) (b : Bool) (now : ℕ) (v : StartDecision) (s : Sets) → IsByText c z b now v
    → IsSchedule c.spec.schedule s → IsNext s z now v.next
text_next c z b now v s (inl (other, hs, (m, n, hm, hn, e))) reads =
    let same : other ≡ s = one_schedule c.spec.schedule other s hs reads in
    let next : v.next ≡ n = ap (λ (x : StartDecision). x.next) e ∙ missed_next m c.spec.policy b n in
    subst (λ (x : Option ℕ). IsNext s z now x) (sym next) (subst (λ (x : Sets). IsNext x z now n) same hn)
text_next c z b now v s (inr (none, e)) reads = absurd (none s reads)

-- So it is of a plan for a CronJob that isn't suspended.
pub next_due : (c : CronJob) (jobs : List Job) (found : List (Option Job)) (now : ℕ) (o : Option Zone) (p : Steps)
    (z : Zone) (s : Sets) → IsDecision c jobs found now o p → c.spec.suspend ≡ false → o ≡ Some z
    → IsSchedule c.spec.schedule s → IsNext s z now p.next
next_due c jobs found now o p z s d runs known reads =
    let busy : Bool = has_any (running_of c found) in
    let by : IsByZone c o busy now d.start =
    subst (λ b. IsUnlessSuspended b c o busy now d.start) runs d.decided in
    let next : IsNext s z now d.start.next =
    text_next c z busy now d.start s (subst (λ (x : Option Zone). IsByZone c x busy now d.start) known by) reads in
    subst (λ (x : Option ℕ). IsNext s z now x) (sym (ap (λ (x : Steps). x.next) d.meant.are)) next

-- Before it nothing is due.
pub quiet_next : (s : Sets) (z : Zone) (m n : ℕ) (next : Option ℕ) → IsNext s z m next
    → ((t : ℕ) → next ≡ Some t → n < t) → n ≤ m + reach → IsQuiet s z m n
quiet_next s z m n None quiet ahead within = λ t a b. quiet t a (omega (arith, b, within))
quiet_next s z m n (Some t) first ahead within = λ x a b.
    let l = ahead t refl in first.least x a (omega (arith, b, l))

-- ---- the end of a sync

-- An entry that isn't a Take of the key leaves it as its last sync left it.
pub over_on : (k : Place) (next : Option ℕ) (e : Told) (h : List Told) → (IsTake k e → ⊥) → IsOver h k next
    → IsOver (e ∷ h) k next
over_on k next e h not o = record {
  after = e ∷ o.after;
  entry = o.entry;
  before = o.before;
  is = ap (λ (x : List Told). e ∷ x) o.is;
  end = o.end;
  next_is = o.next_is;
  untaken = (not, o.untaken);
}

-- The Finish of one whose plan is worked off is answered Done.
finish_answered : (window : ℕ) (e : Told) (h : List Told) (w : ℕ) (k : Place) (work : Work) (reasons : List Reason)
    → IsLegal window (e ∷ h) → e.caller ≡ worker w → sync h w ≡ Some (in_flight k (Works work))
    → step_at work.plan.steps work.place ≡ None → e.call ≡ Of.Finish Well reasons → e.answer ≡ Ok Is.Done
finish_answered window e h w k work reasons l by at none call =
    let a : Result Reply _ = answer_of window h e.caller e.call in
    let says : a ≡ on_finish Well (sync h e.caller.number) =
    subst (λ (c : Call). Says (operations h) (sync h e.caller.number) Worker c a) call
    (subst (λ (r : Role). Says (operations h) (sync h e.caller.number) r e.call a)
    (ap (λ (c : Caller). c.role) by) (answers_agree window h e.caller e.call l.2)) in
    let held : sync h e.caller.number ≡ Some (in_flight k (Works work)) =
    ap (λ (c : Caller). sync h c.number) by ∙ at in
    l.0 ∙ says ∙ ap (on_finish Well) held
    ∙ ap (λ (o : Option Step). if is_over o then Ok Is.Done else Err OutOfPhase) none

-- With it the sync is over.
pub over_now : (window : ℕ) (e : Told) (h : List Told) (w : ℕ) (k : Place) (work : Work) (reasons : List Reason)
    → IsLegal window (e ∷ h) → e.caller ≡ worker w → sync h w ≡ Some (in_flight k (Works work))
    → step_at work.plan.steps work.place ≡ None → e.call ≡ Of.Finish Well reasons
    → IsOver (e ∷ h) k work.plan.steps.next
over_now window e h w k work reasons l by at none call =
    let held : sync h e.caller.number ≡ Some (in_flight k (Works work)) =
    ap (λ (c : Caller). sync h c.number) by ∙ at in
    record {
      after = [];
      entry = e;
      before = h;
      is = refl;
      end = record {
        sits = in_flight k (Works work);
        held = held;
        key = refl;
        reasons = reasons;
        call = call;
        answer = finish_answered window e h w k work reasons l by at none call;
      };
      next_is = ap next_of held;
      untaken = tt;
    }
