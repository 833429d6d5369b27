-- Looking back gives a call one answer.
use Rattle.std.proofs.Common.{◌≡◌, ℕ, List, [], ◌∷◌, Option, Some, None, sym, ap, subst, ◌∙◌}
use Rattle.std.specs.Prelude.{Result, Ok}
use Rattle.cj_types.specs.Keys.{Place}
use Rattle.cj_types.specs.declared.cron.CronJob.{CronJob}
use Rattle.cj_types.specs.declared.job.Job.{Job}
use Rattle.cj_types.specs.declared.event.Event.{Event}
use Rattle.cj_base.specs.declared.refusal.Refusal.{Refusal}
use Rattle.cj_table.specs.jobs.Owners.{is_job_of}
use Rattle.cj_calls.specs.declared.caller.Caller.{Caller}
use Rattle.cj_calls.specs.declared.caller.Role.{Role}
use Rattle.cj_calls.specs.declared.caller.Role.TheVariants.{User, Runner, Informer, Worker}
use Rattle.cj_calls.specs.declared.call.Call.{Call}
use Rattle.cj_calls.specs.declared.call.Call.TheVariants as Of
use Rattle.cj_calls.specs.declared.reply.Reply.{Reply}
use Rattle.cj_calls.specs.declared.reply.Reply.TheVariants as Say
use Rattle.cj_calls.specs.Rows.{Told}
use Rattle.cj_state.specs.declared.phases.sync.Phase.{Phase}
use Rattle.cj_state.specs.declared.phases.sync.Phase.TheVariants.{Held, Seen, Listed, Checked, Works}
use Rattle.cj_state.specs.declared.phases.sync.InFlight.{InFlight}
use Rattle.cj_state.specs.Legal.{IsLegal, answer_of}
use Rattle.cj_world_laws.specs.legal.InFlightSyncs.{sync}
use Rattle.cj_world_laws.proofs.LegalLemmas.Hands.{always_exclusive}
use Rattle.cj_history.specs.store.Written.{version, current_cron, current_job}
use Rattle.cj_history.specs.store.Lists.{IsListing, passing}
use Rattle.cj_history.specs.store.Writes.{writes}
use Rattle.cj_history.specs.store.Mirrors.{earliest, fed}
use Rattle.cj_history.specs.store.Answers as store
use Rattle.cj_history.proofs.StoreLemmas.Answered as stores
use Rattle.cj_history.specs.queue.Deeds.{Operation, operations}
use Rattle.cj_history.specs.queue.Answers as queue
use Rattle.cj_history.proofs.QueueLemmas.Answered as queues
use Rattle.cj_history.specs.Legal.{IsAnswered, IsLawful, LegalLaw, OneAnswer, AlwaysExclusive}
use Rattle.cj_history.proofs.Lists.{one_listing}
use Rattle.cj_history.proofs.Firsts.{one_taken}

abbrev Answer : Type 0
Answer = Result Reply Refusal

-- an answer that is made of a listing
abbrev Lists : {X : Type 0} → (X → Place) → (Place → Option X) → (List X → Answer) → Answer → Type 0
Lists {X} key now say a = (xs : List X) × (a ≡ say xs) × IsListing key now xs

-- Two answers that are made, in one way, of listings of the same objects are the same.
one_listed : {X : Type 0} (key : X → Place) (now : Place → Option X) (say : List X → Answer) (a b : Answer)
    → Lists key now say a → Lists key now say b → a ≡ b
one_listed key now say a b p q = p.1 ∙ ap say (one_listing key now p.0 q.0 p.2 q.2) ∙ sym q.1

-- a and b are answers by the writes ws, of which the listing knows n, the operations h and the sync
-- o.
module _ (window n : ℕ) (ws : List Event) (h : List Operation) (o : Option InFlight) (a b : Answer) where
  -- if looking back gives both answers to the call, they are the same
  abbrev Two : Role → Call → Type 0
  Two role call = store.Says window n ws o role call a → store.Says window n ws o role call b
      → queue.Says h o role call a → queue.Says h o role call b → a ≡ b

  -- Looking back gives a user's call one answer, be it a list or not.
  one_user : (call : Call) → Two User call
  one_user Of.ListCrons p q r s = one_listed (λ (c : CronJob). c.key) (current_cron ws)
      (λ cs. Ok (Say.Crons cs (version ws))) a b p q
  one_user Of.ListJobs p q r s = one_listed (λ (j : Job). j.key) (current_job ws)
      (λ js. Ok (Say.Jobs js (version ws))) a b p q
  one_user call p q r s = p ∙ sym q

  -- Looking back gives a runner's call one answer, be it a list or not.
  one_runner : (call : Call) → Two Runner call
  one_runner Of.ListCrons p q r s = one_listed (λ (c : CronJob). c.key) (current_cron ws)
      (λ cs. Ok (Say.Crons cs (version ws))) a b p q
  one_runner Of.ListJobs p q r s = one_listed (λ (j : Job). j.key) (current_job ws)
      (λ js. Ok (Say.Jobs js (version ws))) a b p q
  one_runner call p q r s = p ∙ sym q

  -- Looking back gives an informer's call one answer, be it of the store or of the queue.
  one_informer : (call : Call) → Two Informer call
  one_informer (Of.Add k) p q r s = r ∙ sym s
  one_informer (Of.Tick now) p q r s = r ∙ sym s
  one_informer Of.Shut p q r s = r ∙ sym s
  one_informer Of.ListCrons p q r s = one_listed (λ (c : CronJob). c.key) (current_cron ws)
      (λ cs. Ok (Say.Crons cs (version ws))) a b p q
  one_informer Of.ListJobs p q r s = one_listed (λ (j : Job). j.key) (current_job ws)
      (λ js. Ok (Say.Jobs js (version ws))) a b p q
  one_informer call p q r s = p ∙ sym q

  -- Looking back gives a SeeJobs one answer in each phase.
  one_phase : (k : Place) (x : Phase) → store.SeesJobs n ws k x a → store.SeesJobs n ws k x b → a ≡ b
  one_phase k (Seen c) p q = one_listed (λ (j : Job). j.key)
      (λ i. passing (is_job_of k) (current_job (earliest n ws) i)) (λ js. Ok (Say.SeenJobs js)) a b p q
  one_phase k Held p q = p ∙ sym q
  one_phase k (Listed c js) p q = p ∙ sym q
  one_phase k (Checked c js ks) p q = p ∙ sym q
  one_phase k (Works work) p q = p ∙ sym q

  -- Looking back gives a SeeJobs one answer, has the caller a sync or none.
  one_seen : (x : Option InFlight) → store.OnSeeJobs n ws x a → store.OnSeeJobs n ws x b → a ≡ b
  one_seen None p q = p ∙ sym q
  one_seen (Some y) p q = one_phase y.key y.phase p q

  -- Looking back gives a worker's call one answer, be it of the store or of the queue.
  one_worker : (call : Call) → Two Worker call
  one_worker Of.SeeJobs p q r s = one_seen o p q
  one_worker Of.Take p q r s = one_taken h o a b r s
  one_worker (Of.Finish end reasons) p q r s = r ∙ sym s
  one_worker call p q r s = p ∙ sym q

  -- Looking back gives a call of any role one answer.
  one_answer : (role : Role) (call : Call) → Two role call
  one_answer User call = one_user call
  one_answer Runner call = one_runner call
  one_answer Informer call = one_informer call
  one_answer Worker call = one_worker call

-- Two answers that looking back gives to one call are the same.
same_answer : (window : ℕ) (h : List Told) (caller : Caller) (call : Call) (a b : Answer)
    → IsAnswered window h caller call a → IsAnswered window h caller call b → a ≡ b
same_answer window h caller call a b p q =
    one_answer window (fed window h) (writes h) (operations h) (sync h caller.number) a b caller.role call p.of_store
    q.of_store p.of_queue q.of_queue

-- The answer of the state after a legal history is one that looking back gives.
answered : (window : ℕ) (h : List Told) (caller : Caller) (call : Call) → IsLegal window h
    → IsAnswered window h caller call (answer_of window h caller call)
answered window h caller call l = record {
  of_store = stores.answers_agree window h caller call l;
  of_queue = queues.answers_agree window h caller call l;
}

-- A history that is legal by the state is lawful by looking back.
pub lawful : (window : ℕ) (h : List Told) → IsLegal window h → IsLawful window h
lawful window [] l = tt
lawful window (e ∷ h) l = (
  subst (λ (a : Answer). IsAnswered window h e.caller e.call a) (sym l.0)
      (answered window h e.caller e.call l.2),
  l.1,
  lawful window h l.2,
)

-- A history that is lawful by looking back is legal by the state.
pub legal : (window : ℕ) (h : List Told) → IsLawful window h → IsLegal window h
legal window [] l = tt
legal window (e ∷ h) l =
    let r : IsLegal window h = legal window h l.2 in (
      same_answer window h e.caller e.call e.answer (answer_of window h e.caller e.call) l.0
          (answered window h e.caller e.call r),
      l.1,
      r,
    )

-- For legal_law: a history is legal by the state just where it is lawful by looking back.
pub legal_law : LegalLaw
legal_law window h = (lawful window h, legal window h)

-- For answer_law: looking back gives a call just one answer, that of the state.
pub one_law : OneAnswer
one_law window h caller call a l =
    let r : IsLegal window h = legal window h l in (
      (λ p. same_answer window h caller call a (answer_of window h caller call) p (answered window h caller call r)),
      (λ e. subst (λ (x : Answer). IsAnswered window h caller call x) (sym e) (answered window h caller call r)),
    )

-- For exclusive_law: in a lawful history a key's taker ends its sync before the next Take of it.
pub exclusive : AlwaysExclusive
exclusive window h l = always_exclusive window h (legal window h l)
