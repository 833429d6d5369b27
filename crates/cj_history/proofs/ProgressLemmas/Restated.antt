-- What a worker's calls, and calls that don't write it, leave of a CronJob: all but its status and
-- its version.
use Rattle.std.proofs.Common.{◌≡◌, ℕ, Bool, true, false, cond, List, ◌∷◌, Option, Some, None, option_map, refl, sym, ap, subst, ◌∙◌}
use Rattle.std.specs.Prelude.{Result, Ok, Err}
use Rattle.std.specs.FinMap as map
use Rattle.cj_base.specs.declared.refusal.Refusal.{Refusal}
use Rattle.cj_types.specs.Keys.{Place}
use Rattle.cj_types.specs.declared.cron.CronJob.{CronJob}
use Rattle.cj_types.specs.declared.cron.CronStatus.{CronStatus}
use Rattle.cj_types.specs.declared.job.Job.{Job}
use Rattle.cj_types.specs.declared.event.Event.{Event}
use Rattle.cj_queue.specs.Parts.{key_eq}
use Rattle.cj_queue.proofs.Sets.{eq_true}
use Rattle.cj_decide.specs.Decision.{Planned}
use Rattle.cj_decide.specs.declared.start.Claim.{Claim}
use Rattle.cj_calls.specs.declared.call.Call.{Call}
use Rattle.cj_calls.specs.declared.call.Call.TheVariants as Of
use Rattle.cj_calls.specs.declared.reply.Reply.{Reply}
use Rattle.cj_calls.specs.declared.reply.Reply.TheVariants as Is
use Rattle.cj_calls.specs.Rows.{Told}
use Rattle.cj_state.specs.phases.Steps.{Step, drops, makes, sets, step_at}
use Rattle.cj_state.specs.declared.phases.sync.Phase.{Phase}
use Rattle.cj_state.specs.declared.phases.sync.Phase.TheVariants.{Works}
use Rattle.cj_state.specs.declared.phases.sync.InFlight.{InFlight}
use Rattle.cj_state.specs.Legal.{IsLegal, state_of}
use Rattle.cj_world_laws.specs.legal.Callers.{is_of_sync}
use Rattle.cj_world_laws.specs.legal.InFlightSyncs.{sync}
use Rattle.cj_history.specs.store.Written.{current_cron, current_job, written_again, status_set, job_deleted}
use Rattle.cj_history.specs.store.Writes.{claimed, stepped, stepped_in, stepped_by, written_by, entry_written, with_write, writes}
use Rattle.cj_history.proofs.StoreLemmas.Stores.{store_agrees}
use Rattle.cj_history.proofs.StoreLemmas.Answered.{cron_keyed}

-- one CronJob is another but for its status, its version, and what of its metadata plays no part
-- here
pub record IsRestated (old new : CronJob) : Type 0 where
  pub key : new.key ≡ old.key
  pub spec : new.spec ≡ old.spec
  pub uid : new.meta.uid ≡ old.meta.uid
  pub created : new.meta.created ≡ old.meta.created

-- Each is itself so.
pub itself : (c : CronJob) → IsRestated c c
itself c = record { key = refl; spec = refl; uid = refl; created = refl }

-- One that is restated twice is restated.
pub twice : (a b c : CronJob) → IsRestated a b → IsRestated b c → IsRestated a c
twice a b c f g = record { key = g.key ∙ f.key; spec = g.spec ∙ f.spec; uid = g.uid ∙ f.uid; created = g.created ∙ f.created }

-- such a CronJob is current at the key
abbrev Stays : List Event → Place → CronJob → Type 0
Stays ws k c = (d : CronJob) × (current_cron ws k ≡ Some d) × IsRestated c d

-- k is the key, and c the CronJob that is current there after the writes ws.
module _ (ws : List Event) (k : Place) (c : CronJob) (at : current_cron ws k ≡ Some c) where
  -- A status of the CronJob at any key leaves it so.
  status_stays : (i : Place) (st : CronStatus)
      → Stays (with_write (option_map (status_set ws st) (current_cron ws i)) ws) k c
  status_stays i st = by (current_cron ws i) refl
    where
      new : CronJob → CronJob
      new x = record x { meta = written_again ws x.meta; status = st }

      here : (x : CronJob) → current_cron ws i ≡ Some x → (b : Bool) → key_eq x.key k ≡ b
          → (d : CronJob) × (cond b (Some (new x)) (current_cron ws k) ≡ Some d) × IsRestated c d
      here x e true t =
          let one : x ≡ c = cc (sym e ∙ ap (current_cron ws) (sym (cron_keyed ws i x e) ∙ eq_true x.key k t) ∙ at) in (
            new x,
            refl,
            subst (λ (y : CronJob). IsRestated y (new x)) one
                (record { key = refl; spec = refl; uid = refl; created = refl }),
          )
      here x e false t = (c, at, itself c)

      by : (o : Option CronJob) → current_cron ws i ≡ o → Stays (with_write (option_map (status_set ws st) o) ws) k c
      by None e = (c, at, itself c)
      by (Some x) e = here x e (key_eq x.key k) refl

  -- A Job's deletion, if there is one, leaves it.
  gone_stays : (o : Option Job) → Stays (with_write (option_map (job_deleted ws) o) ws) k c
  gone_stays None = (c, at, itself c)
  gone_stays (Some j) = (c, at, itself c)

  -- A claim leaves it so.
  claim_stays : (o : Option InFlight) (y : Option Claim) → Stays (with_write (claimed ws o y) ws) k c
  claim_stays None y = (c, at, itself c)
  claim_stays (Some s) None = (c, at, itself c)
  claim_stays (Some s) (Some y) = status_stays s.key y.status

  -- So does a step of a plan.
  step_stays : (i : Place) (p : Planned) (o : Option Step) → Stays (with_write (stepped ws i p o) ws) k c
  step_stays i p None = (c, at, itself c)
  step_stays i p (Some (drops r)) = gone_stays (current_job ws r.key)
  step_stays i p (Some (makes d)) = (c, at, itself c)
  step_stays i p (Some (sets st)) = status_stays i st

  -- For sync_stays: by the phase.
  phase_stays : (i : Place) (p : Phase) → Stays (with_write (stepped_in ws i p) ws) k c
  phase_stays i (Works work) = step_stays i work.plan (step_at work.plan.steps work.place)
  phase_stays i p = (c, at, itself c)

  -- For call_stays: by the sync.
  sync_stays : (o : Option InFlight) → Stays (with_write (stepped_by ws o) ws) k c
  sync_stays None = (c, at, itself c)
  sync_stays (Some s) = phase_stays s.key s.phase

  -- So does each accepted call of a sync.
  call_stays : (o : Option InFlight) (call : Call) (r : Reply) → is_of_sync call ≡ true
      → Stays (with_write (written_by ws o call r) ws) k c
  call_stays o (Of.Claim p) (Is.Claimed (Some y)) i = claim_stays o p.steps.claim
  call_stays o Of.DropNext (Is.Dropped (Some d)) i = sync_stays o
  call_stays o Of.MakeNext r i = sync_stays o
  call_stays o Of.SetStatus r i = sync_stays o
  call_stays o Of.Take r i = (c, at, itself c)
  call_stays o Of.SeeCron r i = (c, at, itself c)
  call_stays o Of.SeeJobs r i = (c, at, itself c)
  call_stays o Of.SeeActive r i = (c, at, itself c)
  call_stays o (Of.Finish end reasons) r i = (c, at, itself c)
  call_stays o (Of.Claim p) r i = (c, at, itself c)
  call_stays o Of.DropNext r i = (c, at, itself c)
  call_stays o call r i = absurd (cc i)

  -- And each call of a sync, accepted or refused.
  entry_stays : (o : Option InFlight) (call : Call) (a : Result Reply Refusal) → is_of_sync call ≡ true
      → Stays (with_write (entry_written ws o call a) ws) k c
  entry_stays o call (Ok r) i = call_stays o call r i
  entry_stays o call (Err e) i = (c, at, itself c)

-- ---- in histories

-- the CronJob stands at the key, but for its status and its version
pub record Has (window : ℕ) (k : Place) (c : CronJob) (h : List Told) : Type 0 where
  pub now : CronJob
  pub stands : map.get (state_of window h).store.crons k ≡ Some now
  pub same : IsRestated c now

-- An entry that is a call of a sync leaves it standing so.
pub has_after : (window : ℕ) (k : Place) (c : CronJob) (e : Told) (h : List Told) → IsLegal window (e ∷ h)
    → is_of_sync e.call ≡ true → Has window k c h → Has window k c (e ∷ h)
has_after window k c e h l i f =
    let old : current_cron (writes h) k ≡ Some f.now = sym ((store_agrees window h l.2).crons k) ∙ f.stands in
    let new = entry_stays (writes h) k f.now old (sync h e.caller.number) e.call e.answer i in
    record {
      now = new.0;
      stands = (store_agrees window (e ∷ h) l).crons k ∙ new.1;
      same = twice c f.now new.0 f.same new.2;
    }
