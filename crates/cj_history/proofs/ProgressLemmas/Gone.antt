-- Who deletes a CronJob writes it.
use Rattle.std.proofs.Common.{◌≡◌, false, List, ◌∷◌, Option, Some, None, option_map, refl, sym, ap, subst, ◌∙◌}
use Rattle.std.specs.Prelude.{IfSome, ℕ, Result, Ok}
use Rattle.std.specs.FinMap as map
use Rattle.cj_base.specs.declared.refusal.Refusal.{Refusal}
use Rattle.cj_types.specs.Keys.{Place}
use Rattle.cj_types.specs.declared.cron.CronJob.{CronJob}
use Rattle.cj_types.specs.declared.event.Event.{Event}
use Rattle.cj_store.specs.Change.{map_ok, cron_gone}
use Rattle.cj_store.specs.Crons.{cron_deleted_from}
use Rattle.cj_queue.specs.Parts.{key_eq}
use Rattle.cj_queue.proofs.Sets.{eq_self}
use Rattle.cj_calls.specs.Rows.{Told}
use Rattle.cj_calls.specs.declared.caller.Role.{Role}
use Rattle.cj_calls.specs.declared.caller.Role.TheVariants.{User, Runner, Informer, Worker}
use Rattle.cj_calls.specs.declared.call.Call.{Call}
use Rattle.cj_calls.specs.declared.call.Call.TheVariants as Of
use Rattle.cj_calls.specs.declared.reply.Reply.{Reply}
use Rattle.cj_state.specs.declared.state.State.{State}
use Rattle.cj_state.specs.WorkerCalls.{version_reply}
use Rattle.cj_state.specs.Step as turns
use Rattle.cj_state.specs.Step.{by_role, by_user, step_of}
use Rattle.cj_state.specs.Legal.{IsLegal, state_of}
use Rattle.cj_world_laws.specs.legal.InFlightSyncs.{sync}
use Rattle.cj_history.specs.store.Written.{current_cron, cron_deleted}
use Rattle.cj_history.specs.store.Writes.{entry_written, writes}
use Rattle.cj_history.specs.progress.Undisturbed.{object_of, is_of}
use Rattle.cj_history.specs.progress.Apart.{Spares}
use Rattle.cj_history.proofs.StoreLemmas.Answered.{cron_keyed}
use Rattle.cj_history.proofs.StoreLemmas.Stores.{store_agrees}

-- An accepted deletion of a CronJob is a user's.
role_deletes : (s : State) (role : Role) (w : ℕ) (k : Place) (r : Reply)
    → Ok r ≡ (by_role s role w (Of.DeleteCron k)).answer
    → (role ≡ User) × (◌≡◌ {A = Result Reply Refusal} (Ok r) (by_user s (Of.DeleteCron k)).answer)
role_deletes s User w k r e = (refl, e)
role_deletes s Runner w k r e = absurd (cc e)
role_deletes s Informer w k r e = absurd (cc e)
role_deletes s Worker w k r e = absurd (cc e)

-- So is one in a history.
call_deletes : (s : State) (role : Role) (w : ℕ) (k : Place) (r : Reply)
    → Ok r ≡ (step_of s (record { number = w; role = role }) (Of.DeleteCron k)).answer
    → (role ≡ User) × (◌≡◌ {A = Result Reply Refusal} (Ok r) (by_user s (Of.DeleteCron k)).answer)
unfolding step_of
call_deletes s role w k r e = role_deletes s role w k r e

-- It writes the CronJob that stands at the key, since one does.
gone_by : (s : State) (ws : List Event) (k : Place) (r : Reply) (o : Option CronJob) → map.get s.store.crons k ≡ o
    → current_cron ws k ≡ o → ((c : CronJob) → o ≡ Some c → c.key ≡ k)
    → ◌≡◌ {A = Result Reply Refusal} (Ok r) (by_user s (Of.DeleteCron k)).answer
    → IfSome (option_map (cron_deleted ws) (current_cron ws k)) (λ x. is_of k None (object_of x) ≡ false) → ⊥
gone_by s ws k r None at now keyed told spares =
    cc (told ∙ ap (λ (x : Option CronJob).
    (turns.writes s version_reply (map_ok cron_gone (cron_deleted_from s.store x))).answer) at)
gone_by s ws k r (Some c) at now keyed told spares =
    let off : key_eq c.key k ≡ false =
    subst (λ (x : Option CronJob). IfSome (option_map (cron_deleted ws) x) (λ y. is_of k None (object_of y) ≡ false))
    now spares in
    cc (sym off ∙ ap (λ (q : Place). key_eq q k) (keyed c refl) ∙ eq_self k)

-- Who deletes a CronJob writes it.
pub deletes_it : (window : ℕ) (e : Told) (h : List Told) (k : Place) (r : Reply) → IsLegal window (e ∷ h)
    → e.call ≡ Of.DeleteCron k → e.answer ≡ Ok r → (e.caller.role ≡ User → Spares h e k None) → ⊥
deletes_it window e h k r l call answer spares =
    let s : State = state_of window h in
    let ws : List Event = writes h in
    let told : Ok r ≡ (step_of s e.caller (Of.DeleteCron k)).answer =
    sym answer ∙ (l.0 ∙ ap (λ (c : Call). (step_of s e.caller c).answer) call) in
    let by = call_deletes s e.caller.role e.caller.number k r told in
    let here : IfSome (option_map (cron_deleted ws) (current_cron ws k)) (λ x. is_of k None (object_of x) ≡ false) =
    subst (λ (a : Result Reply Refusal). IfSome (entry_written ws (sync h e.caller.number) (Of.DeleteCron k) a)
    (λ x. is_of k None (object_of x) ≡ false)) answer
    (subst (λ (c : Call). IfSome (entry_written ws (sync h e.caller.number) c e.answer)
    (λ x. is_of k None (object_of x) ≡ false)) call (spares by.0)) in
    gone_by s ws k r (current_cron ws k) ((store_agrees window h l.2).crons k) refl (cron_keyed ws k) by.1 here
