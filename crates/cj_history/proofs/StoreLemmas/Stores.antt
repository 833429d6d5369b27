-- The store of the state and the writes of the list agree.
use Rattle.std.proofs.Common.{◌≡◌, ℕ, List, [], ◌∷◌, sym, ap, subst, ◌∙◌}
use Rattle.std.specs.Prelude.{Option, Some, None, Result}
use Rattle.cj_base.specs.declared.refusal.Refusal.{Refusal}
use Rattle.cj_types.specs.declared.event.Event.{Event}
use Rattle.cj_calls.specs.declared.reply.Reply.{Reply}
use Rattle.cj_calls.specs.Rows.{Told}
use Rattle.cj_state.specs.declared.phases.sync.InFlight.{InFlight}
use Rattle.cj_store.specs.Content.{Content}
use Rattle.cj_state.specs.WorkerCalls.{sync_of}
use Rattle.cj_state.specs.Step.{step_of}
use Rattle.cj_state.specs.Legal.{IsLegal, state_of}
use Rattle.cj_world_laws.specs.legal.InFlightSyncs.{sync}
use Rattle.cj_world_laws.proofs.LegalLemmas.HeldSyncs.{syncs_agree}
use Rattle.cj_history.specs.store.Writes.{entry_written, with_write, writes}
use Rattle.cj_history.specs.store.Store.{IsStore, StoreLaw}
use Rattle.cj_history.proofs.StoreLemmas.Alike.{begins, one_more}
use Rattle.cj_history.proofs.StoreLemmas.Keeps.{Keeps, stored, keeps}

-- A content that has what the writes left still has it, with one write more or none.
with_one : (ws : List Event) (s : Content) (o : Option Event) → IsStore ws s → IsStore (with_write o ws) (stored o s)
with_one ws s None is = is
with_one ws s (Some w) is = one_more ws s w is

-- what an entry of a legal history writes
abbrev pub entry_writes : ℕ → Told → List Told → Option Event
entry_writes window e h = entry_written (writes h) (sync h e.caller.number) e.call e.answer

-- is what its step writes
pub written_is : (window : ℕ) (e : Told) (h : List Told) → IsLegal window (e ∷ h)
    → entry_written (writes h) (sync_of (state_of window h) e.caller.number) e.call
    (step_of (state_of window h) e.caller e.call).answer ≡ entry_writes window e h
written_is window e h l =
    ap (λ (o : Option InFlight). entry_written (writes h) o e.call (step_of (state_of window h) e.caller e.call).answer)
    (syncs_agree window h l.2 e.caller.number)
    ∙ ap (λ (a : Result Reply Refusal). entry_written (writes h) (sync h e.caller.number) e.call a) (sym l.0)

-- For store_law: after a legal history the store has what the writes left.
pub store_agrees : StoreLaw
store_agrees window [] l = begins
store_agrees window (e ∷ h) l =
    let is : IsStore (writes h) (state_of window h).store = store_agrees window h l.2 in
    let k : Keeps (writes h) (sync_of (state_of window h) e.caller.number) e.call (state_of window h)
    (step_of (state_of window h) e.caller e.call) =
    keeps (writes h) (state_of window h) e.caller e.call is in
    subst (λ (s : Content). IsStore (writes (e ∷ h)) s)
    (sym (k.store ∙ ap (λ o. stored o (state_of window h).store) (written_is window e h l)))
    (with_one (writes h) (state_of window h).store (entry_writes window e h) is)
