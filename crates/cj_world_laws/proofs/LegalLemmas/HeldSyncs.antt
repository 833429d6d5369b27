-- The syncs of the state and those of the list agree.
use Rattle.std.proofs.Common.{◌≡◌, ℕ, Bool, true, false, cond, List, [], ◌∷◌, refl, sym, ap, ◌∙◌, arith}
use Rattle.std.specs.Prelude.{Option, Some, None, ◌==◌, if◌then◌else◌, Result}
use Rattle.std.specs.Ordering.{nat_cmp, eq_by_cmp}
use Rattle.std.specs.Cmp.{nat_cmp_total}
use Rattle.std.specs.FinMap as map
use Rattle.std.proofs.lemmas.Bool.Decides.{nat_tests}
use Rattle.cj_base.specs.declared.refusal.Refusal.{Refusal}
use Rattle.cj_calls.specs.declared.call.Call.{Call}
use Rattle.cj_calls.specs.declared.reply.Reply.{Reply}
use Rattle.cj_calls.specs.Rows.{Told}
use Rattle.cj_state.specs.declared.phases.sync.InFlight.{InFlight}
use Rattle.cj_state.specs.declared.state.State.{State}
use Rattle.cj_state.specs.WorkerCalls.{Handled, sync_of}
use Rattle.cj_state.specs.Step.{step_of}
use Rattle.cj_state.specs.Legal.{IsLegal, state_of}
use Rattle.cj_world_laws.proofs.LegalLemmas.Sound.{whole_of}
use Rattle.cj_world_laws.specs.legal.InFlightSyncs.{sync, sync_after}
use Rattle.cj_world_laws.proofs.LegalLemmas.SyncChanges.{SyncChange, kept, set_to, left_at, sync_change}

-- Two numbers are equal by the order's test just where they are by the test of numbers.
same_number : (q k : ℕ) → eq_by_cmp nat_cmp q k ≡ (q == k)
same_number q k = grind (arith, nat_tests)

-- Numbers that the test takes for equal are equal.
number_is : (q k : ℕ) → (q == k) ≡ true → q ≡ k
number_is q k e = grind (arith, nat_tests)

-- at the caller's number what the answer says, elsewhere what was there
module _ (s : State) (n : ℕ) (call : Call) (m : Handled) where
  -- For sync_step: where the call leaves the syncs, and the answer says so, each sync is as said.
  kept_case : (w : ℕ) (b : Bool) → (b ≡ true → w ≡ n) → m.state.syncs ≡ s.syncs
      → sync_after (sync_of s n) call m.answer ≡ sync_of s n
      → map.get m.state.syncs w ≡ (if b then sync_after (sync_of s w) call m.answer else sync_of s w)
  kept_case w true i e f = let j = i refl in ap (λ t. map.get t w) e ∙ ap (map.get s.syncs) j ∙ sym f
      ∙ ap (λ x. sync_after (sync_of s x) call m.answer) (sym j)
  kept_case w false i e f = ap (λ t. map.get t w) e

  -- For sync_step: where only the caller's sync changes, to what the answer says, each is as said.
  new_case : (w : ℕ) (b : Bool) (o : Option InFlight) → (b ≡ true → w ≡ n) → map.get m.state.syncs w
      ≡ cond b o (sync_of s w) → sync_after (sync_of s n) call m.answer ≡ o
      → map.get m.state.syncs w ≡ (if b then sync_after (sync_of s w) call m.answer else sync_of s w)
  new_case w true o i e f = e ∙ sym f ∙ ap (λ x. sync_after (sync_of s x) call m.answer) (sym (i refl))
  new_case w false o i e f = e

  -- After a call the caller's number has the sync that the answer says, others their old one.
  pub sync_step : (w : ℕ) → SyncChange s n call m → map.get m.state.syncs w
      ≡ (if w == n then sync_after (sync_of s w) call m.answer else sync_of s w)
  sync_step w (kept e f) = kept_case w (w == n) (number_is w n) e f
  sync_step w (set_to x e f) =
      new_case w (w == n) (Some x) (number_is w n) (ap (λ t. map.get t w) e ∙ map.get-insert nat_cmp_total s.syncs n x w
      ∙ ap (λ b. cond b (Some x) (sync_of s w)) (same_number w n)) f
  sync_step w (left_at e f) =
      new_case w (w == n) None (number_is w n) (ap (λ t. map.get t w) e ∙ map.get-remove nat_cmp_total s.syncs n w
      ∙ ap (λ b. cond b None (sync_of s w)) (same_number w n)) f

-- Equal answers after equal syncs leave equal syncs, whether or not the sync's worker called.
sync_eq : (b : Bool) (call : Call) (a c : Result Reply Refusal) (o p : Option InFlight) → c ≡ a → o ≡ p
    → (if b then sync_after o call a else o) ≡ (if b then sync_after p call c else p)
sync_eq b call a c o p e f = ap (λ x. if b then sync_after o call x else o) (sym e)
    ∙ ap (λ x. if b then sync_after x call c else x) f

-- For sync_law: after a legal history the state's syncs are those that its entries give.
pub syncs_agree : (window : ℕ) (h : List Told) → IsLegal window h → (w : ℕ)
    → map.get (state_of window h).syncs w ≡ sync h w
syncs_agree window [] l w = map.get-empty nat_cmp w
syncs_agree window (e ∷ h) l w =
    sync_step (state_of window h) e.caller.number e.call (step_of (state_of window h) e.caller e.call) w
    (sync_change (state_of window h) e.caller e.call)
    ∙ sync_eq (w == e.caller.number) e.call _ e.answer _ _ l.0 (syncs_agree window h l.2 w)

-- For sync_law: after a legal history no two workers hold one key.
pub one_holder : (window : ℕ) (h : List Told) → IsLegal window h → (v w : ℕ) (a b : InFlight) → sync h v ≡ Some a
    → sync h w ≡ Some b → a.key ≡ b.key → v ≡ w
one_holder window h l v w a b e f i = (whole_of window h).sat.single v w a b (syncs_agree window h l v ∙ e)
    (syncs_agree window h l w ∙ f) i
