-- A world is at rest just where its operations leave no key queued or held.
use Rattle.std.proofs.Common.{◌≡◌, ℕ, ◌==◌, Bool, true, false, List, [], ◌∷◌, Option, Some, None, is_some, refl, sym, ap, ◌∙◌, arith}
use Rattle.std.specs.FinMap as map
use Rattle.std.specs.FinMap.{same_map, nat_cmp-IsAntisymmetric}
use Rattle.std.specs.Ordering.{nat_cmp}
use Rattle.std.specs.Cmp.{nat_cmp_total}
use Rattle.std.proofs.lemmas.Bool.Decides.{nat_tests}
use Rattle.cj_types.specs.Keys.{Place}
use Rattle.cj_queue.specs.Parts.{stands_in}
use Rattle.cj_queue.proofs.Sets.{eq_self}
use Rattle.cj_calls.specs.Rows.{Told}
use Rattle.cj_state.specs.declared.phases.sync.InFlight.{InFlight}
use Rattle.cj_state.specs.Legal.{IsLegal, state_of}
use Rattle.cj_world_laws.specs.legal.Rest.{IsAtRest}
use Rattle.cj_world_laws.specs.legal.InFlightSyncs.{sync}
use Rattle.cj_world_laws.proofs.LegalLemmas.HeldSyncs.{syncs_agree}
use Rattle.cj_history.specs.queue.Deeds.{operations}
use Rattle.cj_history.specs.queue.LookBacks.{is_by, holder, queued}
use Rattle.cj_history.specs.queue.Rest.{IsQuiet, RestLaw}
use Rattle.cj_history.proofs.QueueLemmas.Turns.{key_of}
use Rattle.cj_history.proofs.QueueLemmas.Rows.{itself}
use Rattle.cj_history.proofs.QueueLemmas.Holders.{holds}
use Rattle.cj_history.proofs.QueueLemmas.Whole.{Stands}
use Rattle.cj_history.proofs.QueueLemmas.Agreed.{keys_of, stands}

-- A number is equal to itself by the test.
same_number : (w : ℕ) → (w == w) ≡ true
same_number w = grind (arith, nat_tests)

-- Where no caller has a key, no key has a holder.
none_held : (o : Option ℕ) (keys : ℕ → Option Place) (k : Place) → ((w : ℕ) → is_by o w ≡ holds (keys w) k)
    → ((w : ℕ) → keys w ≡ None) → is_some o ≡ false
none_held None keys k tie none = refl
none_held (Some w) keys k tie none =
    absurd (let held : true ≡ false = sym (same_number w) ∙ tie w ∙ ap (λ t. holds t k) (none w) in cc held)

-- A key that has no holder is held by no given caller.
free_of : (o : Option ℕ) (w : ℕ) → is_some o ≡ false → is_by o w ≡ false
free_of None w e = refl
free_of (Some v) w e = absurd (cc e)

-- Where no key has a holder, no caller has a sync.
no_sync : (o : Option InFlight) (by_key : Place → Option ℕ) (w : ℕ)
    → ((k : Place) → is_by (by_key k) w ≡ holds (key_of o) k)
    → ((k : Place) → is_some (by_key k) ≡ false) → o ≡ None
no_sync None by_key w tie free = refl
no_sync (Some s) by_key w tie free =
    absurd (let held : true ≡ false = sym (eq_self s.key) ∙ sym (tie s.key)
    ∙ free_of (by_key s.key) w (free s.key) in cc held)

-- A list in which no key stands is empty.
no_line : (xs : List Place) (Q : Place → Bool) → ((k : Place) → stands_in xs k ≡ Q k) → ((k : Place) → Q k ≡ false)
    → xs ≡ []
no_line [] Q is none = refl
no_line (x ∷ xs) Q is none = absurd (let in_line : true ≡ false = sym (itself x xs) ∙ is x ∙ none x in cc in_line)

module _ (window : ℕ) (h : List Told) (l : IsLegal window h) where
  agreed : Stands (operations h) (keys_of h) (state_of window h).queue
  agreed = stands window h l

  -- Where no worker has a sync in the state, none has one by its entries.
  none_in_flight : (state_of window h).syncs ≡ map.empty → (w : ℕ) → sync h w ≡ None
  none_in_flight e w = sym (syncs_agree window h l w) ∙ ap (λ m. map.get m w) e ∙ map.get-empty nat_cmp w

  -- A world at rest has a quiet history.
  quiet_at_rest : IsAtRest (state_of window h) → IsQuiet (operations h)
  quiet_at_rest rest = record {
    line = λ k. sym (agreed.part.row.members k) ∙ ap (λ xs. stands_in xs k) rest.0;
    hands = λ k. none_held (holder (operations h) k) (keys_of h) k (agreed.tied k)
        (λ w. ap key_of (none_in_flight rest.1 w));
  }

  -- After a quiet history the world is at rest.
  at_rest_quiet : IsQuiet (operations h) → IsAtRest (state_of window h)
  at_rest_quiet quiet = (
    no_line (state_of window h).queue.row.line (queued (operations h)) agreed.part.row.members quiet.line,
    same_map nat_cmp_total nat_cmp-IsAntisymmetric _ _ (λ w.
        syncs_agree window h l w ∙ no_sync (sync h w) (holder (operations h)) w (λ k. agreed.tied k w) quiet.hands
        ∙ sym (map.get-empty nat_cmp w)),
  )

-- For rest_law: a world is at rest just where its history is quiet.
pub rests_agree : RestLaw
rests_agree window h l = (quiet_at_rest window h l, at_rest_quiet window h l)
