-- Histories of a few calls, which are legal, and on which the look-backs compute.
use Rattle.std.proofs.Common.{◌≡◌, ℕ, true, false, List, [], ◌∷◌, Option, Some, None, is_some, refl, sym, ap, ◌∙◌}
use Rattle.std.specs.Prelude.{Result, Ok, if◌then◌else◌}
use Rattle.std.specs.Ordering.{nat_cmp}
use Rattle.std.specs.FinMap as map
use Rattle.cj_base.specs.declared.refusal.Refusal.{Refusal}
use Rattle.cj_types.specs.Keys.{Place, place, place_cmp}
use Rattle.cj_calls.specs.declared.caller.Role.{Role}
use Rattle.cj_calls.specs.declared.caller.Role.TheVariants.{Informer, Worker}
use Rattle.cj_calls.specs.declared.call.Call.{Call}
use Rattle.cj_calls.specs.declared.call.Call.TheVariants as Of
use Rattle.cj_calls.specs.declared.end.End.TheVariants.{Again}
use Rattle.cj_calls.specs.declared.reply.Reply.{Reply}
use Rattle.cj_calls.specs.declared.reply.Reply.TheVariants as Say
use Rattle.cj_calls.specs.Rows.{Told}
use Rattle.cj_state.specs.declared.phases.sync.InFlight.{InFlight}
use Rattle.cj_queue.specs.Queue.{has, first, new_row, row_add}
use Rattle.cj_state.specs.declared.state.State.{State}
use Rattle.cj_state.specs.WorkerCalls.{sync_of, take, take_by, take_first}
use Rattle.cj_state.specs.Step.{step_of}
use Rattle.cj_state.specs.Legal.{IsLegal, state_of}
use Rattle.cj_history.specs.queue.Deeds.{operations}
use Rattle.cj_history.specs.queue.LookBacks.{queued, held, since, ready_at, failures}

abbrev pub a : Place
a = place (1 ∷ []) (97 ∷ [])

abbrev pub told : ℕ → Role → Call → Result Reply Refusal → Told
told w role call answer = record { caller = record { number = w; role = role }; call = call; answer = answer }

abbrev pub added : List Told
added = told 0 Informer (Of.Add a) (Ok Say.Done) ∷ []

abbrev pub taken : List Told
taken = told 1 Worker Of.Take (Ok (Say.Key a)) ∷ added

-- added again while it is held
abbrev pub added_again : List Told
added_again = told 0 Informer (Of.Add a) (Ok Say.Done) ∷ taken

-- to be tried again, from the 1,000th millisecond on, with a delay of 5
abbrev pub failed : List Told
failed = told 1 Worker (Of.Finish (Again 1000) []) (Ok Say.Done) ∷ taken

abbrev pub early : List Told
early = told 0 Informer (Of.Tick 1004) (Ok Say.Done) ∷ failed

abbrev pub due : List Told
due = told 0 Informer (Of.Tick 1005) (Ok Say.Done) ∷ early

abbrev taken_again : List Told
taken_again = told 2 Worker Of.Take (Ok (Say.Key a)) ∷ due

-- The history of one add is legal.
pub legal_add : IsLegal 3 added
unfolding step_of
legal_add = (refl, refl, tt)

-- A take by a worker that holds no key is answered the key a, where a is the first of the line.
takes_it : (s : State) → sync_of s 1 ≡ None → first s.queue.row.line ≡ Some a → (take s 1).answer ≡ Ok (Say.Key a)
unfolding take
takes_it s e f = ap (λ (o : Option InFlight). (take_by s 1 o).answer) e ∙ ap
    (λ (o : Option Place). (take_first s 1 o).answer) f

-- After an add to an empty row the key is the first of the line.
pub in_line : first (row_add new_row a).line ≡ Some a
in_line =
    let none : has map.empty a ≡ false = ap is_some (map.get-empty {X = Unit {0}} place_cmp a) in
    ap (λ b. first (if b then new_row else record {
      line = if b then [] else a
          ∷ [];
      dirty = map.insert map.empty a tt;
      processing = map.empty;
    }).line) none

-- The history of an add and a take of the key is legal.
pub legal_take : IsLegal 3 taken
unfolding step_of
legal_take = (sym (takes_it (state_of 3 added) (map.get-empty nat_cmp 1) in_line), refl, legal_add)

-- The key that is added again while it is held is not queued.
pub not_twice : queued (operations added_again) a ≡ false
not_twice = refl

-- The key is still held after that second add.
pub is_held : held (operations added_again) a ≡ true
is_held = refl

-- After a failed sync the key waits for the millisecond 1,005.
pub waits_first : ready_at (operations early) a ≡ Some 1005
waits_first = refl

-- At the tick of the millisecond before, the key is not queued.
pub not_yet : queued (operations early) a ≡ false
not_yet = refl

-- By then the key has failed once.
pub failed_once : failures (operations early) a ≡ 1
failed_once = refl

-- At the tick of the millisecond 1,005 the key is queued.
pub then_queued : queued (operations due) a ≡ true
then_queued = refl

-- It became queued by the fifth operation, that tick, with its time 1,005.
pub since_then : since (operations due) a ≡ (5, 1005)
since_then = refl

-- From that tick on the key waits for nothing.
pub waits_no_more : ready_at (operations due) a ≡ None
waits_no_more = refl

-- After the take of another worker the key is held again.
pub held_again : held (operations taken_again) a ≡ true
held_again = refl
