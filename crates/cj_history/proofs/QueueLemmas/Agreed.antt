-- The queue of the state and the operations of the list agree.
use Rattle.std.proofs.Common.{◌≡◌, ℕ, ◌==◌, Bool, true, false, ◌||◌, List, [], ◌∷◌, Option, Some, None, refl, sym, ap, ◌∙◌, subst}
use Rattle.std.specs.Prelude.{if◌then◌else◌, Result}
use Rattle.cj_base.specs.declared.refusal.Refusal.{Refusal}
use Rattle.cj_types.specs.Keys.{Place}
use Rattle.cj_queue.specs.Parts.{key_eq, stands_in}
use Rattle.cj_queue.specs.Queue.{Queue, first}
use Rattle.cj_queue.proofs.Sets.{eq_true, eq_turned}
use Rattle.cj_calls.specs.declared.reply.Reply.{Reply}
use Rattle.cj_calls.specs.Rows.{Told}
use Rattle.cj_state.specs.declared.phases.sync.InFlight.{InFlight}
use Rattle.cj_state.specs.WorkerCalls.{sync_of}
use Rattle.cj_state.specs.Step.{step_of}
use Rattle.cj_state.specs.Legal.{IsLegal, state_of}
use Rattle.cj_world_laws.specs.legal.InFlightSyncs.{sync}
use Rattle.cj_world_laws.proofs.LegalLemmas.HeldSyncs.{syncs_agree}
use Rattle.cj_history.specs.queue.Deeds.{Deed, adds, ticks, takes, ends, fails, shuts, nothing, deed, Operation, operations}
use Rattle.cj_history.specs.queue.LookBacks.{since, IsLine}
use Rattle.cj_history.specs.queue.Laws.{QueueLaw}
use Rattle.cj_history.specs.queue.Answers.{IsFirst}
use Rattle.cj_history.specs.queue.Calls as calls
use Rattle.cj_history.specs.queue.Calls.{sits, key_by, called, queue_of, IsFit, FitLaw, OperationLaw}
use Rattle.cj_history.proofs.QueueLemmas.Rows.{itself}
use Rattle.cj_history.proofs.QueueLemmas.Firsts.{both_ways}
use Rattle.cj_history.proofs.QueueLemmas.Turns.{key_of, May, Turns, turns}
use Rattle.cj_history.proofs.QueueLemmas.Holders.{next_key}
use Rattle.cj_history.proofs.QueueLemmas.Whole.{Stands, stands_nothing, is_queue, one_more}

abbrev pub keys_of : List Told → ℕ → Option Place
keys_of h w = key_of (sync h w)

-- the operation of an entry of a legal history
abbrev pub entry_deed : Told → List Told → Deed
entry_deed e h = deed (sync h e.caller.number) e.call e.answer

-- e is the next entry after the history h, and both together are legal.
module _ (window : ℕ) (e : Told) (h : List Told) (l : IsLegal window (e ∷ h)) where
  -- The caller's sync in the state is the one that its own entries say.
  sync_same : sync_of (state_of window h) e.caller.number ≡ sync h e.caller.number
  sync_same = syncs_agree window h l.2 e.caller.number

  -- The step of the entry turns the queue as its deed says, by that sync.
  turned : Turns (sync h e.caller.number) e.call (state_of window h) (step_of (state_of window h) e.caller e.call)
  turned = subst (λ (o : Option InFlight). Turns o e.call (state_of window h)
      (step_of (state_of window h) e.caller e.call))
      sync_same (turns (state_of window h) e.caller e.call)

  -- The deed by the step's answer is the deed by the entry's answer.
  deed_same : deed (sync h e.caller.number) e.call (step_of (state_of window h) e.caller e.call).answer ≡ entry_deed e h
  deed_same = ap (λ (a : Result Reply Refusal). deed (sync h e.caller.number) e.call a) (sym l.0)

  -- The queue after the entry is that before it, after the call that the entry's deed says.
  queue_after : (state_of window (e ∷ h)).queue ≡ called (entry_deed e h) (keys_of h e.caller.number)
      (state_of window h).queue
  queue_after = turned.queue ∙ ap (λ d. called d (keys_of h e.caller.number) (state_of window h).queue) deed_same

  -- The entry's deed is one that its caller may do at the line before it.
  may_after : May (entry_deed e h) (keys_of h e.caller.number) (state_of window h).queue.row.line
  may_after = subst (λ (d : Deed). May d (keys_of h e.caller.number) (state_of window h).queue.row.line) deed_same
      turned.may

-- After a legal history its operations, the keys of its syncs and the queue of the state agree.
pub stands : (window : ℕ) (h : List Told) → IsLegal window h
    → Stands (operations h) (keys_of h) (state_of window h).queue
stands window [] l = stands_nothing
stands window (e ∷ h) l =
    subst (λ (q : Queue). Stands (operations (e ∷ h)) (keys_of (e ∷ h)) q) (sym (queue_after window e h l))
    (one_more (operations h) e.caller.number (entry_deed e h) (keys_of h) (keys_of (e ∷ h)) (state_of window h).queue
    (next_key e h) (may_after window e h l) (stands window h l.2))

-- For queue_law: after a legal history the queue of the state is what its operations say.
pub queue_agrees : QueueLaw
queue_agrees window h l = is_queue (operations h) (keys_of h) (state_of window h).queue (stands window h l)

-- ---- by the calls that the operations stand for

-- the key that a caller holds by its operations is the one of its sync
same_key : (h : List Told) (w : ℕ) → key_by (operations h) w ≡ keys_of h w
same_key [] w = refl
same_key (e ∷ h) w = ap (λ (o : Option Place). if e.caller.number == w then sits (entry_deed e h) o else o)
    (same_key h w) ∙ sym (next_key e h w)

-- For call_law, clause operations: the calls that a legal history's operations stand for leave its
-- queue.
pub operations_agree : OperationLaw
operations_agree window [] l = refl
operations_agree window (e ∷ h) l =
    queue_after window e h l
    ∙ ap (λ (q : Queue). called (entry_deed e h) (keys_of h e.caller.number) q) (operations_agree window h l.2)
    ∙ ap (λ (o : Option Place). called (entry_deed e h) o (queue_of (operations h))) (sym (same_key h e.caller.number))

-- Where one of two is true and the first is false, the second is true.
there : (a b : Bool) → (a || b) ≡ true → a ≡ false → b ≡ true
there true b e g = absurd (cc (e, g))
there false b e g = e

-- The key that became queued before all others is the first of the line.
line_first : (h : List Operation) (xs : List Place) (j : Place) → IsLine h xs → IsFirst h j → first xs ≡ Some j
line_first h [] j is f = absurd (cc (is.members j, f.there))
line_first h (x ∷ xs) j is f = by (key_eq j x) refl
  where
    by : (b : Bool) → key_eq j x ≡ b → first (x ∷ xs) ≡ Some j
    by true e = ap (λ (y : Place). Some y) (sym (eq_true j x e))
    by false e =
        let inside : stands_in xs j ≡ true = there (key_eq j x) (stands_in xs j) (is.members j ∙ f.there) e in
        absurd (both_ways (since h x) (since h j) x j (is.order.0 j inside)
        (f.before x (sym (is.members x) ∙ itself x xs) (eq_turned x j ∙ e)))

-- What may be done by the operations before may be done by their line: a take is of its first key.
may_in : (d : Deed) (t : Option Place) (h : List Operation) (q : Queue) → IsLine h q.row.line → calls.May d t h
    → May d t q.row.line
may_in (takes j) t h q is m = (m.0, line_first h q.row.line j is m.1)
may_in (ends n) None h q is m = absurd (cc m)
may_in (ends n) (Some u) h q is m = (u, refl)
may_in (fails n) None h q is m = absurd (cc m)
may_in (fails n) (Some u) h q is m = (u, refl)
may_in (adds j) t h q is m = tt
may_in (ticks n) t h q is m = tt
may_in shuts t h q is m = tt
may_in nothing t h q is m = tt

-- Any fit operations, the queue that their calls leave and the keys of their callers agree.
fit_stands : (h : List Operation) → IsFit h → Stands h (key_by h) (queue_of h)
fit_stands [] l = stands_nothing
fit_stands (a ∷ h) l =
    let s : Stands h (key_by h) (queue_of h) = fit_stands h l.1 in
    one_more h a.by a.deed (key_by h) (key_by (a ∷ h)) (queue_of h) (λ w. refl)
    (may_in a.deed (key_by h a.by) h (queue_of h) (is_queue h (key_by h) (queue_of h) s).line l.0) s

-- For call_law, clause fit: the calls of any fit operations leave what looking back over the
-- operations says.
pub fits_agree : FitLaw
fits_agree h l = is_queue h (key_by h) (queue_of h) (fit_stands h l)
