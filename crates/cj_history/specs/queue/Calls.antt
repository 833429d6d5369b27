-- The calls of the queue that operations stand for, one after the other.
use Rattle.std.specs.Prelude.{◌≡◌, ℕ, ◌==◌, if◌then◌else◌, List, [], ◌∷◌, Option, Some, None, IsSome}
use Rattle.cj_types.specs.Keys.{Place}
use Rattle.cj_queue.specs.Queue.{Queue, new_queue, added, taken, ticked, closed, finished_ok, finished_retry}
use Rattle.cj_calls.specs.Rows.{Told}
use Rattle.cj_state.specs.WorkerCalls.{next_ms}
use Rattle.cj_state.specs.Legal.{IsLegal, state_of}
use Rattle.cj_history.specs.queue.Deeds.{Deed, adds, ticks, takes, ends, fails, shuts, nothing, Operation, operations}
use Rattle.cj_history.specs.queue.Answers.{IsFirst}
use Rattle.cj_history.specs.queue.Laws.{IsQueue}

-- what a deed leaves of the key that its caller holds
abbrev pub sits : Deed → Option Place → Option Place
sits (takes k) was = Some k
sits (ends next) was = None
sits (fails now) was = None
sits d was = was

-- the key that a caller holds, by its own operations
abbrev pub key_by : List Operation → ℕ → Option Place
key_by [] w = None
key_by (a ∷ h) w = if a.by == w then sits a.deed (key_by h w) else key_by h w

abbrev pub ended_ok : Option Place → Queue → Option ℕ → Queue
ended_ok None q next = q
ended_ok (Some k) q next = finished_ok q k (next_ms next)

abbrev pub ended_retry : Option Place → Queue → ℕ → Queue
ended_retry None q now = q
ended_retry (Some k) q now = finished_retry q k now

-- the queue after the call of a caller who holds this key
abbrev pub called : Deed → Option Place → Queue → Queue
called (adds k) t q = added q k
called (ticks now) t q = ticked q now
called (takes k) t q = taken q
called (ends next) t q = ended_ok t q next
called (fails now) t q = ended_retry t q now
called shuts t q = closed q
called nothing t q = q

abbrev pub queue_of : List Operation → Queue
queue_of [] = new_queue
queue_of (a ∷ h) = called a.deed (key_by h a.by) (queue_of h)

-- a take is of the first of the line, by one who holds no key, and an end is by one who holds one
abbrev pub May : Deed → Option Place → List Operation → Type 0
May (takes k) t h = (t ≡ None) × IsFirst h k
May (ends next) t h = IsSome t
May (fails now) t h = IsSome t
May d t h = Unit {0}

-- rule: queued-history
abbrev pub IsFit : List Operation → Type 0
IsFit [] = Unit {0}
IsFit (a ∷ h) = May a.deed (key_by h a.by) h × IsFit h

-- whatever the operations are: their calls leave what they say
-- rule: queued-history
abbrev pub FitLaw : Type 0
FitLaw = (h : List Operation) → IsFit h → IsQueue h (queue_of h)

-- and the operations of a history leave its queue
-- rule: queued-history
abbrev pub OperationLaw : Type 0
OperationLaw = (window : ℕ) (h : List Told) → IsLegal window h
    → (state_of window h).queue ≡ queue_of (operations h)
