-- A worker's calls that nobody disturbs. Others, of another number or another role, may call
-- anything between them, as often as they like, but for writes of the CronJob whose key the worker
-- holds and of the Job that is to be made: what a controller must expect of an object that it
-- writes is in Kubernetes API conventions, "Concurrency Control and Consistency".
use Rattle.std.specs.Prelude.{◌≡◌, ◌≢◌, ℕ, Bool, true, false, List, [], ◌∷◌, ◌++◌, Option, Some, None, IfSome}
use Rattle.cj_types.specs.Keys.{Place}
use Rattle.cj_types.specs.declared.event.Event.{Event}
use Rattle.cj_types.specs.declared.event.Event.TheVariants.{Added, Modified, Deleted}
use Rattle.cj_types.specs.declared.event.Object.{Object}
use Rattle.cj_types.specs.declared.event.Object.TheVariants as Kind
use Rattle.cj_queue.specs.Parts.{key_eq}
use Rattle.cj_calls.specs.Rows.{Told}
use Rattle.cj_calls.specs.declared.caller.Caller.{Caller}
use Rattle.cj_calls.specs.declared.caller.Role.TheVariants.{Worker}
use Rattle.cj_calls.specs.declared.call.Call.{Call}
use Rattle.cj_state.specs.Legal.{IsLegal, answer_of}
use Rattle.cj_world_laws.specs.legal.InFlightSyncs.{sync}
use Rattle.cj_world_laws.specs.once.Once.{is_ok}
use Rattle.cj_history.specs.store.Writes.{entry_written, writes}

abbrev pub worker : ℕ → Caller
worker w = record { number = w; role = Worker }

-- the object of a write
abbrev pub object_of : Event → Object
object_of (Added o) = o
object_of (Modified o) = o
object_of (Deleted o) = o

-- the CronJob at the key, or the Job at another, if one is named
abbrev pub is_of : Place → Option Place → Object → Bool
is_of k q (Kind.Cron c) = key_eq c.key k
is_of k None (Kind.Job j) = false
is_of k (Some q) (Kind.Job j) = key_eq j.key q

-- entries of others after a history, none of which writes these
-- rule: undisturbed
abbrev pub AreAside : ℕ → Place → Option Place → List Told → List Told → Type 0
AreAside w k q [] h = Unit {0}
AreAside w k q (e ∷ es) h =
    (e.caller ≢ worker w)
    × IfSome (entry_written (writes (es ++ h)) (sync (es ++ h) e.caller.number) e.call e.answer)
    (λ x. is_of k q (object_of x) ≡ false)
    × AreAside w k q es h

-- the entry of a worker's call after these, with the answer that they determine; a call that is
-- refused for want of memory, or of room in the history, makes no entry (cj_state, Legal)
abbrev pub entry : ℕ → List Told → ℕ → Call → Told
entry window h w call = record { caller = worker w; call = call; answer = answer_of window h (worker w) call }

-- the worker's calls, each after whatever others call aside, are all accepted by the answers that
-- the history determines, and that holds after them
-- rule: undisturbed
abbrev pub Leads : ℕ → ℕ → Place → Option Place → List Told → List Call → (List Told → Type 0)
    → Type 0
Leads window w k q h [] P = P h
Leads window w k q h (call ∷ calls) P =
    (es : List Told) → IsLegal window (es ++ h) → AreAside w k q es h
    → (is_ok (answer_of window (es ++ h) (worker w) call) ≡ true)
    × Leads window w k q (entry window (es ++ h) w call ∷ (es ++ h)) calls P
