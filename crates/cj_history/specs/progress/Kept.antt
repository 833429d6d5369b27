-- The queue forgets nothing that is due: client-go, package workqueue ("it is allowed for an item
-- to be reenqueued while it is being processed"; AddAfter). What is supposed is what the callers
-- saw; what is promised is said of the queue of the state, from which the next Take is answered.
use Rattle.std.specs.Prelude.{◌≡◌, ◌⊎◌, ℕ, ◌+◌, ◌*◌, ◌<◌, ◌≤◌, true, false, List, ◌∷◌, ◌++◌, Some, Ok}
use Rattle.std.specs.List.{AllByRecursion}
use Rattle.std.specs.FinMap.{get}
use Rattle.cj_types.specs.Keys.{Place}
use Rattle.cj_types.specs.declared.policy.Reason.{Reason}
use Rattle.cj_queue.specs.Parts.{stands_in}
use Rattle.cj_queue.specs.Queue.{Queue, has, delay}
use Rattle.cj_calls.specs.Rows.{Told}
use Rattle.cj_calls.specs.declared.call.Call.TheVariants as Of
use Rattle.cj_calls.specs.declared.end.End.{End}
use Rattle.cj_calls.specs.declared.end.End.TheVariants.{Well, Again}
use Rattle.cj_calls.specs.declared.reply.Reply.TheVariants as Is
use Rattle.cj_state.specs.declared.phases.sync.InFlight.{InFlight}
use Rattle.cj_state.specs.Legal.{IsLegal, state_of}
use Rattle.cj_world_laws.specs.legal.Exclusive.{IsTake}
use Rattle.cj_world_laws.specs.legal.InFlightSyncs.{sync}
use Rattle.cj_history.specs.queue.Deeds.{Operation, deed, next_of, operations}
use Rattle.cj_history.specs.queue.LookBacks.{failures, later, mark, ready_at, shut}

-- ---- what the callers saw

-- what an entry did after the entries before it
abbrev pub operation : List Told → Told → Operation
operation before e = record { by = e.caller.number; deed = deed (sync before e.caller.number) e.call e.answer }

-- the entry is an accepted Add of the key
pub record IsAdd (k : Place) (e : Told) : Type 0 where
  pub call : e.call ≡ Of.Add k
  pub answer : e.answer ≡ Ok Is.Done

-- an accepted Tick of the moment
pub record IsTick (now : ℕ) (e : Told) : Type 0 where
  pub call : e.call ≡ Of.Tick now
  pub answer : e.answer ≡ Ok Is.Done

-- an accepted Finish of one who holds the key
pub record IsEnd (before : List Told) (k : Place) (end : End) (e : Told) : Type 0 where
  pub sits : InFlight
  pub held : sync before e.caller.number ≡ Some sits
  pub key : sits.key ≡ k
  pub reasons : List Reason
  pub call : e.call ≡ Of.Finish end reasons
  pub answer : e.answer ≡ Ok Is.Done

-- the entry adds the key: by its name, by a moment for which it waits or that is past that, or by
-- the end of its sync, where the time for which that end adds it again has come
-- rule: nothing-due-is-lost
pub data Adds (before : List Told) (k : Place) (e : Told) : Type 0 where
  by_name : IsAdd k e → Adds before k e
  by_moment : (now at : ℕ) → IsTick now e → ready_at (operations before) k ≡ Some at → at ≤ now
      → Adds before k e
  at_once : (at : ℕ) → later (operations before) (operation before e) k ≡ Some at
      → at ≤ mark (operations before) → Adds before k e

-- none of these entries takes the key
abbrev pub NoneTakes : Place → List Told → Type 0
NoneTakes k h = AllByRecursion (λ e. IsTake k e → ⊥) h

-- the key was added, before any shutdown, and not taken since
-- rule: nothing-due-is-lost
pub record IsWanted (h : List Told) (k : Place) : Type 0 where
  pub after : List Told
  pub entry : Told
  pub before : List Told
  pub is : h ≡ after ++ entry ∷ before
  pub runs : shut (operations before) ≡ false
  pub adds : Adds before k entry
  pub untaken : NoneTakes k after

-- its last sync ended well, with a next time of its plan; it wasn't taken since, nor was the queue
-- shut
-- rule: nothing-due-is-lost
pub record IsDone (h : List Told) (k : Place) (t : ℕ) : Type 0 where
  pub after : List Told
  pub entry : Told
  pub before : List Told
  pub is : h ≡ after ++ entry ∷ before
  pub end : IsEnd before k Well entry
  pub next : next_of (sync before entry.caller.number) ≡ Some t
  pub runs : shut (operations h) ≡ false
  pub untaken : NoneTakes k after

-- its last sync is to be tried again, from this moment in milliseconds on; it wasn't taken since,
-- nor was the queue shut
-- rule: nothing-due-is-lost
pub record IsToRetry (h : List Told) (k : Place) (now : ℕ) : Type 0 where
  pub after : List Told
  pub entry : Told
  pub before : List Told
  pub is : h ≡ after ++ entry ∷ before
  pub end : IsEnd before k (Again now) entry
  pub runs : shut (operations h) ≡ false
  pub untaken : NoneTakes k after

-- when it is to be tried again: after the delay of the failures of its syncs before that one
-- rule: nothing-due-is-lost
abbrev pub retry_at : {h : List Told} {k : Place} {now : ℕ} → IsToRetry h k now → ℕ
retry_at {h} {k} {now} y = now + delay (failures (operations y.before) k)

-- ---- what is promised

-- it stands in the line
abbrev pub IsLined : Queue → Place → Type 0
IsLined q k = stands_in q.row.line k ≡ true

-- it stands there, or somebody holds it and it is dirty, so that it goes there after the end of his
-- sync
-- rule: nothing-due-is-lost
abbrev pub IsKept : Queue → Place → Type 0
IsKept q k = IsLined q k ⊎ ((has q.row.processing k ≡ true) × (has q.row.dirty k ≡ true))

-- it waits for this time in milliseconds or an earlier one, which hasn't come yet
pub record Waits (q : Queue) (k : Place) (t : ℕ) : Type 0 where
  pub at : ℕ
  pub waits : get q.waiting k ≡ Some at
  pub ahead : q.tick < at
  pub within : at ≤ t

-- what was added stands in the line, or goes there after the sync of one who holds it; it stands
-- there after the end of that sync; a CronJob whose sync ended well waits for its next time, and
-- one whose sync is to be tried again for the time of that; and each stands there once its time was
-- told
-- rule: nothing-due-is-lost
pub record KeepsKeys (h : List Told) (q : Queue) : Type 0 where
  pub added : (k : Place) → IsWanted h k → IsKept q k
  pub ended : (k : Place) (end : End) (e : Told) (before : List Told) → h ≡ e ∷ before
      → IsEnd before k end e → IsWanted h k → IsLined q k
  pub next : (k : Place) (t : ℕ) → IsDone h k t → IsLined q k ⊎ Waits q k (1000 * t)
  pub due : (k : Place) (t : ℕ) → IsDone h k t → 1000 * t ≤ mark (operations h) → IsLined q k
  pub again : (k : Place) (now : ℕ) → (y : IsToRetry h k now) → IsLined q k ⊎ Waits q k (retry_at y)
  pub retried : (k : Place) (now : ℕ) → (y : IsToRetry h k now) → retry_at y ≤ mark (operations h)
      → IsLined q k

-- whoever called whatever
-- rule: nothing-due-is-lost
abbrev pub NoKeyIsLost : Type 0
NoKeyIsLost = (window : ℕ) (h : List Told) → IsLegal window h
    → KeepsKeys h (state_of window h).queue
