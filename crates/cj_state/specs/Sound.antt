-- What holds of every state that calls lead to.
use Rattle.std.specs.Prelude.{◌≡◌, ℕ, true, List, Some, Ok}
use Rattle.cj_types.specs.declared.event.Event.{Event}
use Rattle.cj_watch.specs.Numbers.{IsNumbered}
use Rattle.cj_watch.specs.Log.{since}
use Rattle.cj_queue.specs.Queue.{has}
use Rattle.cj_state.specs.declared.phases.sync.InFlight.{InFlight}
use Rattle.cj_state.specs.declared.state.State.{State}
use Rattle.cj_state.specs.WorkerCalls.{sync_of}

-- the watch was told of each write, what it tells of those that the lists don't know yet follows on
-- what they know, and who holds a key works on it
pub record IsSound (s : State) : Type 0 where
  pub counted : s.watch.count ≡ s.store.version
  pub follows : (max : ℕ) (events : List Event) → since s.watch s.mirror.fed max ≡ Ok events
      → IsNumbered s.mirror.fed events
  pub held : (w : ℕ) (sync : InFlight) → sync_of s w ≡ Some sync
      → has s.queue.row.processing sync.key ≡ true
