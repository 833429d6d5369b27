-- The queue that a history leaves.
use Rattle.std.specs.Prelude.{◌≡◌, ℕ, min, List}
use Rattle.std.specs.FinMap.{get}
use Rattle.cj_types.specs.Keys.{Place}
use Rattle.cj_queue.specs.Queue.{Queue, has, failures_of}
use Rattle.cj_calls.specs.Rows.{Told}
use Rattle.cj_state.specs.Legal.{IsLegal, state_of}
use Rattle.cj_history.specs.queue.Deeds.{Operation, operations}
use Rattle.cj_history.specs.queue.LookBacks.{held, dirty, shut, mark, failures, ready_at, IsLine}

-- it is what the operations say; failures are counted to 18, from where on the delay is the
-- greatest
-- rule: queued-history
pub record IsQueue (h : List Operation) (q : Queue) : Type 0 where
  pub line : IsLine h q.row.line
  pub dirty : (k : Place) → has q.row.dirty k ≡ dirty h k
  pub held : (k : Place) → has q.row.processing k ≡ held h k
  pub waits : (k : Place) → get q.waiting k ≡ ready_at h k
  pub failed : (k : Place) → failures_of q k ≡ min (failures h k) 18
  pub tick : q.tick ≡ mark h
  pub shut : q.shut ≡ shut h

-- whoever called whatever
-- rule: queued-history
abbrev pub QueueLaw : Type 0
QueueLaw = (window : ℕ) (h : List Told) → IsLegal window h
    → IsQueue (operations h) (state_of window h).queue
