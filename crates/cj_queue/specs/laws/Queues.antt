-- The queue after any calls: client-go, package workqueue.
use Rattle.std.specs.Prelude.{◌≡◌, ℕ, true, Option}
use Rattle.std.specs.FinMap.{empty}
use Rattle.cj_types.specs.Keys.{Place}
use Rattle.cj_queue.specs.Queue.{Queue, has, new_queue, added, taken, ended, added_after, ticked, closed, failed, forgotten, finished_ok, finished_retry}
use Rattle.cj_queue.specs.laws.Rows.{IsStingy}

-- the queue after some calls on a new one; work that ends is on a key that is being worked on
pub data IsReached : Queue → Type 0 where
  new : IsReached new_queue
  add : (q : Queue) (k : Place) → IsReached q → IsReached (added q k)
  take : (q : Queue) → IsReached q → IsReached (taken q)
  done : (q : Queue) (k : Place) → has q.row.processing k ≡ true → IsReached q
      → IsReached (ended q k)
  add_after : (q : Queue) (k : Place) (at : ℕ) → IsReached q → IsReached (added_after q k at)
  tick : (q : Queue) (now : ℕ) → IsReached q → IsReached (ticked q now)
  shut : (q : Queue) → IsReached q → IsReached (closed q)
  fail : (q : Queue) (k : Place) → IsReached q → IsReached (failed q k)
  forget : (q : Queue) (k : Place) → IsReached q → IsReached (forgotten q k)
  finish_ok : (q : Queue) (k : Place) (at : Option ℕ) → has q.row.processing k ≡ true → IsReached q
      → IsReached (finished_ok q k at)
  finish_retry : (q : Queue) (k : Place) (now : ℕ) → has q.row.processing k ≡ true → IsReached q
      → IsReached (finished_retry q k now)

-- the queue's line is stingy, and after the shutdown no key waits
pub record IsStingyQueue (q : Queue) : Type 0 where
  pub row : IsStingy q.row
  pub quiet : q.shut ≡ true → q.waiting ≡ empty

-- every queue that calls lead to is stingy
-- rule: queue-line
abbrev pub QueuesAreStingy : Type 0
QueuesAreStingy = (q : Queue) → IsReached q → IsStingyQueue q
