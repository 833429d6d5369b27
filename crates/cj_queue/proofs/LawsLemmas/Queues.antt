-- Each call of the queue keeps that it is stingy.
use Rattle.std.proofs.Common.{◌≡◌, ℕ, Bool, true, false, nat_le, Option, Some, None, refl, ◌+◌}
use Rattle.std.specs.Prelude.{if◌then◌else◌}
use Rattle.cj_types.specs.Keys.{Place}
use Rattle.cj_queue.specs.Queue.{Row, Queue, has, row_add, added, ended, added_after, added_where, ticked, delay, failures_of, failed, forgotten, with_row}
use Rattle.cj_queue.specs.Times.{ready}
use Rattle.cj_queue.specs.laws.Rows.{IsStingy}
use Rattle.cj_queue.specs.laws.Queues.{IsStingyQueue, QueuesAreStingy, new, add, take, done, add_after, tick, shut, fail, forget, finish_ok, finish_retry}
use Rattle.cj_queue.proofs.LawsLemmas.Lines.{clash}
use Rattle.cj_queue.proofs.LawsLemmas.Rows.{new_keeps, add_keeps, adds_keep, take_keeps, end_keeps}

-- another row, and the rest as it was
with_its_row : (q : Queue) (r : Row) → IsStingyQueue q → IsStingy r → IsStingyQueue (with_row q r)
with_its_row q r f s = record { row = s; quiet = f.quiet }

-- Of two queues that are stingy, the one that is chosen is.
chosen : (a b : Queue) (t : Bool) → IsStingyQueue a → IsStingyQueue b → IsStingyQueue (if t then a else b)
chosen a b true f g = f
chosen a b false f g = g

-- An add leaves the queue stingy.
added_keeps : (q : Queue) (k : Place) → IsStingyQueue q → IsStingyQueue (added q k)
added_keeps q k f = chosen _ _ q.shut f (with_its_row q (row_add q.row k) f (add_keeps q.row k f.row))

-- one of two, of which the second need be so only where the queue isn't shut
open_or : (a b : Queue) (t : Bool) → IsStingyQueue a → (t ≡ false → IsStingyQueue b)
    → IsStingyQueue (if t then a else b)
open_or a b true f g = f
open_or a b false f g = g refl

-- A delayed add leaves the queue stingy, whether the key waits or is added at once.
after_keeps : (q : Queue) (k : Place) (at : ℕ) → IsStingyQueue q → IsStingyQueue (added_after q k at)
after_keeps q k at f = open_or _ _ q.shut f (λ opened.
    chosen _ _ (nat_le at q.tick) (with_its_row q (row_add q.row k) f (add_keeps q.row k f.row))
    (record { row = f.row; quiet = λ closed. clash q.shut closed opened }))

-- A tick, which adds the keys that are ready, leaves the queue stingy.
ticked_keeps : (q : Queue) (now : ℕ) → IsStingyQueue q → IsStingyQueue (ticked q now)
ticked_keeps q now f = open_or _ _ q.shut (record { row = f.row; quiet = f.quiet }) (λ opened.
    record { row = adds_keep q.row (ready q.waiting now) f.row; quiet = λ closed. clash q.shut closed opened })

-- The end of the work on a key that is being worked on leaves the queue stingy.
ended_keeps : (q : Queue) (k : Place) → has q.row.processing k ≡ true → IsStingyQueue q → IsStingyQueue (ended q k)
ended_keeps q k held f = with_its_row q _ f (end_keeps q.row k held f.row)

-- To forget a key's failures leaves the queue stingy.
forgotten_keeps : (q : Queue) (k : Place) → IsStingyQueue q → IsStingyQueue (forgotten q k)
forgotten_keeps q k f = record { row = f.row; quiet = f.quiet }

-- One failure more of a key leaves the queue stingy.
failed_keeps : (q : Queue) (k : Place) → IsStingyQueue q → IsStingyQueue (failed q k)
failed_keeps q k f = record { row = f.row; quiet = f.quiet }

-- A delayed add where there is a time, and nothing where there is none, leave the queue stingy.
where_keeps : (q : Queue) (k : Place) (at : Option ℕ) → IsStingyQueue q → IsStingyQueue (added_where q k at)
where_keeps q k None f = f
where_keeps q k (Some at) f = after_keeps q k at f

-- For queue_laws: the queue is stingy whatever was called on it.
pub queues_are_stingy : QueuesAreStingy
queues_are_stingy _ new = record { row = new_keeps; quiet = λ closed. refl }
queues_are_stingy _ (add q k h) = added_keeps q k (queues_are_stingy q h)
queues_are_stingy _ (take q h) = with_its_row q _ (queues_are_stingy q h) (take_keeps q.row (queues_are_stingy q h).row)
queues_are_stingy _ (done q k held h) = ended_keeps q k held (queues_are_stingy q h)
queues_are_stingy _ (add_after q k at h) = after_keeps q k at (queues_are_stingy q h)
queues_are_stingy _ (tick q now h) = ticked_keeps q now (queues_are_stingy q h)
queues_are_stingy _ (shut q h) = record { row = (queues_are_stingy q h).row; quiet = λ closed. refl }
queues_are_stingy _ (fail q k h) = failed_keeps q k (queues_are_stingy q h)
queues_are_stingy _ (forget q k h) = forgotten_keeps q k (queues_are_stingy q h)
queues_are_stingy _ (finish_ok q k at held h) = where_keeps _ k at
    (forgotten_keeps _ k (ended_keeps q k held (queues_are_stingy q h)))
queues_are_stingy _ (finish_retry q k now held h) =
    failed_keeps _ k (after_keeps _ k (now + delay (failures_of q k)) (ended_keeps q k held (queues_are_stingy q h)))
