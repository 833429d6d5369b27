-- The work queue, and how each call changes it: client-go, package workqueue, whose names of the
-- calls are in brackets.
use Rattle.std.specs.Prelude.{ℕ, ◌+◌, ◌*◌, ◌^◌, min, max, Bool, true, false, if◌then◌else◌, is_some, unwrap_or, nat_le, List, [], ◌∷◌, ◌++◌, Option, Some, None, refl}
use Rattle.std.specs.FinMap.{FinMap, empty, get, insert, remove, code}
use Rattle.std.specs.Coded.{Coded, code_by, coded×, coded_ℕ, coded_bool, coded_list}
use base.Stored.{coded_unit}
use Rattle.cj_types.specs.Keys.{Place, place_cmp, coded_place}
use Rattle.cj_queue.specs.Times.{Waiting, waits_for, ready, without}

-- a set of keys, as a map to nothing
abbrev pub Keys : Type 0
Keys = FinMap place_cmp (Unit {0})

abbrev pub has : Keys → Place → Bool
has s k = is_some (get s k)

-- ---- the line, and the sets that keep a key with one caller at a time

-- the keys in the order in which they are taken, the dirty keys, and the keys that are being worked
-- on
pub record Row : Type 0 where
  pub line : List Place
  pub dirty : Keys
  pub processing : Keys

abbrev pub row_code : Coded Row
row_code =
    code_by (List Place × (Keys × Keys)) (coded× (coded_list coded_place)
    (coded× (code coded_place coded_unit) (code coded_place coded_unit)))
    (λ r. (r.line, (r.dirty, r.processing)))
    (λ p. record { line = p.0; dirty = (p.1).0; processing = (p.1).1 }) (λ _. refl)

-- an add (Add): the key becomes dirty, and is appended to the line unless it was dirty or is being
-- worked on
-- rules: queue-add, add-while-held
abbrev pub row_add : Row → Place → Row
row_add r k =
    if has r.dirty k then r
    else record { line = if has r.processing k then r.line else r.line ++ k ∷ []; dirty = insert r.dirty k tt; processing = r.processing }

-- adds of the keys, one after the other
abbrev pub row_adds : Row → List Place → Row
row_adds r [] = r
row_adds r (k ∷ ks) = row_adds (row_add r k) ks

abbrev pub take_in : Row → List Place → Row
take_in r [] = r
take_in r (k ∷ ks) = record { line = ks; dirty = remove r.dirty k; processing = insert r.processing k tt }

-- a take (Get): the first key of the line is being worked on, and no longer dirty
-- rule: queue-take
abbrev pub row_take : Row → Row
row_take r = take_in r r.line

-- the end of the work on a key (Done), which is appended to the line if it is dirty
-- rules: queue-done, add-while-held
abbrev pub row_end : Row → Place → Row
row_end r k = record { line = if has r.dirty k then r.line ++ k ∷ [] else r.line; dirty = r.dirty; processing = remove r.processing k }

abbrev pub first : List Place → Option Place
first [] = None
first (k ∷ ks) = Some k

-- ---- the queue

-- the queue: the row, the waiting keys with their times, the failures in a row of each key, the
-- greatest tick so far, and whether the queue is shut
pub record Queue : Type 0 where
  pub row : Row
  pub waiting : Waiting
  pub failures : FinMap place_cmp ℕ
  pub tick : ℕ
  pub shut : Bool

abbrev pub queue_code : Coded Queue
queue_code =
    code_by (Row × (Waiting × (FinMap place_cmp ℕ × (ℕ × Bool))))
    (coded× row_code (coded× (code coded_place coded_ℕ)
    (coded× (code coded_place coded_ℕ) (coded× coded_ℕ coded_bool))))
    (λ q. (q.row, (q.waiting, (q.failures, (q.tick, q.shut)))))
    (λ p. record { row = p.0; waiting = (p.1).0; failures = ((p.1).1).0; tick = (((p.1).1).1).0; shut = (((p.1).1).1).1 })
    (λ _. refl)

abbrev pub new_row : Row
new_row = record { line = []; dirty = empty; processing = empty }

abbrev pub new_queue : Queue
new_queue = record { row = new_row; waiting = empty; failures = empty; tick = 0; shut = false }

abbrev pub with_row : Queue → Row → Queue
with_row q r = record { row = r; waiting = q.waiting; failures = q.failures; tick = q.tick; shut = q.shut }

abbrev pub with_waiting : Queue → Waiting → Queue
with_waiting q w = record { row = q.row; waiting = w; failures = q.failures; tick = q.tick; shut = q.shut }

abbrev pub with_failures : Queue → FinMap place_cmp ℕ → Queue
with_failures q f = record { row = q.row; waiting = q.waiting; failures = f; tick = q.tick; shut = q.shut }

-- after the shutdown an add does nothing
-- rule: queue-add
abbrev pub added : Queue → Place → Queue
added q k = if q.shut then q else with_row q (row_add q.row k)

-- rule: queue-take
abbrev pub taken : Queue → Queue
taken q = with_row q (row_take q.row)

-- rule: queue-done
abbrev pub ended : Queue → Place → Queue
ended q k = with_row q (row_end q.row k)

-- a delayed add (AddAfter): at once where the time is not above the greatest tick, else the key
-- waits
-- rule: queue-delay
abbrev pub added_after : Queue → Place → ℕ → Queue
added_after q k at =
    if q.shut then q
    else if nat_le at q.tick then with_row q (row_add q.row k)
    else with_waiting q (waits_for q.waiting k at)

-- a tick: the keys that are ready are added, by time, then key, and wait no more
-- rule: queue-tick
abbrev pub ticked : Queue → ℕ → Queue
ticked q now =
    if q.shut then record { row = q.row; waiting = q.waiting; failures = q.failures; tick = max q.tick now; shut = q.shut }
    else record { row = row_adds q.row (ready q.waiting now); waiting = without q.waiting (ready q.waiting now); failures = q.failures; tick = max q.tick now; shut = q.shut }

-- the shutdown (ShutDown): no key waits any more
-- rule: queue-shut
abbrev pub closed : Queue → Queue
closed q = record { row = q.row; waiting = empty; failures = q.failures; tick = q.tick; shut = true }

-- the number of failures in a row of the key (NumRequeues)
abbrev pub failures_of : Queue → Place → ℕ
failures_of q k = unwrap_or (get q.failures k) 0

-- the retry delay: 5 ms, doubled for each failure in a row, and at most 1,000 s
-- (ItemExponentialFailureRateLimiter)
-- rule: queue-retry
abbrev pub delay : ℕ → ℕ
delay f = min (5 * 2 ^ f) 1000000

-- a failure is counted, up to 18, where the delay is the greatest
-- rule: queue-retry
abbrev pub failed : Queue → Place → Queue
failed q k = with_failures q (insert q.failures k (min (failures_of q k + 1) 18))

-- the count of failures is 0 again (Forget)
-- rule: queue-retry
abbrev pub forgotten : Queue → Place → Queue
forgotten q k = with_failures q (remove q.failures k)

abbrev pub added_where : Queue → Place → Option ℕ → Queue
added_where q k None = q
added_where q k (Some at) = added_after q k at

-- the end of a sync that succeeded: done, forget, and a delayed add where there is a next time
-- rule: queue-retry
abbrev pub finished_ok : Queue → Place → Option ℕ → Queue
finished_ok q k at = added_where (forgotten (ended q k) k) k at

-- the end of a sync that failed: done, a delayed add, and a failure counted
-- rule: queue-retry
abbrev pub finished_retry : Queue → Place → ℕ → Queue
finished_retry q k now = failed (added_after (ended q k) k (now + delay (failures_of q k))) k
