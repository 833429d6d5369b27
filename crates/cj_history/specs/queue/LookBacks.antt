-- What a history says of the work queue, by looking back over its operations, the newest first:
-- client-go, package workqueue ("Stingy", delayed adds, and the exponential delay of failures).
use Rattle.std.specs.Prelude.{◌≡◌, ℕ, ◌+◌, ◌*◌, ◌<◌, ◌⊎◌, max, nat_le, Bool, true, false, ◌&&◌, ◌||◌, not, ◌==◌, if◌then◌else◌, List, [], ◌∷◌, length, Option, Some, None, is_some}
use Rattle.std.specs.declared.cmp.Ordering.TheVariants.{Less}
use Rattle.cj_types.specs.Keys.{Place, place_cmp}
use Rattle.cj_queue.specs.Parts.{key_eq, stands_in}
use Rattle.cj_queue.specs.Times.{earlier}
use Rattle.cj_queue.specs.Queue.{delay}
use Rattle.cj_history.specs.queue.Deeds.{Deed, adds, ticks, takes, ends, fails, shuts, Operation}

-- ---- who holds a key

abbrev pub is_take : Deed → Place → Bool
is_take (takes j) k = key_eq k j
is_take d k = false

abbrev pub is_finish : Deed → Bool
is_finish (ends next) = true
is_finish (fails now) = true
is_finish d = false

abbrev pub is_by : Option ℕ → ℕ → Bool
is_by None w = false
is_by (Some v) w = v == w

-- who took the key last, where no end by the same caller came after
-- rule: queued-history
abbrev pub holder : List Operation → Place → Option ℕ
holder [] k = None
holder (a ∷ h) k =
    if is_take a.deed k then Some a.by
    else if is_finish a.deed && is_by (holder h k) a.by then None
    else holder h k

-- somebody holds it
abbrev pub held : List Operation → Place → Bool
held h k = is_some (holder h k)

-- the operation after these is by the holder of the key
abbrev pub is_holder : List Operation → Operation → Place → Bool
is_holder h a k = is_by (holder h k) a.by

-- ---- the shutdown, the greatest moment told, failures

abbrev pub is_shut : Deed → Bool
is_shut shuts = true
is_shut d = false

abbrev pub shut : List Operation → Bool
shut [] = false
shut (a ∷ h) = is_shut a.deed || shut h

abbrev pub marks : Deed → ℕ → ℕ
marks (ticks now) was = max was now
marks d was = was

abbrev pub mark : List Operation → ℕ
mark [] = 0
mark (a ∷ h) = marks a.deed (mark h)

abbrev pub counts : Deed → Bool → ℕ → ℕ
counts (ends next) true was = 0
counts (fails now) true was = was + 1
counts d is_its was = was

-- how often a sync of the key was to be tried again since the last that ended well
-- rule: queued-history
abbrev pub failures : List Operation → Place → ℕ
failures [] k = 0
failures (a ∷ h) k = counts a.deed (is_holder h a k) (failures h k)

-- ---- delayed adds

-- the time in milliseconds for which an end adds the key again, where it is the end of its sync;
-- `f` counts its failures before
abbrev pub later_in : Deed → Bool → ℕ → Option ℕ
later_in (ends (Some t)) true f = Some (1000 * t)
later_in (fails now) true f = Some (now + delay f)
later_in d is_its f = None

abbrev pub later : List Operation → Operation → Place → Option ℕ
later h a k = later_in a.deed (is_holder h a k) (failures h k)

-- a time that is not above the moment
abbrev pub is_within : Option ℕ → ℕ → Bool
is_within None now = false
is_within (Some t) now = nat_le t now

-- a delayed add waits unless its time has come; of two that wait the earlier stays
abbrev pub waits_more : Option ℕ → ℕ → Option ℕ → Option ℕ
waits_more None m was = was
waits_more (Some at) m was = if nat_le at m then was else Some (earlier was at)

abbrev pub waits_in : Deed → Bool → ℕ → Option ℕ → Option ℕ → Option ℕ
waits_in shuts is_over m at was = None
waits_in (ticks now) is_over m at was = if is_within was now then None else was
waits_in d is_over m at was = if is_over then was else waits_more at m was

-- the least time for which the key waits, of the delayed adds since it last was ready; after a
-- shutdown nothing waits
-- rule: queued-history
abbrev pub ready_at : List Operation → Place → Option ℕ
ready_at [] k = None
ready_at (a ∷ h) k = waits_in a.deed (shut h) (mark h) (later h a k) (ready_at h k)

-- ---- the line

abbrev pub adds_in : Deed → Place → ℕ → Option ℕ → Option ℕ → Bool
adds_in (adds j) k m at was = key_eq k j
adds_in (ticks now) k m at was = is_within was now
adds_in d k m at was = is_within at m

-- the operation after these is an add of the key: by its name, by a moment at which it is ready, or
-- by a delayed add that is due at once
abbrev pub is_add : List Operation → Operation → Place → Bool
is_add h a k = not (shut h) && adds_in a.deed k (mark h) (later h a k) (ready_at h k)

-- some add of the key has no later take of it
-- rule: queued-history
abbrev pub dirty : List Operation → Place → Bool
dirty [] k = false
dirty (a ∷ h) k = is_add h a k || (not (is_take a.deed k) && dirty h k)

-- rules: queued-history, add-while-held
abbrev pub queued : List Operation → Place → Bool
queued h k = dirty h k && not (held h k)

abbrev pub time_of : Option ℕ → ℕ
time_of None = 0
time_of (Some t) = t

-- among the keys of one tick their times count
abbrev pub time_in : Deed → Option ℕ → ℕ
time_in (ticks now) was = time_of was
time_in d was = 0

-- the place of the operation by which the key last became queued, and its time among those of a
-- tick
-- rule: queued-history
abbrev pub since : List Operation → Place → ℕ × ℕ
since [] k = (0, 0)
since (a ∷ h) k = if queued (a ∷ h) k && not (queued h k) then
    (length (a ∷ h), time_in a.deed (ready_at h k)) else since h k

-- by place, then time, then key
abbrev pub Before : ℕ × ℕ → Place → ℕ × ℕ → Place → Type 0
Before p j q k = (p.0 < q.0) ⊎ ((p.0 ≡ q.0)
    × ((p.1 < q.1) ⊎ ((p.1 ≡ q.1) × (place_cmp j k ≡ Less))))

-- each stands before all that follow it
abbrev pub RisesBy : (Place → ℕ × ℕ) → List Place → Type 0
RisesBy f [] = Unit {0}
RisesBy f (x ∷ xs) = ((y : Place) → stands_in xs y ≡ true → Before (f x) x (f y) y) × RisesBy f xs

-- the line: just the queued keys, each once, in the order in which they became queued
-- rule: queued-history
pub record IsLine (h : List Operation) (xs : List Place) : Type 0 where
  pub members : (k : Place) → stands_in xs k ≡ queued h k
  pub order : RisesBy (since h) xs
