-- How a mirror follows a window of events: Kubernetes API concepts, "410 Gone responses", after
-- which a client lists again.
use Rattle.std.specs.Prelude.{◌≡◌, ℕ, ◌+◌, ◌≤◌, min, nat_lt, if◌then◌else◌, List, length, take, Result, Ok, Err}
use Rattle.std.specs.FinMap.{empty, values}
use Rattle.cj_base.specs.declared.refusal.Refusal.{Refusal}
use Rattle.cj_base.specs.declared.refusal.Refusal.TheVariants.{Expired}
use Rattle.cj_types.specs.declared.event.Event.{Event}
use Rattle.cj_types.specs.declared.job.Job.{Job}
use Rattle.cj_watch.specs.Log.{since}
use Rattle.cj_watch.specs.Laws.{log_of}
use Rattle.cj_watch.specs.Numbers.{IsNumbered}
use Rattle.cj_watch.specs.mirror.Lagging.{Jobs, Mirror, told_all, mirror_of, fed_with, reset_to}

-- the Jobs after all the writes
abbrev pub jobs_after : List Event → Jobs
jobs_after events = told_all empty events

-- the mirror after the first `n` writes
abbrev pub mirror_after : List Event → ℕ → Mirror
mirror_after events n = mirror_of (jobs_after (take n events)) n

-- a mirror that is fed the events that the watch answers, or reset to the current Jobs where events
-- were dropped
abbrev pub caught_up : Mirror → Result (List Event) Refusal → List Job → ℕ → Mirror
caught_up m (Ok events) current version = fed_with m events
caught_up m (Err (Expired oldest)) current version = reset_to current version
caught_up m (Err other) current version = m

-- the mirror's version after that: all writes where events were dropped, else as many more as were
-- asked for and exist
abbrev pub next_fed : ℕ → ℕ → ℕ → ℕ → ℕ
next_fed window count fed max = if nat_lt (fed + window) count then count else min count (fed + max)

-- the mirror is that of the writes up to its version; and the events that the watch answers can be
-- fed
-- rule: mirror
pub record IsFollowed (window : ℕ) (events : List Event) (n max : ℕ) : Type 0 where
  pub follows : caught_up (mirror_after events n) (since (log_of window events) n max)
      (values (jobs_after events)) (length events)
      ≡ mirror_after events (next_fed window (length events) n max)
  pub next : (told : List Event) → since (log_of window events) n max ≡ Ok told → IsNumbered n told

-- the law holds for all writes, and however far the mirror lags
-- rule: mirror
abbrev pub MirrorsFollow : Type 0
MirrorsFollow = (window : ℕ) (events : List Event) (n max : ℕ) → IsNumbered 0 events
    → n ≤ length events → IsFollowed window events n max
