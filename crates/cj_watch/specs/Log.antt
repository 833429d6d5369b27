-- The answers of a watch: Kubernetes API concepts, "Efficient detection of changes" and "410 Gone
-- responses".
use Rattle.std.specs.Prelude.{◌≡◌, ℕ, ◌+◌, ◌-◌, ◌≤◌, min, nat_lt, if◌then◌else◌, List, [], ◌∷◌, ◌++◌, length, take, drop, Result, Ok, Err}
use Rattle.cj_base.specs.declared.refusal.Refusal.{Refusal}
use Rattle.cj_base.specs.declared.refusal.Refusal.TheVariants.{Expired}
use Rattle.cj_types.specs.declared.event.Event.{Event}
use Rattle.cj_watch.specs.Numbers.{IsNumbered, later}

-- the kept events, the count of all events, and the most events that are kept
pub record Log : Type 0 where
  pub kept : List Event
  pub count : ℕ
  pub window : ℕ

-- the log before the first event
abbrev pub new_log : ℕ → Log
new_log window = record { kept = []; count = 0; window = window }

-- the last `window` events
abbrev pub latest : ℕ → List Event → List Event
latest window events = drop (length events - window) events

-- the log with one event appended; a full log drops its oldest event
abbrev pub pushed : Log → Event → Log
pushed log e = record { kept = latest log.window (log.kept ++ e ∷ []); count = log.count + 1; window = log.window }

-- the kept events are the last ones of all, as many as fit the window, with their versions in order
-- rule: watch-window
pub record IsWindow (log : Log) : Type 0 where
  pub nonempty : 1 ≤ log.window
  pub size : length log.kept ≡ min log.count log.window
  pub numbered : IsNumbered (log.count - length log.kept) log.kept

-- the first `max` events after a version; or "Gone" with the oldest version served, where the
-- version is below it
-- rules: watch-window, refusals
abbrev pub since : Log → ℕ → ℕ → Result (List Event) Refusal
since log version max =
    if nat_lt (version + log.window) log.count then Err (Expired (log.count - log.window))
    else Ok (take max (later version log.kept))
