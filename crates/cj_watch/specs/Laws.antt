-- The part of the whole list of writes that a window has.
use Rattle.std.specs.Prelude.{◌≡◌, ℕ, ◌+◌, ◌-◌, nat_lt, if◌then◌else◌, List, length, take, drop, fold, Result, Ok, Err}
use Rattle.cj_base.specs.declared.refusal.Refusal.{Refusal}
use Rattle.cj_base.specs.declared.refusal.Refusal.TheVariants.{Expired}
use Rattle.cj_types.specs.declared.event.Event.{Event}
use Rattle.cj_watch.specs.Numbers.{IsNumbered}
use Rattle.cj_watch.specs.Log.{Log, new_log, latest, pushed, since}

-- the log after all the events
abbrev pub log_of : ℕ → List Event → Log
log_of window events = fold pushed (new_log window) events

-- the log keeps the last of the events
-- rule: watch-window
abbrev pub KeepsLatest : Type 0
KeepsLatest = (window : ℕ) (events : List Event) →
    log_of window events ≡ record { kept = latest window events; count = length events; window = window }

-- the answer in terms of the whole list of events: up to `max` of them after the first `version`
abbrev pub answer_in : ℕ → List Event → ℕ → ℕ → Result (List Event) Refusal
answer_in window events version max =
    if nat_lt (version + window) (length events) then Err (Expired (length events - window))
    else Ok (take max (drop version events))

-- where the n-th event has version n, the answer misses no event after the version
-- rule: watch-window
abbrev pub TellsAll : Type 0
TellsAll = (window : ℕ) (events : List Event) (version max : ℕ) → IsNumbered 0 events →
    since (log_of window events) version max ≡ answer_in window events version max
