-- When calls are made in a run, by its clock. An instant begins with the informer's first Tick at
-- it. It is over with the first call that belongs between it and the next one, which is one of a
-- runner or of the user, or the informer's Shut; or else where the next one begins. Within an
-- instant informer and workers call; between two of them runners and then the user do.
use Rattle.std.specs.Prelude.{◌≡◌, ◌<◌, ◌↔◌, ◌==◌, ◌+◌, ◌-◌, ◌*◌, ◌&&◌, ◌||◌, not, nat_le, ℕ, zero, suc, Bool, true, false, if◌then◌else◌, List, [], ◌∷◌, ◌++◌, Result, Ok, Err, map}
use Rattle.cj_base.specs.declared.refusal.Refusal.{Refusal}
use Rattle.cj_calls.specs.Rows.{Told}
use Rattle.cj_calls.specs.declared.call.Call.{Call}
use Rattle.cj_calls.specs.declared.call.Call.TheVariants as Of
use Rattle.cj_calls.specs.declared.end.End.TheVariants.{Again}
use Rattle.cj_calls.specs.declared.caller.Role.{Role}
use Rattle.cj_calls.specs.declared.caller.Role.TheVariants.{Informer, Runner, User, Worker}
use Rattle.cj_calls.specs.declared.reply.Reply.{Reply}
use Rattle.cj_script.specs.simulation.Spans.{SpanView, IsInstant, instant}
use Rattle.cj_script.specs.declared.simulation.scenario.Simulation.{Simulation}
use Rattle.cj_run.specs.Simulations.{edits_at}
use Rattle.cj_run.specs.declared.turns.Progress.{Progress}

-- the clock has an instant of that number, and it is that moment, in milliseconds
abbrev pub is_moment : SpanView → ℕ → ℕ → Bool
is_moment s n millis = nat_le (instant s n) s.end && (instant s n * 1000 == millis)

-- ---- how far a run is

abbrev pub progress : ℕ → Bool → Bool → Progress
progress begun on edited = record { begun = begun; on = on; edited = edited }

-- the next instant begins with a Tick at it, whether or not one goes on
-- rule: run-clock
abbrev pub begins : SpanView → Progress → Role → Call → Bool
begins s p Informer (Of.Tick at) = is_moment s p.begun at
begins s p role call = false

-- one that goes on is over with a call of a runner or of the user, or with the end of the queue
-- rule: run-clock
abbrev pub ends : Role → Call → Bool
ends Runner call = true
ends User call = true
ends Informer Of.Shut = true
ends role call = false

-- the user's calls, after which no Job ends before the next instant
-- rule: run-clock
abbrev pub edits : Role → Bool
edits User = true
edits role = false

-- how far a run is with the call
abbrev pub progress_after : SpanView → Progress → Role → Call → Progress
progress_after s p role call =
    if begins s p role call then progress (p.begun + 1) true false
    else (if ends role call then progress p.begun false (edits role || p.edited) else p)

-- how far it is with a history
abbrev pub progress_of : SpanView → List Told → Progress
progress_of s [] = progress 0 false false
progress_of s (e ∷ h) = progress_after s (progress_of s h) e.caller.role e.call

-- how many instants have begun
abbrev pub turn : SpanView → List Told → ℕ
turn s h = (progress_of s h).begun

-- ---- calls at their times

abbrev pub is_refusal : Result Reply Refusal → Bool
is_refusal (Ok reply) = false
is_refusal (Err refusal) = true

-- within the instant of that number: informer and workers, by its moment
-- rule: run-clock
abbrev pub is_within : SpanView → ℕ → Role → Call → Bool
is_within s n Informer (Of.Tick at) = is_moment s n at
is_within s n Informer Of.Shut = false
is_within s n Informer call = true
is_within s n Worker (Of.Claim plan) = is_moment s n (plan.at * 1000)
is_within s n Worker (Of.Finish (Again at) reasons) = is_moment s n at
is_within s n Worker call = true
is_within s n Runner call = false
is_within s n User call = false

-- the end of a Job, by the moment of the instant of that number
-- rule: run-clock
abbrev pub is_end_at : SpanView → ℕ → Call → Bool
is_end_at s n (Of.EndJob key uid outcome at) = is_moment s n (at * 1000)
is_end_at s n call = false

-- before the next one: the ends of Jobs, by its moment, and after these the user; its first Tick,
-- or the end of the queue, and then a worker's Take that is refused
-- rule: run-clock
abbrev pub is_before : SpanView → Progress → Role → Call → Result Reply Refusal → Bool
is_before s p Informer (Of.Tick at) answer = is_moment s p.begun at
is_before s p Informer Of.Shut answer = true
is_before s p Informer call answer = false
is_before s p Worker Of.Take answer = is_refusal answer
is_before s p Worker call answer = false
is_before s p Runner call answer = not p.edited && is_end_at s p.begun call
is_before s p User call answer = true

-- a call is at its time: within the instant that goes on, or before the next one
-- rule: run-clock
abbrev pub is_timely : SpanView → Progress → Role → Call → Result Reply Refusal → Bool
is_timely s p role call answer = (p.on && is_within s (p.begun - 1) role call)
    || is_before s p role call answer

-- each entry of a history is at its time
-- rule: run-clock
abbrev pub are_timely : SpanView → List Told → Bool
are_timely s [] = true
are_timely s (e ∷ h) = are_timely s h && is_timely s (progress_of s h) e.caller.role e.call e.answer

-- where a runner calls after the user, an instant has begun between: at each instant Jobs end
-- first, and then come the user's edits
-- rules: run-clock, run-edits
abbrev pub EndsFirst : SpanView → List Told → Type 0
EndsFirst s h = (later between before : List Told) (end edit : Told)
    → h ≡ later ++ end ∷ (between ++ edit ∷ before)
    → end.caller.role ≡ Runner → edit.caller.role ≡ User
    → turn s before < turn s (between ++ edit ∷ before)

-- ---- the user's calls

-- for each call of the caller with that number, the oldest first: how many instants had begun
-- before it
-- rule: run-edits
abbrev pub turns_after : ℕ → ℕ → List ℕ → Told → List ℕ
turns_after number n ns e = if e.caller.number == number then ns ++ n ∷ [] else ns

abbrev pub turns_of : SpanView → ℕ → List Told → List ℕ
turns_of s number [] = []
turns_of s number (e ∷ h) = turns_after number (turn s h) (turns_of s number h) e

-- how many should have: none before a creation, and before an edit those before its instant
-- rule: run-edits
abbrev pub turns_below : Simulation → ℕ → List ℕ
turns_below c zero = map (λ _. 0) c.crons.items
turns_below c (suc n) = turns_below c n ++ map (λ _. n) (edits_at c.edits.items (instant c.span n))

-- ---- all of it

-- the clock has just that many instants
abbrev pub AllInstants : SpanView → ℕ → Type 0
AllInstants s count = (n : ℕ) → (n < count) ↔ IsInstant s n

-- all instants of the clock begin and are over, one after the other, each call is at its time, and
-- so is each of the user's
-- rules: run-clock, run-edits
pub record KeepsTime (c : Simulation) (user : ℕ) (h : List Told) : Type 0 where
  pub all : AllInstants c.span (turn c.span h)
  pub over : (progress_of c.span h).on ≡ false
  pub timely : are_timely c.span h ≡ true
  pub turns : turns_of c.span user h ≡ turns_below c (turn c.span h)
