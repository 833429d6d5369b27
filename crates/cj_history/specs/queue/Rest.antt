-- A world at rest, by looking back alone.
use Rattle.std.specs.Prelude.{◌≡◌, ◌↔◌, ℕ, false, List}
use Rattle.cj_types.specs.Keys.{Place}
use Rattle.cj_calls.specs.Rows.{Told}
use Rattle.cj_state.specs.Legal.{IsLegal, state_of}
use Rattle.cj_world_laws.specs.legal.Rest.{IsAtRest}
use Rattle.cj_history.specs.queue.Deeds.{Operation, operations}
use Rattle.cj_history.specs.queue.LookBacks.{held, queued}

-- no key was added that nobody took since, and none was taken whose taker's sync didn't end
-- rule: queued-history
pub record IsQuiet (h : List Operation) : Type 0 where
  pub line : (k : Place) → queued h k ≡ false
  pub hands : (k : Place) → held h k ≡ false

-- whoever called whatever: the world is at rest exactly there
-- rule: queued-history
abbrev pub RestLaw : Type 0
RestLaw = (window : ℕ) (h : List Told) → IsLegal window h
    → IsAtRest (state_of window h) ↔ IsQuiet (operations h)
