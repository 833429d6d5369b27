-- A world at rest, by what it holds.
use Rattle.std.specs.Prelude.{◌≡◌, []}
use Rattle.std.specs.FinMap as map
use Rattle.cj_state.specs.declared.state.State.{State}

-- no key is in the line, and nobody holds one
-- rule: objects
abbrev pub IsAtRest : State → Type 0
IsAtRest s = (s.queue.row.line ≡ []) × (s.syncs ≡ map.empty)
