-- What the clock of a run shows.
use Rattle.std.specs.Prelude.{◌≡◌, ◌*◌, ℕ}
use Rattle.cj_script.specs.simulation.Spans.{IsInstant, SpanView, instant}

-- an instant of the clock
-- rule: run-clock
abbrev pub HasInstant : SpanView → ℕ → Type 0
HasInstant span at = (n : ℕ) × IsInstant span n × (at ≡ instant span n)

-- an instant, in seconds and in milliseconds
-- rule: run-clock
abbrev pub Shows : SpanView → ℕ → ℕ → Type 0
Shows span seconds millis = HasInstant span seconds × (millis ≡ seconds * 1000)
