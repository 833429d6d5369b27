-- The clock that a scenario says.
use Rattle.std.specs.Prelude.{codes, Option, option_and_then}
use Rattle.serde_json.specs.Data.{Data}
use Rattle.cj_manifest.specs.Members.{present}
use Rattle.cj_script.specs.operations.Instants.{time_in}
use Rattle.cj_script.specs.Limits.{number_or}
use Rattle.cj_script.specs.simulation.Spans.{SpanView, span_of}

-- from `start` to `end`, an instant each `stepSeconds`, or each minute where that is absent
-- rule: run-form
abbrev pub span_in : Data → Option SpanView
span_in d =
    option_and_then (λ start.
    option_and_then (λ end.
    option_and_then (span_of start end)
    (number_or 60 (present (codes "stepSeconds") d))) (time_in (present (codes "end") d)))
    (time_in (present (codes "start") d))
