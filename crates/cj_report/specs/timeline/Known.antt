-- What is known of a history that was read from its oldest entry on.
use Rattle.std.specs.Prelude.{◌≡◌, List}
use Rattle.cj_calls.specs.Rows.{Told}
use Rattle.cj_report.specs.Tellings.{Knows}
use Rattle.cj_report.specs.timeline.Moments.{first_told}
use Rattle.cj_report.specs.timeline.Running.{running}
use Rattle.cj_report.specs.declared.timeline.reading.Reading.{Reading}

-- what each worker took, the last moment in a call, and the Jobs that run
pub record IsRead (r : Reading) (h : List Told) : Type 0 where
  pub tellings : Knows r.tellings h
  pub last : r.last ≡ first_told h
  pub running : r.running ≡ running h
