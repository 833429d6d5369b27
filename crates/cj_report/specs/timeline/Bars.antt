-- A bar for each Job that a worker made: from its making to the end of its run, or without an end
-- where it still runs.
use Rattle.std.specs.Prelude.{List, [], ◌∷◌, ◌++◌, map, Option, Some, None}
use Rattle.std.specs.FinMap as table
use Rattle.cj_types.specs.declared.job.Job.{Job}
use Rattle.cj_types.specs.Keys.{Place}
use Rattle.cj_calls.specs.Rows.{Told}
use Rattle.cj_report.specs.declared.timeline.bar.Bar.{Bar}
use Rattle.cj_report.specs.declared.timeline.bar.BarEnd.{BarEnd}
use Rattle.cj_report.specs.timeline.Moments.{moment}
use Rattle.cj_report.specs.timeline.Running.{Jobs, ended_by, how_by, running}

-- a Job that still runs
abbrev pub open_bar : Job → Bar
open_bar job = record { job = job; end = None }

abbrev pub closed_bar : Option Job → BarEnd → List Bar
closed_bar None end = []
closed_bar (Some job) end = record { job = job; end = Some end } ∷ []

-- the Job of that key, if it ran
abbrev pub closed : Jobs → Option Place → BarEnd → List Bar
closed jobs None end = []
closed jobs (Some key) end = closed_bar (table.get jobs key) end

-- how and when the entry ends a run
-- rule: job-bars
abbrev pub end_at : List Told → Told → List Told → BarEnd
end_at before e after = record { how = how_by e.call; at = moment before e after }

-- the bar that ends with the entry
-- rule: job-bars
abbrev pub bars_at : List Told → Told → List Told → List Bar
bars_at before e after = closed (running before) (ended_by e.call e.answer) (end_at before e after)

-- those that end with one of the entries after these, and then those that still run, by key
-- rule: job-bars
abbrev pub bars_after : List Told → List Told → List Bar
bars_after before [] = map open_bar (table.values (running before))
bars_after before (e ∷ after) = bars_at before e after ++ bars_after (e ∷ before) after

-- of a history, its oldest entry first
-- rule: job-bars
abbrev pub bars : List Told → List Bar
bars entries = bars_after [] entries
