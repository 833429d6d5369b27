-- Which run a Job takes.
use Rattle.std.specs.Prelude.{ℕ, ◌-◌, min, List, length, slice_get, Option, option_and_then}
use Rattle.std.specs.FinMap as map
use Rattle.cj_types.specs.Keys.{Place, place_cmp}
use Rattle.cj_script.specs.declared.simulation.run.Run.{Run}

-- the run of that number in the list, from 0 on, and after the last one this again
-- rule: run-jobs
abbrev pub run_at : List Run → ℕ → Option Run
run_at runs n = slice_get runs (min n (length runs - 1))

-- the runs of each CronJob
abbrev pub RunTable : Type 0
RunTable = map.FinMap place_cmp (List Run)

-- the run that the Job of that number takes which a CronJob makes
-- rule: run-jobs
abbrev pub run_of : RunTable → Place → ℕ → Option Run
run_of runs key n = option_and_then (λ list. run_at list n) (map.get runs key)
