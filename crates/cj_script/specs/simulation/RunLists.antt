-- The runs that a scenario says: an object from keys to lists. A member that is null says none.
use Rattle.std.specs.Prelude.{ℕ, List, [], ◌∷◌, ◌++◌, codes, bytes_eq, if◌then◌else◌, Option, Some, None, option_map, option_and_then}
use Rattle.std.specs.FinMap as map
use Rattle.serde_json.specs.Data.{Data, Items, no_items, item, Members, no_members, member}
use Rattle.serde_json.specs.Find.{as_array, as_object, as_str}
use Rattle.cj_types.specs.Keys.{Place}
use Rattle.cj_manifest.specs.Members.{present, unless_null}
use Rattle.cj_script.specs.operations.Operations.{key_of, number_in}
use Rattle.cj_script.specs.declared.simulation.run.Run.{Run}
use Rattle.cj_script.specs.declared.simulation.run.RunEnd.{RunEnd}
use Rattle.cj_script.specs.declared.simulation.run.RunEnd.TheVariants.{Complete, Failed}
use Rattle.cj_script.specs.simulation.Runs.{RunTable}

-- ---- a run

abbrev pub end_named : List ℕ → Option RunEnd
end_named word =
    if bytes_eq word (codes "Complete") then Some Complete
    else (if bytes_eq word (codes "Failed") then Some Failed
    else None)

abbrev pub end_in : Data → Option RunEnd
end_in d = option_and_then end_named (option_and_then as_str (present (codes "outcome") d))

-- a number of seconds, and how the Job ends then
-- rule: run-form
abbrev pub run_in : Data → Option Run
run_in d =
    option_and_then (λ seconds.
    option_map (λ end. record { seconds = seconds; end = end })
    (end_in d)) (number_in (present (codes "seconds") d))

-- ---- the runs of a key

-- the runs with those of the items
abbrev pub with_runs : List Run → Items → Option (List Run)
with_runs runs no_items = Some runs
with_runs runs (item d ds) = option_and_then (λ run. with_runs (runs ++ run ∷ []) ds) (run_in d)

-- a list of runs, under NAMESPACE/NAME
-- rule: run-form
abbrev pub run_list_of : List ℕ → Data → Option (Place × List Run)
run_list_of name d =
    option_and_then (λ key.
    option_map (λ runs. (key, runs))
    (option_and_then (with_runs []) (as_array d))) (key_of name)

-- ---- all

-- the table with what a member says
abbrev pub with_run_list : RunTable → List ℕ → Option Data → Option RunTable
with_run_list table name None = Some table
with_run_list table name (Some d) = option_map (λ (key, runs). map.insert table key runs)
    (run_list_of name d)

-- and with what the members say, one after another
abbrev pub with_run_lists : RunTable → Members → Option RunTable
with_run_lists table no_members = Some table
with_run_lists table (member name d ms) = option_and_then (λ more. with_run_lists more ms)
    (with_run_list table name (unless_null d))

abbrev pub run_lists_of : Option Data → Option RunTable
run_lists_of None = Some map.empty
run_lists_of (Some d) = option_and_then (with_run_lists map.empty) (as_object d)

-- rule: run-form
abbrev pub runs_in : Data → Option RunTable
runs_in d = run_lists_of (present (codes "runs") d)
