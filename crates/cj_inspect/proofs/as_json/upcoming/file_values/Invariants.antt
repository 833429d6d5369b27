-- file_values, its loop: the values are those of the files gone through.
use Rattle.std.proofs.Common.{◌≡◌, map, take}
use Rattle.serde_json.specs.View.{view}
use Rattle.cj_inspect.specs.as_json.Upcoming.{file_data}
use Rattle.cj_inspect.proofs.as_json.upcoming.file_values.Given as goal

abbrev pub invariant-loop-file : goal.invariant-loop-file
invariant-loop-file l = map view l.values.items ≡ map (file_data l.several) (take l.file-index l.files)
