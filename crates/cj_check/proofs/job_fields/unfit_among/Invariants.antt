-- unfit_among, its loop: the text so far, with the lines of the fields left, is the lines of all.
use Rattle.std.proofs.Common.{◌≡◌, ◌++◌, drop, map, string_bytes}
use Rattle.serde_json.specs.View.{view}
use Rattle.cj_check.specs.JobFields.{row_of, unfit_among}
use Rattle.cj_check.proofs.job_fields.unfit_among.Given as goal

abbrev pub invariant-loop-name : goal.invariant-loop-name
invariant-loop-name l =
    string_bytes l.text ++ unfit_among l.prefix (view l.value) (map row_of (drop l.name-index l.fields))
    ≡ unfit_among l.prefix (view l.value) (map row_of l.fields)
