-- document_values: the values so far, and those of the documents to come that say anything, are all.
use Rattle.std.proofs.Common.{◌≡◌, ◌++◌, map}
use Rattle.std.specs.List.{filter}
use Rattle.std.specs.Vec.Iter.{into_iter_items}
use Rattle.serde_json.specs.View.{view}
use Rattle.cj_yaml.specs.ReadOf.{values}
use Rattle.cj_answers.specs.Objects.{is_said}
use Rattle.cj_answers.proofs.inputs.document_values.Given as goal

abbrev pub invariant-loop-document : goal.invariant-loop-document
invariant-loop-document l =
    map view l.values.items ++ filter is_said (values (into_iter_items l.document-iterator))
    ≡ filter is_said (values l.fn.documents.items)
