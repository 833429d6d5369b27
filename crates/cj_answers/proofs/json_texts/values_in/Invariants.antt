-- values_in: the values so far are those of the text, if what is left has others.
use Rattle.cj_answers.proofs.ObjectLists.{BeginOf}
use Rattle.serde_json.specs.View.{view}
use Rattle.std.proofs.Common.{map}
use Rattle.cj_answers.proofs.json_texts.values_in.Given as goal

abbrev pub invariant-loop : goal.invariant-loop
invariant-loop l = BeginOf (map view l.values.items) l.rest l.bytes
