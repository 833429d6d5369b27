-- array_value: its ensures, by the values of its items.
use Rattle.std.proofs.Common.{map}
use Rattle.serde_json.specs.View.{view}
use Rattle.serde_json.proofs.Views.{view-Array}
use Rattle.cj_inspect.proofs.as_json.nights.array_value.Goals as goal

pub returns : goal.returns
returns c = (map view c.args.values.items, view-Array c.args.values)
