-- Members of an object: one that is null counts as absent, as Kubernetes reads JSON.
use Rattle.std.specs.Prelude.{ℕ, List, Option, Some, None, option_and_then}
use Rattle.serde_json.specs.Data.{Data, null, boolean, number, string, array, object}
use Rattle.serde_json.specs.Find.{get}

abbrev pub unless_null : Data → Option Data
unless_null null = None
unless_null (boolean b) = Some (boolean b)
unless_null (number n) = Some (number n)
unless_null (string s) = Some (string s)
unless_null (array ds) = Some (array ds)
unless_null (object ms) = Some (object ms)

-- the member of that name, where it is there
-- rule: null-absent
abbrev pub present : List ℕ → Data → Option Data
present name d = option_and_then unless_null (get name d)
