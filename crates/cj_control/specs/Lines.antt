-- The lines that a transport gives a controller: the answer to a request, or that none came, an
-- event of a watch, the clock, and the end.
use Rattle.std.specs.Prelude.{◌≡◌, ◌⊎◌, ℕ, ◌==◌, List, [], ◌∷◌, codes, Bool, true, false, if◌then◌else◌, Option, Some, None, is_some, option_and_then, option_map}
use Rattle.serde_json.specs.Data.{Data}
use Rattle.serde_json.specs.Find.{as_bool, as_number, as_str, as_u64}
use Rattle.serde_json.specs.View.{view}
use Rattle.cj_cluster.specs.kubectl.Instants.{IsInstant, IsNoInstant}
use Rattle.cj_manifest.specs.Members.{present}
use Rattle.cj_manifest.specs.Reading.{IsNoValue, Reads}
use Rattle.cj_control.specs.Objects.{says_so}
use Rattle.cj_control.specs.declared.line.Line.{Line}
use Rattle.cj_control.specs.declared.line.LineFault.{LineFault}
use Rattle.cj_control.specs.declared.line.LineFault.TheVariants.{Form, Memory, Syntax}
use Rattle.cj_control.specs.declared.line.LineKind.{LineKind}
use Rattle.cj_control.specs.declared.line.LineKind.TheVariants.{Answered, Clock, Failed, Stop, Told}

abbrev pub count_at : List ℕ → Data → Option ℕ
count_at name d = option_and_then as_u64 (option_and_then as_number (present name d))

-- what came for a request: an event of its watch, no answer, or an answer with its status
-- rule: control-lines
abbrev pub came : ℕ → Data → Option LineKind
came id d =
    if is_some (present (codes "event") d) then Some (Told id)
    else (if is_some (present (codes "error") d) then Some (Failed id)
    else option_map (λ status. Answered id status) (count_at (codes "status") d))

abbrev pub for_request : Data → Option LineKind
for_request d = option_and_then (λ id. came id d) (count_at (codes "id") d)

abbrev pub stops : Data → Bool
stops d = says_so (option_and_then as_bool (present (codes "stop") d))

-- a time without the fraction of its second (RFC 3339, time-secfrac)
abbrev pub whole : List ℕ → List ℕ
whole [] = []
whole (c ∷ cs) = if c == 46 then codes "Z" else c ∷ whole cs

-- the second of the clock
abbrev pub IsSecond : List ℕ → Option LineKind → Type 0
IsSecond text r = ((t : ℕ) × IsInstant text t × (r ≡ Some (Clock t)))
    ⊎ (IsNoInstant text × (r ≡ None))

abbrev pub IsClockAt : Option (List ℕ) → Option LineKind → Type 0
IsClockAt None r = r ≡ None
IsClockAt (Some text) r = IsSecond (whole text) r

abbrev pub IsClock : Data → Option LineKind → Type 0
IsClock now r = IsClockAt (as_str now) r

abbrev pub IsClockOr : Option Data → Data → Option LineKind → Type 0
IsClockOr None d r = r ≡ for_request d
IsClockOr (Some now) d r = IsClock now r

abbrev pub IsStopOr : Bool → Data → Option LineKind → Type 0
IsStopOr true d r = r ≡ Some Stop
IsStopOr false d r = IsClockOr (present (codes "now") d) d r

-- what a value says as a line, if it is one: `stop`, `now`, or of a request by its `id`
-- rule: control-lines
abbrev pub IsKind : Data → Option LineKind → Type 0
IsKind d r = IsStopOr (stops d) d r

-- the bytes are the JSON text of such a value
-- rule: control-lines
pub record IsLine (bytes : List ℕ) (line : Line) : Type 0 where
  pub reads : Reads bytes (view line.value)
  pub kind : IsKind (view line.value) (Some line.kind)

-- the bytes are the JSON text of another value
pub record IsOther (bytes : List ℕ) : Type 0 where
  pub value : Data
  pub reads : Reads bytes value
  pub kind : IsKind value None

-- why bytes are no line
-- rule: control-lines
abbrev pub IsNoLine : List ℕ → LineFault → Type 0
IsNoLine bytes Syntax = IsNoValue bytes
IsNoLine bytes Form = IsOther bytes
IsNoLine bytes Memory = Unit {0}
