-- The lines that a controller sends.
use Rattle.std.specs.Prelude.{◌≡◌, ◌≤◌, ⊤, ℕ, List, [], ◌∷◌, ◌++◌, Option, Some, None}
use Rattle.serde_json.specs.Data.{depth}
use Rattle.serde_json.specs.Read.{max_depth, read}
use Rattle.cj_control.specs.declared.deed.Deed.{Deed}
use Rattle.cj_control.specs.declared.deed.Deed.TheVariants.{Reads, Sends}
use Rattle.cj_control.specs.declared.sent.Request.{Request}
use Rattle.cj_control.specs.Sent.{line}

-- a request with its number
pub record Numbered : Type 0 where
  pub id : ℕ
  pub request : Request

-- what a deed sends
abbrev pub sent_by : Deed → Option Numbered
sent_by (Sends y id parts call r) = Some (record { id = id; request = r })
sent_by (Reads id r) = Some (record { id = id; request = r })
sent_by deed = None

-- a text that reads back as the request under that number, as deep as a reader goes
-- rule: control-requests
abbrev pub IsLine : ℕ → Request → List ℕ → Type 0
IsLine id r text = depth (line id r) ≤ max_depth → read text ≡ Some (line id r)

-- the line of what is sent, and none where nothing is
abbrev pub IsLineOf : Option Numbered → Option (List ℕ) → Type 0
IsLineOf None None = ⊤
IsLineOf (Some n) (Some text) = IsLine n.id n.request text
IsLineOf None (Some text) = ⊥
IsLineOf (Some n) None = ⊥

abbrev pub listed : Option (List ℕ) → List (List ℕ)
listed None = []
listed (Some text) = text ∷ []

-- the lines of what these deeds send, in their order, and no others
-- rule: control-requests
abbrev pub AreLines : List Deed → List (List ℕ) → Type 0
AreLines [] texts = texts ≡ []
AreLines (d ∷ ds) texts =
    (o : Option (List ℕ)) × (more : List (List ℕ)) × IsLineOf (sent_by d) o × AreLines ds more
    × (texts ≡ listed o ++ more)
