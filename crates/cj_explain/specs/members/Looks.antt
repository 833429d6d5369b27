-- What is said of a text of JSON that hasn't the form that is wanted.
use Rattle.std.specs.Prelude.{◌≡◌, ◌⊎◌, ℕ, List, [], ◌++◌, codes, Bool, true, false, ◌&&◌, is_some, if◌then◌else◌, Ok, Err}
use Rattle.serde_json.specs.Data.{Data}
use Rattle.serde_json.specs.Find.{as_object}
use Rattle.cj_manifest.specs.Reading.{IsNoValue, Reads}
use Rattle.cj_scenario.specs.declared.detection.form.Form.{Form}
use Rattle.cj_scenario.specs.declared.detection.form.Form.TheVariants as A
use Rattle.cj_scenario.specs.detection.Forms.{form_of}
use Rattle.cj_scenario.specs.detection.Detections.{detection_words}
use Rattle.cj_explain.specs.declared.members.wrong.Wrong.TheVariants.{Member, Memory}
use Rattle.cj_explain.specs.members.Members.{Checked}
use Rattle.cj_explain.specs.members.Wholes.{whole}

-- where no member is missing or wrong
-- rule: explain-members
abbrev pub rest : Form → List ℕ
rest A.Scenario = codes "FILE: a zone's name or rule is refused, or two Jobs have one minute\n"
rest A.Script = codes "FILE: a zone's name or rule is refused\n"
rest A.Simulation = codes "FILE: a zone's name or rule is refused, the end is before the start, or an edit is at no instant of the clock\n"
rest A.List = []
rest A.Manifest = []
rest A.Other = []

abbrev pub wrong_words : Form → Checked → List ℕ
wrong_words wanted (Ok _) = rest wanted
wrong_words wanted (Err (Member text)) = text
wrong_words wanted (Err Memory) = []

-- of a text of another form only that is said
abbrev pub is_near : Form → Form → Bool
is_near A.Scenario A.Scenario = true
is_near A.Script A.Script = true
is_near A.Simulation A.Simulation = true
is_near A.List A.List = true
is_near A.Manifest A.Manifest = true
is_near wanted A.Other = true
is_near wanted found = false

-- the first member that is missing or wrong in an object
-- rule: explain-members
abbrev pub member_words : Form → Data → List ℕ
member_words wanted d = if is_some (as_object d)
    && is_near wanted (form_of d) then wrong_words wanted (whole wanted d) else []

-- and what else is seen
abbrev pub look_words : Form → Data → List ℕ
look_words wanted d = member_words wanted d ++ detection_words wanted d

-- the bytes are this value
pub record IsSeen (wanted : Form) (bytes : List ℕ) (words : List ℕ) : Type 0 where
  pub value : Data
  pub reads : Reads bytes value
  pub are : words ≡ look_words wanted value

-- of bytes that are no JSON nothing is said
abbrev pub IsLook : Form → List ℕ → List ℕ → Type 0
IsLook wanted bytes words = IsSeen wanted bytes words ⊎ (IsNoValue bytes × (words ≡ []))
