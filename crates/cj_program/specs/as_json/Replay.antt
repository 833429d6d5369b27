-- What a replay prints, as JSON. The members of an object are in the order of their names.
use Rattle.std.specs.Prelude.{◌≡◌, ℕ, List, [], ◌∷◌, ◌++◌, codes, false, map, Option, None, Some}
use Rattle.serde_json.specs.Data.{Data, null, string, array, object, member, no_members}
use Rattle.serde_json.specs.Read.{read}
use Rattle.serde_json.specs.View.{items_of}
use Rattle.cj_answers.specs.as_json.Forms.{IsJsonLine}
use Rattle.cj_replay.specs.Replays.{IsReplayed}
use Rattle.cj_script.specs.declared.script.Script.{Script}
use Rattle.cj_script.specs.declared.step.Step.{Step}
use Rattle.cj_program.specs.declared.as_json.replay.StepLine.{StepLine}

-- the texts of a step's line
pub record StepTexts : Type 0 where
  pub place : List ℕ
  pub who : List ℕ
  pub verb : List ℕ
  pub answer : List ℕ

-- `PLACE WHO DO ANSWER`, and then the rest of a text
-- rule: replay-json
abbrev pub step_text : StepTexts → List ℕ → List ℕ
step_text t rest = t.place ++ (codes " " ++ (t.who ++ (codes " " ++ (t.verb
    ++ (codes " " ++ (t.answer ++ (codes "\n" ++ rest)))))))

abbrev pub data_or_null : Option Data → Data
data_or_null None = null
data_or_null (Some d) = d

-- the number that the text is in JSON; null for `-`, which is none
-- rule: replay-json
abbrev pub place_data : List ℕ → Data
place_data place = data_or_null (read place)

abbrev pub step_object : List ℕ → List ℕ → Data → List ℕ → Data
step_object answer verb place who = object (
    member (codes "answer") (string answer) (
    member (codes "do") (string verb) (
    member (codes "place") place (
    member (codes "who") (string who) no_members))))

-- rule: replay-json
abbrev pub step_data : StepTexts → Data
step_data t = step_object t.answer t.verb (place_data t.place) t.who

-- of a line that was cut, with the name of its caller
abbrev pub texts_of : StepLine → List ℕ → StepTexts
texts_of l who =
    record { place = l.place.now; who = who; verb = l.verb.now; answer = l.answer.now }

-- the text begins with the line of a step of that caller, whose value is added
pub record AddsStep (who text rest : List ℕ) (before after : List Data) : Type 0 where
  pub texts : StepTexts
  pub caller : texts.who ≡ who
  pub are : text ≡ step_text texts rest
  pub added : after ≡ before ++ step_data texts ∷ []

-- the lines of these steps, and then the rest of a text
abbrev pub steps_text : List StepTexts → List ℕ → List ℕ
steps_text [] rest = rest
steps_text (t ∷ ts) rest = step_text t (steps_text ts rest)

-- these lines, each with its end, and then the rest of a text
abbrev pub lines_text : List (List ℕ) → List ℕ → List ℕ
lines_text [] rest = rest
lines_text (line ∷ lines) rest = line ++ (codes "\n" ++ lines_text lines rest)

abbrev pub caller_of : Step → List ℕ
caller_of step = step.who

abbrev pub who_of : StepTexts → List ℕ
who_of texts = texts.who

-- the text begins with a line for each of these steps, by its caller; these are their values
-- rule: replay-json
pub record AreSteps (steps : List Step) (text rest : List ℕ) (values : List Data) : Type 0 where
  pub texts : List StepTexts
  pub callers : map who_of texts ≡ map caller_of steps
  pub are : text ≡ steps_text texts rest
  pub values_are : values ≡ map step_data texts

-- the values are the lines of the text, and then comes the rest
pub record HasLines (text rest : List ℕ) (values : List Data) : Type 0 where
  pub lines : List (List ℕ)
  pub are : text ≡ lines_text lines rest
  pub values_are : values ≡ map string lines

-- the values are the lines of the text, each of which ends
-- rule: replay-json
abbrev pub AreLines : List ℕ → List Data → Type 0
AreLines text values = HasLines text [] values

abbrev pub replay_object : Data → Data → Data
replay_object report steps = object (
    member (codes "report") report (
    member (codes "steps") steps no_members))

-- the text is a line for each step of the script and then the lines of the report, and the value
-- has both: the texts of each step, joined by blanks, are its line
-- rule: replay-json
pub record IsReplayData (s : Script) (text : List ℕ) (d : Data) : Type 0 where
  pub steps : List Data
  pub report : List Data
  pub rest : List ℕ
  pub are_steps : AreSteps s.steps.items text rest steps
  pub are_lines : AreLines rest report
  pub is : d ≡ replay_object (array (items_of report)) (array (items_of steps))

-- the value on a line, of what a replay of the script prints, in which no step found the history
-- full
-- rule: replay-json
pub record IsReplayJson (s : Script) (text : List ℕ) : Type 0 where
  pub printed : List ℕ
  pub run : IsReplayed s printed false
  pub value : Data
  pub is : IsReplayData s printed value
  pub line : IsJsonLine value text
