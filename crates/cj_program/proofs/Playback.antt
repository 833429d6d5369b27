-- The values of a replay's lines, one after the other.
use Rattle.std.proofs.Common.{◌≡◌, ◌∙◌, ℕ, ◌+◌, ◌<◌, List, [], ◌∷◌, ◌++◌, Bool, false, length, map, take, ap, refl, subst, sym, codes}
use Rattle.std.specs.Prelude.{get_or}
use Rattle.std.proofs.lemmas.List.{map-append, take_more}
use Rattle.serde_json.specs.Data.{Data, string}
use Rattle.cj_replay.specs.Replays.{IsReplayed}
use Rattle.cj_script.specs.declared.script.Script.{Script}
use Rattle.cj_script.specs.declared.step.Step.{Step}
use Rattle.serde_json.specs.View.{view}
use Rattle.serde_json.specs.declared.value.Value.{Value}
use Rattle.cj_program.specs.as_json.Replay.{AddsStep, AreSteps, HasLines, StepTexts, caller_of, lines_text, replay_object, step_data, step_text, steps_text, who_of}

-- the lines of steps, with one more
steps_more : (ts : List StepTexts) (t : StepTexts) (rest : List ℕ)
    → steps_text (ts ++ t ∷ []) rest ≡ steps_text ts (step_text t rest)
steps_more [] t rest = refl
steps_more (s ∷ ts) t rest = ap (step_text s) (steps_more ts t rest)

-- lines, with one more
lines_more : (ls : List (List ℕ)) (l rest : List ℕ)
    → lines_text (ls ++ l ∷ []) rest ≡ lines_text ls (l ++ (codes "\n" ++ rest))
lines_more [] l rest = refl
lines_more (k ∷ ls) l rest = ap (λ (xs : List ℕ). k ++ (codes "\n" ++ xs)) (lines_more ls l rest)

-- For step_values: with the lines of the first i steps taken and then that of the next one, those of the first i + 1
-- are.
pub step_more : (steps : List Step) (i : ℕ) (step : Step) → i < length steps → step ≡ get_or steps i step
    → (who : List ℕ) → who ≡ caller_of step → (text rest more : List ℕ) (before after : List Data)
    → AreSteps (take i steps) text rest before → AddsStep who rest more before after
    → AreSteps (take (i + 1) steps) text more after
step_more steps i step lt is who called text rest more before after was adds =
    let next : take (i + 1) steps ≡ take i steps ++ step ∷ [] =
    take_more steps i step lt ∙ ap (λ (x : Step). take i steps ++ x ∷ []) (sym is) in
    subst (λ (ss : List Step). AreSteps ss text more after) (sym next) (record {
      texts = was.texts ++ adds.texts ∷ [];
      callers = map-append who_of was.texts (adds.texts ∷ [])
          ∙ ap (λ (ws : List (List ℕ)). ws ++ adds.texts.who ∷ []) was.callers
          ∙ ap (λ (w : List ℕ). map caller_of (take i steps) ++ w ∷ []) (adds.caller ∙ called)
          ∙ sym (map-append caller_of (take i steps) (step ∷ []));
      are = was.are ∙ ap (steps_text was.texts) adds.are ∙ sym (steps_more was.texts adds.texts more);
      values_are = adds.added ∙ ap (λ (ds : List Data). ds ++ step_data adds.texts ∷ []) was.values_are
          ∙ sym (map-append step_data was.texts (adds.texts ∷ []));
    })

-- For line_values: with the lines taken and then the next one.
pub line_more : (text rest line more : List ℕ) (before after : List Data) → HasLines text rest before
    → rest ≡ line ++ (codes "\n" ++ more) → after ≡ before ++ string line ∷ [] → HasLines text more after
line_more text rest line more before after was cut added = record {
  lines = was.lines ++ line ∷ [];
  are = was.are ∙ ap (lines_text was.lines) cut ∙ sym (lines_more was.lines line more);
  values_are = added ∙ ap (λ (ds : List Data). ds ++ string line ∷ []) was.values_are
      ∙ sym (map-append string was.lines (line ∷ []));
}

-- For push_step: the values with one more.
pub added_one : (old new : List Value) (value : Value) (d : Data) → new ≡ old ++ value ∷ [] → view value ≡ d
    → map view new ≡ map view old ++ d ∷ []
added_one old new value d is same =
    ap (map view) is ∙ map-append view old (value ∷ []) ∙ ap (λ (x : Data). map view old ++ x ∷ []) same

-- For replayed_text: the text that was played, where the history wasn't full.
pub replayed : (s : Script) (text played : List ℕ) (full : Bool) → IsReplayed s played full → full ≡ false
    → text ≡ played → IsReplayed s text false
replayed s text played full is e same =
    subst (λ (xs : List ℕ). IsReplayed s xs false) (sym same) (subst (λ (b : Bool). IsReplayed s played b) e is)

-- For replay_value: of the values of both members.
pub both_members : (d r r' s s' : Data) → d ≡ replay_object r s → r ≡ r' → s ≡ s' → d ≡ replay_object r' s'
both_members d r r' s s' is report steps =
    is ∙ ap (λ (x : Data). replay_object x s) report ∙ ap (replay_object r') steps

-- For step_values: nothing is taken before the first.
pub no_steps : (text : List ℕ) (values : List Data) → values ≡ [] → AreSteps [] text text values
no_steps text values none = record { texts = []; callers = refl; are = refl; values_are = none }

-- For line_values: nothing is taken before the first.
pub no_lines : (text : List ℕ) (values : List Data) → values ≡ [] → HasLines text text values
no_lines text values none = record { lines = []; are = refl; values_are = none }
