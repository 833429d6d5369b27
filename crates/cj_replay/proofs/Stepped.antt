-- One step, of its call, its answer and its line.
use Rattle.std.proofs.Common.{◌≡◌, ◌+◌, ◌∙◌, ℕ, Bool, true, false, List, ◌∷◌, length, refl, ap, arith}
use Rattle.std.specs.Prelude.{Option, Some, None, Result, if◌then◌else◌}
use Rattle.cj_base.specs.declared.refusal.Refusal.{Refusal}
use Rattle.cj_types.specs.WorldLimits.{Kept}
use Rattle.cj_zone.specs.declared.table.ZoneTable.{ZoneTable}
use Rattle.cj_calls.specs.declared.call.Call.{Call}
use Rattle.cj_calls.specs.declared.reply.Reply.{Reply}
use Rattle.cj_calls.specs.Rows.{Told}
use Rattle.cj_state.specs.Legal.{is_entered}
use Rattle.cj_world.specs.Worlds.{told}
use Rattle.cj_report.specs.Lines.{step_line}
use Rattle.cj_script.specs.declared.step.Step.{Step}
use Rattle.cj_script.specs.operations.Calls.{IsCallOf}
use Rattle.cj_replay.specs.Runs.{MakesStep, after, answered, is_full, job_at, sync_after}

-- For makes: an entry that was added stands at the place after those before it.
place_by : (t : Told) (h : List Told) (b : Bool) → (if b then Some (length (if b then t ∷ h else h)) else None)
    ≡ (if b then Some (length h + 1) else None)
place_by t h true = let e : length (t ∷ h) ≡ length h + 1 = omega arith in ap (λ (n : ℕ). Some n) e
place_by t h false = refl

-- For make_step: a step's call, its answer, its line and the history left are what MakesStep says.
pub makes : (zones : ZoneTable) (limits : Kept) (h : List Told) (step : Step) (call : Call) (answer : Result Reply
    Refusal) (h' : List Told) (line : List ℕ) (full : Bool)
    → IsCallOf zones (sync_after limits.window h step.caller.number) (job_at limits.window h) step.operation call
    → answer ≡ answered limits h step.caller call → h' ≡ after h step.caller call answer
    → line ≡ step_line (if is_entered answer then Some (length h') else None) step.who step.verb answer
    → full ≡ is_full answer → MakesStep zones limits h step line full h'
makes zones limits h step call answer h' line full means given leaves printed found = record {
  call = call;
  means = means;
  answer = answer;
  given = given;
  printed =
      printed
      ∙ ap (λ (l : List Told). step_line (if is_entered answer then Some (length l) else None) step.who step.verb
      answer) leaves
      ∙ ap (λ (o : Option ℕ). step_line o step.who step.verb answer)
      (place_by (told step.caller call answer) h (is_entered answer));
  found = found;
  leaves = leaves;
}
