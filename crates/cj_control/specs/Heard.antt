-- A sync hears a line.
use Rattle.std.specs.Prelude.{◌≡◌, ℕ, Option, Some, None}
use Rattle.std.specs.FinMap.{get}
use Rattle.serde_json.specs.Data.{Data}
use Rattle.cj_fence.specs.declared.answer.Answer.{Answer}
use Rattle.cj_fence.specs.declared.call.Call.{Call}
use Rattle.cj_control.specs.declared.deed.Deed.TheVariants.{Hears}
use Rattle.cj_control.specs.declared.line.LineKind.{LineKind}
use Rattle.cj_control.specs.declared.line.LineKind.TheVariants.{Answered, Failed, Told, Clock, Stop}
use Rattle.cj_control.specs.declared.rows.FencedSync.{FencedSync}
use Rattle.cj_control.specs.Answers.{IsAnswer}
use Rattle.cj_control.specs.Syncs.{Adds, LedgerView, Waits}

-- the number of the request that a line answers
abbrev pub answered_id : LineKind → Option ℕ
answered_id (Answered id status) = Some id
answered_id (Failed id) = Some id
answered_id (Told id) = None
answered_id (Clock t) = None
answered_id Stop = None

-- a sync waits for what a line answers
-- rule: control-numbers
abbrev pub WaitsFor : ℕ → LineKind → LedgerView → Type 0
WaitsFor y kind l = (id : ℕ) × (answered_id kind ≡ Some id) × Waits y (Some id) l.syncs.rows

-- it hears what the line says as the answer to what it asked
-- rule: control-answers
pub record HearsLine (y : ℕ) (kind : LineKind) (body : Option Data)
    (l m : LedgerView) : Type 0 where
  pub sync : FencedSync
  pub is : get l.syncs.rows y ≡ Some sync
  pub call : Call
  pub asked : sync.asked ≡ Some call
  pub answer : Answer
  pub answers : IsAnswer call kind body answer
  pub adds : Adds (Hears y answer) l m
