-- What the end of a sync says of the pass, at any desk.
use Rattle.std.specs.Prelude.{◌≡◌, List, [], ◌∷◌, ◌++◌}
use Rattle.cj_base.specs.declared.refusal.Refusal.{Refusal}
use Rattle.cj_base.specs.declared.refusal.Refusal.TheVariants as No
use Rattle.cj_calls.specs.Rows.{Told}
use Rattle.cj_hub.specs.Receipts.{PassView}
use Rattle.cj_hub.specs.Runs.{IfFull, IsFullRefusal}
use Rattle.cj_hub.specs.declared.receipt.Receipt.{Receipt}
use Rattle.cj_worker.specs.declared.ending.SyncEnd.{SyncEnd}
use Rattle.cj_worker.specs.declared.ending.SyncEnd.TheVariants.{Idle, ShutDown, Done, Retried, Broken, Stopped}
use Rattle.cj_worker.specs.Sequences.{IsDone, IsPutOff, IsShut, IsAt}

-- the pass has new receipts, and the entry of the last one meets P
-- rule: sync-ends
pub record EndsBy (p q : PassView) (P : Told → Type 0) : Type 0 where
  pub news : List Receipt
  pub last : Receipt
  pub kept : q ≡ record p { receipts = p.receipts ++ (news ++ last ∷ []) }
  pub meets : P last.entry

-- what keeps a sync from beginning or from ending
-- rule: sync-ends
abbrev pub IsBreaking : Refusal → Type 0
IsBreaking No.NotPermitted = Unit {0}
IsBreaking No.OutOfPhase = Unit {0}
IsBreaking No.HistoryFull = Unit {0}
IsBreaking No.Estranged = Unit {0}
IsBreaking No.OutOfMemory = Unit {0}
IsBreaking _ = ⊥

-- where the sync is Broken by HistoryFull, P holds
-- rule: sync-ends
abbrev pub EndsFull : SyncEnd → Type 0 → Type 0
EndsFull (Broken r) P = IfFull r P
EndsFull _ P = Unit {0}

-- the sync is Broken by what is answered at a full history
-- rule: sync-ends
abbrev pub IsBrokenFull : SyncEnd → Type 0
IsBrokenFull (Broken r) = IsFullRefusal r
IsBrokenFull _ = ⊥

-- the last receipt shows the end; an idle sync leaves the pass as it was
-- rule: sync-ends
abbrev pub IsShown : PassView → PassView → SyncEnd → Type 0
IsShown p q Idle = q ≡ p
IsShown p q ShutDown = EndsBy p q IsShut
IsShown p q Done = EndsBy p q IsDone
IsShown p q (Retried r) = EndsBy p q IsPutOff
IsShown p q (Broken r) = IsBreaking r
IsShown p q (Stopped point) = EndsBy p q (IsAt point)
