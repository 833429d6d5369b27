-- Shares of the list, and what comes of each.
use Rattle.std.specs.Prelude.{◌≡◌, ◌⊎◌, ℕ, Bool, IsTrue, List, [], ◌∷◌, ◌++◌, Option, Some, None, IfNone, IsSome, map}
use Rattle.std.specs.List.{AllByRecursion, flat_map}
use Rattle.cj_base.specs.declared.refusal.Refusal.{Refusal}
use Rattle.cj_base.specs.declared.refusal.Refusal.TheVariants as No
use Rattle.cj_calls.specs.declared.call.Call.{Call}
use Rattle.cj_world.specs.Worlds.{WorldLog}
use Rattle.cj_hub.specs.Receipts.{PassView, caller_of, with_receipt}
use Rattle.cj_hub.specs.declared.receipt.Receipt.{Receipt}
use Rattle.cj_runner.specs.Dues.{due_ends}
use Rattle.cj_runner.specs.Ends.{calls_of, Keeps, IsPart}
use Rattle.cj_runner.specs.declared.ending.Ends.{Ends}
use Rattle.cj_runner.specs.declared.ending.Stop.{Stop}
use Rattle.cj_runner.specs.declared.ending.Stop.TheVariants as Of
use Rattle.cj_runner.specs.declared.gather.Gathered.{Gathered}
use Rattle.cj_runner.specs.declared.running.Running.{Running}
use Rattle.cj_runner.specs.declared.shares.Share.{Share}
use Rattle.cj_runner.specs.declared.threads.ShareEnd.{ShareEnd}

-- each pass has a share, and the shares, one after the other, are the list, but for what is left
pub record AreShares (passes : List PassView) (running : List Running) (shares : List Share)
    (left : List Running) : Type 0 where
  pub owners : map (λ s. s.pass) shares ≡ passes
  pub parts : flat_map (λ s. s.running.items) shares ++ left ≡ running

-- one call was entered: its receipt is the pass's, and comes after the others; a history that is
-- known gained just its entry
pub record Makes (tells : Bool) (w w' : WorldLog) (p p' : PassView) (call : Call)
    (rs rs' : List Receipt) : Type 0 where
  pub receipt : Receipt
  pub call_is : receipt.entry.call ≡ call
  pub own : receipt.entry.caller ≡ caller_of p
  pub kept : p' ≡ with_receipt p receipt
  pub added : rs' ≡ rs ++ receipt ∷ []
  pub told : IsTrue tells → w' ≡ record w { history = receipt.entry ∷ w.history }

-- the receipts are of the ends that are due, in order: of all, or of the first ones where the
-- runner stopped
-- rule: runner
pub record HasEnded (now : ℕ) (running : List Running) (e : Ends) : Type 0 where
  pub rest : List Call
  pub due : due_ends now running ≡ calls_of e.receipts.items ++ rest
  pub all : IfNone e.stop (rest ≡ [])

-- what a thread that was given the share hands back
pub record Came (now : ℕ) (share : Share) (e : ShareEnd) : Type 0 where
  pub keeps : Keeps share.pass e.pass e.ends.receipts.items
  pub ended : HasEnded now share.running.items e.ends

-- what came of a share whose thread may not have been started
abbrev pub HasCome : ℕ → Share → Option ShareEnd → Type 0
HasCome now share None = Unit {0}
HasCome now share (Some e) = Came now share e

-- nothing is kept of it, and there is a reason for that
pub record Loses (g g' : Gathered) : Type 0 where
  pub passes : g'.passes.items ≡ g.passes.items
  pub stop : IsSome g'.stop

-- no reason so far, and all receipts are kept
pub record Joins (g : Gathered) (e : ShareEnd) (g' : Gathered) : Type 0 where
  pub before : g.stop ≡ None
  pub stop : e.ends.stop ≡ None
  pub receipts : g'.receipts.items ≡ g.receipts.items ++ e.ends.receipts.items

-- the pass is kept, and its receipts where there is no reason
pub record Keeping (g : Gathered) (e : ShareEnd) (g' : Gathered) : Type 0 where
  pub passes : g'.passes.items ≡ g.passes.items ++ e.pass ∷ []
  pub joins : g'.stop ≡ None → Joins g e g'

abbrev pub TakesUp : Gathered → Option ShareEnd → Gathered → Type 0
TakesUp g None g' = Loses g g'
TakesUp g (Some e) g' = Keeping g e g' ⊎ Loses g g'

-- all came back, without a reason, and these are their receipts
pub record AreAll (ends : List (Option ShareEnd)) (kept : List ShareEnd)
    (receipts : List Receipt) : Type 0 where
  pub all : ends ≡ map Some kept
  pub quiet : AllByRecursion (λ e. e.ends.stop ≡ None) kept
  pub joined : receipts ≡ flat_map (λ e. e.ends.receipts.items) kept

-- the passes are those of some that came back; where there is no reason, all did, and the receipts
-- are theirs
pub record IsGathered (ends : List (Option ShareEnd)) (g : Gathered) : Type 0 where
  pub kept : List ShareEnd
  pub part : IsPart (map Some kept) ends
  pub passes : g.passes.items ≡ map (λ e. e.pass) kept
  pub whole : g.stop ≡ None → AreAll ends kept g.receipts.items

-- the refusal that a stop is answered as
abbrev pub refusal_by : Stop → Refusal
refusal_by Of.HistoryFull = No.HistoryFull
refusal_by Of.Estranged = No.Estranged
refusal_by Of.OutOfMemory = No.OutOfMemory
