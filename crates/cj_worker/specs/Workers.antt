-- How workers come back from their threads.
use Rattle.std.specs.Prelude.{◌≡◌, ◌⊎◌, false, List, [], ◌∷◌, ◌++◌, Option, Some, None}
use Rattle.std.specs.List.{AllByRecursion, AllZip}
use Rattle.cj_calls.specs.Rows.{Told}
use Rattle.cj_types.specs.Keys.{Place}
use Rattle.cj_types.specs.WorldLimits.{kept}
use Rattle.cj_world.specs.Worlds.{WorldLog}
use Rattle.cj_zone.specs.declared.table.ZoneTable.{ZoneTable}
use Rattle.cj_hub.specs.Runs.{Adds}
use Rattle.cj_hub.specs.Receipts.{PassView}
use Rattle.cj_hub.specs.declared.receipt.Receipt.{Receipt}
use Rattle.cj_worker.specs.Ends.{EndsBy, IsBreaking}
use Rattle.cj_worker.specs.Sequences.{IsShut, IsAt}
use Rattle.cj_worker.specs.Syncs.{IsSync}
use Rattle.cj_worker.specs.declared.gate.Point.{Point}
use Rattle.cj_worker.specs.declared.gate.Reading.{Reading}
use Rattle.cj_worker.specs.declared.ending.SyncEnd.{SyncEnd}
use Rattle.cj_worker.specs.declared.ending.SyncEnd.TheVariants.{ShutDown, Broken, Stopped}
use Rattle.cj_worker.specs.declared.workers.WorkerEnd.{WorkerEnd}

-- the pass with new receipts after those that it had
-- rule: worker-passes
abbrev pub Extends : PassView → PassView → Type 0
Extends p q = (news : List Receipt) × (q ≡ record p { receipts = p.receipts ++ news })

-- the end of a sync after which a worker makes no other one
-- rule: worker-ends
abbrev pub last_end : SyncEnd → Option SyncEnd
last_end ShutDown = Some ShutDown
last_end (Broken r) = Some (Broken r)
last_end (Stopped point) = Some (Stopped point)
last_end _ = None

-- what such an end says: the last receipt is a new one, of a Take from a shut queue, or of the call
-- after which the gate stopped the sync
-- rule: worker-ends
abbrev pub HasEnd : SyncEnd → PassView → PassView → Type 0
HasEnd ShutDown p q = EndsBy p q IsShut
HasEnd (Broken r) p q = IsBreaking r
HasEnd (Stopped point) p q = EndsBy p q (IsAt point)
HasEnd _ p q = ⊥

-- a sync that was made: what it added, and how it ended
pub record MadeSync : Type 0 where
  pub entries : List Told
  pub end : SyncEnd

-- what syncs add that are made one after the other
abbrev pub added_by : List MadeSync → List Told
added_by [] = []
added_by (s ∷ ss) = s.entries ++ added_by ss

-- the entries are of whole syncs, one after the other, of which the last alone is one that a worker
-- ends on
-- rule: worker-ends
pub record AreSyncs (F : List Told → SyncEnd → Type 0) (es : List Told)
    (end : SyncEnd) : Type 0 where
  pub before : List MadeSync
  pub whole : AllByRecursion (λ s. F s.entries s.end × (last_end s.end ≡ None)) before
  pub last : List Told
  pub ended : F last end
  pub split : es ≡ added_by before ++ last

-- one whole sync, which ends as the worker does, or after which it goes on
abbrev pub HasSynced : (List Told → SyncEnd → Type 0) → List Told → Option SyncEnd → Type 0
HasSynced F es (Some end) = F es end
HasSynced F es None = (end : SyncEnd) × F es end × (last_end end ≡ None)

-- contracts don't know the history of a hub
abbrev pub untold : WorldLog
untold = record { limits = kept 0 0; history = [] }

-- the pass got receipts of entries that meet F, all its own
-- rule: worker-ends
abbrev pub Gets : PassView → PassView → (List Told → Type 0) → Type 0
Gets p q F = Adds false untold untold p q F

-- a worker that was given the pass hands it back so: its new receipts are of whole syncs one after
-- the other, the last of which is that on which it ended
-- rules: worker-ends, worker-passes
pub record Went (gives : Reading → Type 0) (may : Point → Place → Type 0) (zones : ZoneTable)
    (p : PassView) (e : WorkerEnd) : Type 0 where
  pub longer : Extends p e.pass
  pub syncs : Gets p e.pass (λ es. AreSyncs (IsSync gives may zones) es e.end)
  pub ended : HasEnd e.end p e.pass

-- the first list is the second without some of its members
-- rule: worker-passes
abbrev pub IsPart : List PassView → List PassView → Type 0
IsPart [] ys = Unit {0}
IsPart (x ∷ xs) [] = ⊥
IsPart (x ∷ xs) (y ∷ ys) = ((x ≡ y) × IsPart xs ys) ⊎ IsPart (x ∷ xs) ys

-- the ends are those of the passes, in order, without those that were lost
-- rule: worker-passes
abbrev pub WentSome : (Reading → Type 0) → (Point → Place → Type 0) → ZoneTable → List PassView
    → List WorkerEnd → Type 0
WentSome gives may zones passes ends = (some : List PassView) × IsPart some passes
    × AllZip (Went gives may zones) some ends
