-- Nothing claimed is lost to a replica: no call of a sync takes a claimed Job away before it is
-- started, but for the one whose starting deadline has passed (Kubernetes CronJob documentation,
-- "Deadline for delayed Job start").
use Rattle.std.specs.Prelude.{◌≡◌, ℕ, ◌⊎◌, true, List, ◌∷◌, Some, ◌<◌}
use Rattle.cj_fence.specs.declared.policy.Policy.TheVariants.{Replace}
use Rattle.cj_fence.specs.declared.refs.Ref.{Ref}
use Rattle.cj_fence.specs.declared.call.Call.{Call}
use Rattle.cj_fence.specs.declared.call.Call.TheVariants as Of
use Rattle.cj_fence.specs.declared.sync.At.{At}
use Rattle.cj_fence.specs.declared.sync.Held.{Held}
use Rattle.cj_fence.specs.declared.sync.Sync.TheVariants.{Starting}
use Rattle.cj_fence.specs.Objects.{look}
use Rattle.cj_fence.specs.Protocol.{seen_of, IsLate}
use Rattle.cj_fence.specs.History.{Deed, Asked, Wrote, Told, state_of, own, Claimed, claim_of, waits_in, runs_in, starts, IsLegal, AllFollow}
use Rattle.cj_fence.specs.Others.{OthersKeepTo}
use Rattle.cj_fence.specs.Fence.{Always}

-- a claimed Job that is neither started nor gone: it is held, hasn't finished, and has no
-- metadata.deletionTimestamp
abbrev pub IsWaiting : List Told → Ref → Type 0
IsWaiting h r = waits_in (look (state_of h).jobs r) ≡ true

-- Step 3: the sync found the Job held in status.active, and at the moment of its DELETE the Job's
-- time is past by more than the spec.startingDeadlineSeconds that it read.
-- rule: nothing-lost
pub record IsExpiry (h : List Told) (y : ℕ) (call : Call) (r : Ref) (k : Claimed) : Type 0 where
  pub at : At
  pub held : Held
  pub drops : List Ref
  pub knows : seen_of (own y h) ≡ Starting at held drops
  pub version : List ℕ
  pub now : ℕ
  pub is : call ≡ Of.Expire r version now
  pub owner : at.cron.uid ≡ k.owner
  pub late : IsLate at.cron.deadline k.time now

-- after a call of a sync a Job claimed for the CronJob of this uid that waits still does, or the
-- call starts it, or it is too late for it
-- rule: nothing-lost
abbrev pub KeepsClaimed : List ℕ → Told → List Told → Deed → Type 0
KeepsClaimed u e h (Asked y call reached a) =
    (r : Ref) (k : Claimed) → claim_of h r ≡ Some k → k.owner ≡ u → IsWaiting h r
    → IsWaiting (e ∷ h) r ⊎ ((starts (state_of h) e.stamp e.deed r ≡ true) ⊎ IsExpiry h y call r k)
KeepsClaimed u e h (Wrote w) = Unit {0}

-- an entry keeps what was claimed
abbrev pub IsKept : List ℕ → Told → List Told → Type 0
IsKept u e h = KeepsClaimed u e h e.deed

-- no sync's call loses what was claimed
-- rule: nothing-lost
abbrev pub NothingIsLost : Type 0
NothingIsLost =
    (u : List ℕ) (h : List Told) → IsLegal h → AllFollow h → OthersKeepTo u h → Always (IsKept u) h

-- ---- Jobs that run

-- a Job that runs: it isn't held, hasn't finished, and has no metadata.deletionTimestamp
abbrev pub IsRunning : List Told → Ref → Type 0
IsRunning h r = runs_in (look (state_of h).jobs r) ≡ true

-- another Job of the CronJob was claimed for a later time under Replace (spec.concurrencyPolicy)
-- rule: running-stays
pub record IsReplaced (h : List Told) (k : Claimed) : Type 0 where
  pub by : Ref
  pub claim : Claimed
  pub is : claim_of h by ≡ Some claim
  pub owner : claim.owner ≡ k.owner
  pub later : k.time < claim.time
  pub policy : claim.policy ≡ Replace

-- after a call of a sync a Job claimed for the CronJob of this uid that runs still does, or the
-- call deletes it for one that takes its place
-- rule: running-stays
abbrev pub SparesRunning : List ℕ → Told → List Told → Deed → Type 0
SparesRunning u e h (Asked y call reached a) =
    (r : Ref) (k : Claimed) → claim_of h r ≡ Some k → k.owner ≡ u → IsRunning h r
    → IsRunning (e ∷ h) r ⊎ ((call ≡ Of.Delete r) × IsReplaced h k)
SparesRunning u e h (Wrote w) = Unit {0}

-- an entry takes no claimed Job away that runs
abbrev pub IsSpared : List ℕ → Told → List Told → Type 0
IsSpared u e h = SparesRunning u e h e.deed

-- no sync's call takes a Job away that runs, but under Replace for a later one
-- rule: running-stays
abbrev pub RunningStays : Type 0
RunningStays =
    (u : List ℕ) (h : List Told) → IsLegal h → AllFollow h → OthersKeepTo u h
    → Always (IsSpared u) h
