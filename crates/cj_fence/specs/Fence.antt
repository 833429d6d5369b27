-- What the fenced start keeps, whoever calls what in whatever order: Kubernetes CronJob
-- documentation, "Concurrency policy" and "CronJob limitations", where these are wishes.
use Rattle.std.specs.Prelude.{◌≡◌, ℕ, ◌<◌, true, ◌||◌, List, [], ◌∷◌, Option, Some, None}
use Rattle.cj_fence.specs.declared.policy.Policy.{Policy}
use Rattle.cj_fence.specs.declared.policy.Policy.TheVariants.{Allow, Forbid, Replace}
use Rattle.cj_fence.specs.declared.refs.Ref.{Ref}
use Rattle.cj_fence.specs.declared.objects.Job.{Job}
use Rattle.cj_fence.specs.Objects.{look}
use Rattle.cj_fence.specs.History.{Told, state_of, IsLegal, AllFollow, Claimed, claims, claim_of, starts, started}
use Rattle.cj_fence.specs.Others.{OthersKeepTo}

-- for each entry and what came before it
abbrev pub Always : (Told → List Told → Type 0) → List Told → Type 0
Always P [] = Unit {0}
Always P (e ∷ h) = P e h × Always P h

-- no started Job of the CronJob of this uid and of the same time was started before, nor this one
-- rule: fence-once
abbrev pub IsOnce : List ℕ → Told → List Told → Type 0
IsOnce u e h =
    (r x : Ref) (c d : Claimed) → starts (state_of h) e.stamp e.deed r ≡ true → started h x ≡ true
    → claim_of h r ≡ Some c → claim_of h x ≡ Some d → c.owner ≡ u → d.owner ≡ u
    → d.time ≡ c.time → ⊥

-- under Forbid a Job that stands has finished, under Replace it has finished or has a
-- metadata.deletionTimestamp
-- rule: fence-alone
abbrev pub IsOver : Policy → Option Job → Type 0
IsOver Allow o = Unit {0}
IsOver Forbid None = Unit {0}
IsOver Forbid (Some j) = j.finished ≡ true
IsOver Replace None = Unit {0}
IsOver Replace (Some j) = (j.finished || j.deleting) ≡ true

-- where a Job is started whose claim was accepted under Forbid or Replace, each Job of that CronJob
-- that was started before is over
-- rule: fence-alone
abbrev pub IsAlone : List ℕ → Told → List Told → Type 0
IsAlone u e h =
    (r x : Ref) (c d : Claimed) → starts (state_of h) e.stamp e.deed r ≡ true → started h x ≡ true
    → claim_of h r ≡ Some c → claim_of h x ≡ Some d → c.owner ≡ u → d.owner ≡ u
    → IsOver c.policy (look (state_of h).jobs x)

-- a Job with the controller and the scheduled time of its claim
pub record IsOf (c : Claimed) (j : Job) : Type 0 where
  pub owner : j.owner ≡ c.owner
  pub time : j.time ≡ c.time

-- a Job that was claimed, for its controller and its scheduled time
-- rule: fence-claimed
pub record WasClaimed (h : List Told) (r : Ref) (j : Job) : Type 0 where
  pub claim : Claimed
  pub claimed : claim_of h r ≡ Some claim
  pub job : IsOf claim j

-- a started Job whose controller is the CronJob was claimed before; and a claim for the CronJob is
-- of a Job that wasn't claimed before
-- rule: fence-claimed
pub record IsClaimed (u : List ℕ) (e : Told) (h : List Told) : Type 0 where
  pub before : (r : Ref) (j : Job) → starts (state_of h) e.stamp e.deed r ≡ true
      → look (state_of (e ∷ h)).jobs r ≡ Some j → j.owner ≡ u → WasClaimed h r j
  pub once : (r : Ref) (c d : Claimed) → claims (state_of h) e.deed r ≡ Some c → c.owner ≡ u
      → claim_of h r ≡ Some d → ⊥

-- an accepted claim for the CronJob has a later time than each one before it
-- rule: fence-rising
abbrev pub IsRising : List ℕ → Told → List Told → Type 0
IsRising u e h =
    (r x : Ref) (c d : Claimed) → claims (state_of h) e.deed r ≡ Some c → claim_of h x ≡ Some d
    → c.owner ≡ u → d.owner ≡ u → d.time < c.time

-- For each CronJob, by its uid: every history in which each answer is the server's, each sync of
-- whatever CronJob follows the protocol, and others keep to the premises for this CronJob: any
-- number of syncs, of any number of replicas, each stopping anywhere.
-- rules: fence-once, fence-alone, fence-claimed, fence-rising
abbrev pub FenceLaw : Type 0
FenceLaw =
    (u : List ℕ) (h : List Told) → IsLegal h → AllFollow h → OthersKeepTo u h
    → Always (IsOnce u) h × Always (IsAlone u) h × Always (IsClaimed u) h × Always (IsRising u) h
