-- What holds of the store, the queue's row and all syncs at once.
use Rattle.std.proofs.Common.{◌≡◌, ◌⊎◌, ℕ, ◌<◌, ◌≤◌, true, false, List, [], ◌∷◌, Option, Some}
use Rattle.std.specs.Prelude.{IfSome}
use Rattle.std.specs.List.{AllByRecursion}
use Rattle.std.specs.Ordering.{nat_cmp}
use Rattle.std.specs.FinMap as map
use Rattle.cj_types.specs.Keys.{Place, place_cmp}
use Rattle.cj_types.specs.Uids.{uid_text}
use Rattle.cj_types.specs.Owners.{controller_of}
use Rattle.cj_types.specs.declared.owners.OwnerRef.{OwnerRef}
use Rattle.cj_types.specs.declared.cron.CronJob.{CronJob}
use Rattle.cj_types.specs.declared.cron.CronStatus.{CronStatus}
use Rattle.cj_types.specs.declared.job.Job.{Job}
use Rattle.cj_types.specs.declared.job.JobDraft.{JobDraft}
use Rattle.cj_store.specs.Content.{Content}
use Rattle.cj_queue.specs.Queue.{Row, has}
use Rattle.cj_state.specs.phases.Steps.{Step, makes, sets, left}
use Rattle.cj_state.specs.declared.phases.sync.InFlight.{InFlight}
use Rattle.cj_state.specs.declared.phases.sync.Phase.{Phase}
use Rattle.cj_state.specs.declared.phases.sync.Phase.TheVariants.{Held, Seen, Listed, Checked, Works}
use Rattle.cj_decide.specs.laws.Fits.{IsAt, IsFound, is_strict, upto}
use Rattle.cj_world_laws.specs.once.Once.{Claimed}
use Rattle.cj_world_laws.proofs.OnceLemmas.Lists.{IsIn, Before, Ordered, Rest}

-- under which key each uid was created
abbrev pub Homes : Type 0
Homes = ℕ → Place

-- each time that was made for an owner
abbrev pub EachTime : ℕ → (ℕ → Type 0) → List Claimed → Type 0
EachTime u P ms = AllByRecursion (λ x. x.owner ≡ u → P x.time) ms

-- each unfinished Job of a CronJob is named in it
abbrev pub Named : Place → ℕ → List (List ℕ) → map.FinMap place_cmp Job → Type 0
Named k u ns jobs = Rest u (λ q i. IsAt k.namespace ns q) jobs

pub record CronFact (home : Homes) (s : Content) (ms : List Claimed) (k : Place) (c : CronJob) : Type 0 where
  pub key : c.key ≡ k
  pub home_is : home c.meta.uid ≡ k
  pub uid : c.meta.uid ≤ s.uids
  pub version : c.meta.version ≤ s.version
  pub made : EachTime c.meta.uid (λ t. t < upto c.status.last_schedule_time) ms
  pub named : Named k c.meta.uid c.status.active s.jobs

-- the controller of a Job is a CronJob that was created
pub record IsOwned (s : Content) (o : OwnerRef) : Type 0 where
  pub owner : ℕ
  pub known : owner ≤ s.uids
  pub text : o.uid ≡ uid_text owner

pub record StoreFact (home : Homes) (s : Content) (ms : List Claimed) : Type 0 where
  pub crons : (k : Place) (c : CronJob) → map.get s.crons k ≡ Some c → CronFact home s ms k c
  pub keys : (q : Place) (j : Job) → map.get s.jobs q ≡ Some j → j.key ≡ q
  pub owned : (q : Place) (j : Job) (o : OwnerRef) → map.get s.jobs q ≡ Some j → controller_of j.owners ≡ Some o
      → IsOwned s o
  pub made : AllByRecursion (λ x. x.owner ≤ s.uids) ms

-- of a CronJob that a sync saw
pub record SeenFact (home : Homes) (s : Content) (k : Place) (c : CronJob) : Type 0 where
  pub key : c.key ≡ k
  pub home_is : home c.meta.uid ≡ k
  pub uid : c.meta.uid ≤ s.uids
  pub version : c.meta.version ≤ s.version
  pub same : (d : CronJob) → map.get s.crons k ≡ Some d → d.meta.version ≡ c.meta.version → d ≡ c
  pub named : Named k c.meta.uid c.status.active s.jobs

-- and of what it found of the names in it
pub record CheckedFact (home : Homes) (s : Content) (k : Place) (fs : List (Option Job)) (c : CronJob) : Type 0 where
  pub seen : SeenFact home s k c
  pub found : Rest c.meta.uid (IsFound c fs) s.jobs

-- of a claimed time for which no Job was made yet
pub record MakeFact (home : Homes) (s : Content) (ms : List Claimed) (claim : Option Claimed) (k : Place) (rs : List
    Step) (d : JobDraft) : Type 0 where
  pub m : Claimed
  pub claimed : claim ≡ Some m
  pub home_is : home m.owner ≡ k
  pub uid : m.owner ≤ s.uids
  pub above : EachTime m.owner (λ t. t < m.time) ms
  pub last : (c : CronJob) → map.get s.crons k ≡ Some c → c.meta.uid ≡ m.owner
      → m.time < upto c.status.last_schedule_time
  pub named : (c : CronJob) → map.get s.crons k ≡ Some c → c.meta.uid ≡ m.owner → IsAt k.namespace c.status.active d.key
  pub alone : is_strict m.policy ≡ true → Rest m.owner (Before rs) s.jobs
  pub owner : OwnerRef
  pub controller : controller_of d.owners ≡ Some owner
  pub text : owner.uid ≡ uid_text m.owner

-- of a status that is still to be written
pub record StatusFact (home : Homes) (s : Content) (k : Place) (rs : List Step)
    (u v : ℕ) (f : CronStatus) : Type 0 where
  pub home_is : home u ≡ k
  pub uid : u ≤ s.uids
  pub version : v ≤ s.version
  pub last : (c : CronJob) → map.get s.crons k ≡ Some c → c.meta.version ≡ v
      → upto c.status.last_schedule_time ≤ upto f.last_schedule_time
  pub spoken : Rest u (λ q i. IsAt k.namespace f.active q ⊎ Before rs q i) s.jobs

-- of the steps that are left of a plan
pub record PlanFact (home : Homes) (s : Content) (ms : List Claimed) (claim : Option Claimed) (k : Place) (cron : Option
    CronJob) (v : ℕ) (rs : List Step) : Type 0 where
  pub ordered : Ordered rs
  pub make : (d : JobDraft) → IsIn (makes d) rs → MakeFact home s ms claim k rs d
  pub status : (c : CronJob) (f : CronStatus) → cron ≡ Some c → IsIn (sets f) rs → StatusFact home s k rs c.meta.uid v f
  pub names : (d : JobDraft) (f : CronStatus) → IsIn (makes d) rs → IsIn (sets f) rs → IsAt k.namespace f.active d.key

abbrev pub SyncFact : Homes → Content → List Claimed → Option Claimed → Place → Phase → Type 0
SyncFact home s ms claim k Held = Unit {0}
SyncFact home s ms claim k (Seen c) = IfSome c (SeenFact home s k)
SyncFact home s ms claim k (Listed c js) = IfSome c (SeenFact home s k)
SyncFact home s ms claim k (Checked c js fs) = IfSome c (CheckedFact home s k fs)
SyncFact home s ms claim k (Works work) = PlanFact home s ms claim k work.plan.cron work.version
    (left work.plan.steps work.place)

-- a key of the line is dirty, isn't worked on, and stands there once
abbrev pub IsLine : Row → List Place → Type 0
IsLine r [] = Unit {0}
IsLine r (k ∷ ks) = (has r.dirty k ≡ true) × (has r.processing k ≡ false) × (IsIn k ks → ⊥) × IsLine r ks

pub record Inv (home : Homes) (s : Content) (row : Row) (syncs : map.FinMap nat_cmp InFlight) (ms : List
    Claimed) (claims : ℕ → Option Claimed) : Type 0 where
  pub store : StoreFact home s ms
  pub line : IsLine row row.line
  pub held : (w : ℕ) (sync : InFlight) → map.get syncs w ≡ Some sync → has row.processing sync.key ≡ true
  pub apart : (v w : ℕ) (a b : InFlight) → map.get syncs v ≡ Some a → map.get syncs w ≡ Some b → a.key ≡ b.key → v ≡ w
  pub facts : (w : ℕ) (sync : InFlight) → map.get syncs w ≡ Some sync → SyncFact home s ms
      (claims w) sync.key sync.phase
