-- What holds after every list of calls: of Jobs, CronJobs, claims, and of what each sync knows.
use Rattle.std.proofs.Common.{◌≡◌, ◌⊎◌, ℕ, ◌<◌, ◌≤◌, true, false, ◌||◌, List, [], ◌∷◌, Option, Some, None}
use Rattle.cj_fence.specs.declared.policy.Policy.{Policy}
use Rattle.cj_fence.specs.declared.policy.Policy.TheVariants.{Forbid, Replace}
use Rattle.cj_fence.specs.declared.refs.Ref.{Ref}
use Rattle.cj_fence.specs.declared.objects.Cron.{Cron}
use Rattle.cj_fence.specs.declared.objects.Job.{Job}
use Rattle.cj_fence.specs.declared.sync.At.{At}
use Rattle.cj_fence.specs.declared.sync.Held.{Held}
use Rattle.cj_fence.specs.declared.sync.Sync.{Sync}
use Rattle.cj_fence.specs.declared.sync.Sync.TheVariants.{Fresh, Looking, Ready, Holding, Starting, Tidying, Gone, Over}
use Rattle.cj_fence.specs.Tables.{find}
pub use Rattle.cj_fence.specs.Objects.{ref}
use Rattle.cj_fence.specs.Objects.{waits}
use Rattle.cj_fence.specs.Protocol.{seen_of}
use Rattle.cj_fence.specs.History.{Told, state_of, GaveUid, GaveVersion, Claimed, claim_of, started, own}
use Rattle.cj_fence.proofs.FenceLemmas.Basics.{IsIn}

-- the Job and the CronJob that stand under a name
abbrev pub job_at : List Told → List ℕ → Option Job
job_at h n = find n (state_of h).jobs

abbrev pub cron_at : List Told → List ℕ → Option Cron
cron_at h n = find n (state_of h).crons

-- a Job, or a CronJob, that stood under the name at some moment
abbrev pub OldJob : List Told → List ℕ → Job → Type 0
OldJob [] n j = ⊥
OldJob (e ∷ h) n j = (job_at (e ∷ h) n ≡ Some j) ⊎ OldJob h n j

abbrev pub OldCron : List Told → List ℕ → Cron → Type 0
OldCron [] n c = ⊥
OldCron (e ∷ h) n c = (cron_at (e ∷ h) n ≡ Some c) ⊎ OldCron h n c

-- what holds of the reference's Job, if it stands
abbrev pub OfJob : List Told → Ref → (Job → Type 0) → Type 0
OfJob h r P = (j : Job) → job_at h r.name ≡ Some j → j.uid ≡ r.uid → P j

-- it has finished, or it is being deleted and was never started
abbrev pub IsDead : List Told → Ref → Job → Type 0
IsDead h r j = (j.finished ≡ true) ⊎ ((j.deleting ≡ true) × (started h r ≡ false))

abbrev pub Dead : List Told → Ref → Type 0
Dead h r = OfJob h r (IsDead h r)

-- it isn't held any more, or no start would make its Pods
abbrev pub Settled : List Told → Ref → Type 0
Settled h r = OfJob h r (λ j. waits j ≡ false)

-- it has finished or is being deleted
abbrev pub Leaving : List Told → Ref → Type 0
Leaving h r = OfJob h r (λ j. (j.finished || j.deleting) ≡ true)

-- a Job that stood at some moment had this controller
pub record Owned (h : List Told) (w : List ℕ) (r : Ref) : Type 0 where
  pub job : Job
  pub was : OldJob h r.name job
  pub uid : job.uid ≡ r.uid
  pub owner : job.owner ≡ w

-- its uid was given, and if it stands it has this controller
pub record IsOwn (me : List ℕ) (h : List Told) (r : Ref) : Type 0 where
  pub gave : GaveUid h r.uid
  pub stands : (j : Job) → job_at h r.name ≡ Some j → j.uid ≡ r.uid → j.owner ≡ me

-- ---- Jobs

-- Jobs of one controller, time and policy
pub record Alike (i j : Job) : Type 0 where
  pub owner : j.owner ≡ i.owner
  pub time : j.time ≡ i.time
  pub policy : j.policy ≡ i.policy

-- what becomes of a Job of the CronJob while it stands
pub record KeepsOwn (i j : Job) : Type 0 where
  pub alike : Alike i j
  pub held : j.held ≡ true → i.held ≡ true
  pub finished : i.finished ≡ true → j.finished ≡ true
  pub deleting : i.deleting ≡ true → j.deleting ≡ true

-- what becomes of any Job while it stands
pub record Keeps (me : List ℕ) (i j : Job) : Type 0 where
  pub uid : j.uid ≡ i.uid
  pub own : i.owner ≡ me → KeepsOwn i j
  pub back : j.owner ≡ me → i.owner ≡ me

pub record JobFact (me : List ℕ) (h : List Told) (n : List ℕ) (j : Job) : Type 0 where
  pub named : n ≡ [] → ⊥
  pub gave : GaveUid h j.uid
  pub gave_version : GaveVersion h j.version
  pub same : (i : Job) → OldJob h n i → i.version ≡ j.version → i ≡ j
  pub now : (i : Job) → job_at h n ≡ Some i → i.uid ≡ j.uid → Keeps me j i
  pub alike : (i : Job) → OldJob h n i → i.uid ≡ j.uid → j.owner ≡ me → Alike i j
  pub doomed : j.owner ≡ me → j.held ≡ true → j.deleting ≡ true → started h (ref n j.uid) ≡ false

-- ---- CronJobs

-- a Job that was claimed for the CronJob by the time of this status
pub record IsClaimedFor (h : List Told) (c : Cron) (r : Ref) : Type 0 where
  pub claim : Claimed
  pub is : claim_of h r ≡ Some claim
  pub owner : claim.owner ≡ c.uid
  pub time : claim.time ≤ c.last

-- of a CronJob that stood at some moment
pub record CronFact (h : List Told) (n : List ℕ) (c : Cron) : Type 0 where
  pub gave_uid : GaveUid h c.uid
  pub gave_version : GaveVersion h c.version
  pub home : (m : List ℕ) (d : Cron) → OldCron h m d → d.uid ≡ c.uid → m ≡ n
  pub same : (d : Cron) → OldCron h n d → d.version ≡ c.version → d ≡ c

-- of the status of the CronJob at some moment
pub record StatusFact (h : List Told) (c : Cron) : Type 0 where
  pub named : (r : Ref) (k : Claimed) → claim_of h r ≡ Some k → k.owner ≡ c.uid → k.time ≤ c.last
      → IsIn r c.active ⊎ Dead h r
  pub claimed : (r : Ref) → IsIn r c.active → IsClaimedFor h c r

-- of the CronJob where it stands
pub record NowFact (h : List Told) (n : List ℕ) (c : Cron) : Type 0 where
  pub last : (d : Cron) → OldCron h n d → d.uid ≡ c.uid → d.last ≤ c.last
  pub claims : (r : Ref) (k : Claimed) → claim_of h r ≡ Some k → k.owner ≡ c.uid → k.time ≤ c.last

-- ---- claims

-- an earlier claim: its Job can't be started any more, and under Forbid it was dead
pub record Passed (h : List Told) (p : Policy) (r : Ref) : Type 0 where
  pub settled : Settled h r
  pub dead : p ≡ Forbid → Dead h r

-- of a claim for whatever CronJob: its Job had this controller, time and policy
pub record ClaimFact (h : List Told) (r : Ref) (k : Claimed) : Type 0 where
  pub job : Job
  pub was : OldJob h r.name job
  pub uid : job.uid ≡ r.uid
  pub owner : job.owner ≡ k.owner
  pub time : job.time ≡ k.time
  pub policy : job.policy ≡ k.policy
  pub gave : GaveUid h k.owner

-- of a claim for the CronJob
pub record OrderlyFact (h : List Told) (r : Ref) (k : Claimed) : Type 0 where
  pub unique : (x : Ref) (d : Claimed) → claim_of h x ≡ Some d → d.owner ≡ k.owner → d.time ≡ k.time → x ≡ r
  pub passed : (x : Ref) (d : Claimed) → claim_of h x ≡ Some d → d.owner ≡ k.owner → d.time < k.time
      → Passed h k.policy x

-- ---- syncs

-- what a sync of whatever CronJob knows: that it stood so, and that all that was found running had it as controller
pub record AtBase (h : List Told) (at : At) : Type 0 where
  pub cron : OldCron h at.name at.cron
  pub owned : (r : Ref) → IsIn r at.alive → Owned h at.cron.uid r

-- What a sync knows of its CronJob: each claim up to the last time it saw is of a Job in these lists, or of a dead one.
pub record AtFact (h : List Told) (at : At) (rest : List Ref) : Type 0 where
  pub known : (r : Ref) (k : Claimed) → claim_of h r ≡ Some k → k.owner ≡ at.cron.uid → k.time ≤ at.cron.last
      → IsIn r rest ⊎ (IsIn r at.alive ⊎ Dead h r)
  pub settled : (r : Ref) → IsIn r at.alive → Settled h r
  pub alive : (r : Ref) → IsIn r at.alive → IsClaimedFor h at.cron r
  pub claimed : (r : Ref) → IsIn r rest → IsClaimedFor h at.cron r

-- two claimed Jobs of a CronJob, of which the first has the earlier time
pub record IsEarlier (h : List Told) (r q : Ref) : Type 0 where
  pub first : Claimed
  pub is_first : claim_of h r ≡ Some first
  pub second : Claimed
  pub is_second : claim_of h q ≡ Some second
  pub owner : first.owner ≡ second.owner
  pub less : first.time < second.time

-- a held Job that a sync found or made, with this controller
pub record HeldFact (h : List Told) (w : List ℕ) (x : Held) : Type 0 where
  pub was : OldJob h x.job.name x.found
  pub uid : x.found.uid ≡ x.job.uid
  pub held : x.found.held ≡ true
  pub owner : x.found.owner ≡ w

-- and that it is about to claim
pub record ForFact (c : Cron) (j : Job) : Type 0 where
  pub owner : j.owner ≡ c.uid
  pub policy : j.policy ≡ c.policy
  pub time : c.last < j.time

-- under Replace each other claimed Job is still to be deleted, or is leaving
abbrev pub DropFact : List Told → At → Held → List Ref → Type 0
DropFact h at x ds =
    (r : Ref) (k : Claimed) → claim_of h r ≡ Some k → k.owner ≡ at.cron.uid → k.time ≤ at.cron.last
    → (r ≡ x.job) ⊎ (IsIn r ds ⊎ Leaving h r)

abbrev pub held_first : Option Held → List Ref → List Ref
held_first None rs = rs
held_first (Some x) rs = x.job ∷ rs

abbrev pub IfHeld : List Told → List ℕ → Option Held → Type 0
IfHeld h w None = Unit {0}
IfHeld h w (Some x) = HeldFact h w x

-- all else that may run was claimed for earlier times
pub record OrderFact (h : List Told) (q : Ref) (alive rs : List Ref) : Type 0 where
  pub of_alive : (r : Ref) → IsIn r alive → IsEarlier h r q
  pub of_rest : (r : Ref) → IsIn r rs → (r ≡ q) ⊎ IsEarlier h r q

abbrev pub IfOrder : List Told → Option Held → List Ref → List Ref → Type 0
IfOrder h None alive rs = Unit {0}
IfOrder h (Some x) alive rs = OrderFact h x.job alive rs

-- what holds of each state for a sync of the CronJob
pub record LookingFact (h : List Told) (at : At) (rs : List Ref) (held : Option Held) : Type 0 where
  pub at_fact : AtFact h at (held_first held rs)
  pub order : IfOrder h held at.alive rs

pub record StartingFact (h : List Told) (at : At) (x : Held) (ds : List Ref) : Type 0 where
  pub at_fact : AtFact h at (x.job ∷ [])
  pub drops : x.found.policy ≡ Replace → DropFact h at x ds
  pub earlier : (r : Ref) → IsIn r ds → IsEarlier h r x.job

-- garbage: a Job of this controller whose time isn't after the last one, and that isn't in status.active
pub record GarbageFact (h : List Told) (c : Cron) (r : Ref) : Type 0 where
  pub job : Job
  pub was : OldJob h r.name job
  pub uid : job.uid ≡ r.uid
  pub owner : job.owner ≡ c.uid
  pub time : job.time ≤ c.last
  pub absent : IsIn r c.active → ⊥

-- a Job of this controller that had finished
pub record FinishedFact (h : List Told) (c : Cron) (r : Ref) : Type 0 where
  pub job : Job
  pub was : OldJob h r.name job
  pub uid : job.uid ≡ r.uid
  pub owner : job.owner ≡ c.uid
  pub finished : job.finished ≡ true

-- and of each state for a sync of any CronJob
pub record Looks (me : List ℕ) (h : List Told) (at : At) (rs : List Ref) (held : Option Held) : Type 0 where
  pub base : AtBase h at
  pub held_fact : IfHeld h at.cron.uid held
  pub its : at.cron.uid ≡ me → LookingFact h at rs held

pub record Readies (me : List ℕ) (h : List Told) (at : At) : Type 0 where
  pub base : AtBase h at
  pub its : at.cron.uid ≡ me → AtFact h at []

pub record Holds (me : List ℕ) (h : List Told) (at : At) (x : Held) : Type 0 where
  pub base : AtBase h at
  pub its : at.cron.uid ≡ me → AtFact h at []
  pub held_fact : HeldFact h at.cron.uid x
  pub for_fact : ForFact at.cron x.found
  pub alone : at.cron.policy ≡ Forbid → at.alive ≡ []

pub record Commits (me : List ℕ) (h : List Told) (at : At) (x : Held) (ds : List Ref) : Type 0 where
  pub base : AtBase h at
  pub its : at.cron.uid ≡ me → StartingFact h at x ds
  pub held_fact : HeldFact h at.cron.uid x
  pub among : (r : Ref) → IsIn r ds → IsIn r at.alive
  pub replaces : (r : Ref) → IsIn r ds → x.found.policy ≡ Replace

pub record Tidies (me : List ℕ) (h : List Told) (at : At) (gs fs : List Ref) : Type 0 where
  pub base : AtBase h at
  pub its : at.cron.uid ≡ me → AtFact h at []
  pub garbage : (r : Ref) → IsIn r gs → GarbageFact h at.cron r
  pub finished : (r : Ref) → IsIn r fs → FinishedFact h at.cron r

abbrev pub SyncFact : List ℕ → List Told → Sync → Type 0
SyncFact me h Fresh = Unit {0}
SyncFact me h (Looking at rs held) = Looks me h at rs held
SyncFact me h (Ready at) = Readies me h at
SyncFact me h (Holding at x) = Holds me h at x
SyncFact me h (Starting at x ds) = Commits me h at x ds
SyncFact me h (Tidying at gs fs) = Tidies me h at gs fs
SyncFact me h Gone = Unit {0}
SyncFact me h Over = Unit {0}

-- ---- all of it, for the CronJob of this uid

pub record Inv (me : List ℕ) (h : List Told) : Type 0 where
  pub jobs : (n : List ℕ) (j : Job) → OldJob h n j → JobFact me h n j
  pub held : (n : List ℕ) (j : Job) → job_at h n ≡ Some j → j.owner ≡ me → j.held ≡ true
      → started h (ref n j.uid) ≡ false
  pub crons : (n : List ℕ) (c : Cron) → OldCron h n c → CronFact h n c
  pub status : (n : List ℕ) (c : Cron) → OldCron h n c → c.uid ≡ me → StatusFact h c
  pub now : (n : List ℕ) (c : Cron) → cron_at h n ≡ Some c → c.uid ≡ me → NowFact h n c
  pub claims : (r : Ref) (k : Claimed) → claim_of h r ≡ Some k → ClaimFact h r k
  pub orderly : (r : Ref) (k : Claimed) → claim_of h r ≡ Some k → k.owner ≡ me → OrderlyFact h r k
  pub gave : (r : Ref) → started h r ≡ true → GaveUid h r.uid
  pub started : (r : Ref) → started h r ≡ true → Owned h me r → (k : Claimed) × (claim_of h r ≡ Some k)
  pub syncs : (y : ℕ) → SyncFact me h (seen_of (own y h))
