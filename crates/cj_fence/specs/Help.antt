-- Help: whoever claimed a Job and then stopped, the next sync that nobody disturbs starts it.
use Rattle.std.specs.Prelude.{◌⊎◌, ◌≡◌, ℕ, true, List, [], ◌∷◌, ◌++◌, Some}
use Rattle.cj_fence.specs.declared.refs.Ref.{Ref}
use Rattle.cj_fence.specs.declared.objects.Cron.{Cron}
use Rattle.cj_fence.specs.declared.objects.Job.{Job}
use Rattle.cj_fence.specs.declared.cluster.Cluster.{Cluster}
use Rattle.cj_fence.specs.declared.answer.Answer.{Answer}
use Rattle.cj_fence.specs.declared.answer.Answer.TheVariants as Is
use Rattle.cj_fence.specs.declared.answer.Stamp.{Stamp}
use Rattle.cj_fence.specs.declared.sync.Sync.{Sync}
use Rattle.cj_fence.specs.declared.call.Call.{Call}
use Rattle.cj_fence.specs.declared.call.Call.TheVariants as Of
use Rattle.cj_fence.specs.declared.sync.Sync.TheVariants.{Gone, Ready, Holding, Tidying}
use Rattle.cj_fence.specs.Tables.{find}
use Rattle.cj_fence.specs.Server.{served}
use Rattle.cj_fence.specs.Protocol.{Own, seen_of, May}
use Rattle.cj_fence.specs.History.{Deed, Asked, Wrote, Told, after, state_of, own, Claimed, claim_of, started, IsLegal, AllFollow}
use Rattle.cj_fence.specs.Others.{OthersKeepTo}
use Rattle.cj_fence.specs.Lost.{IsWaiting}

-- a call of this sync that reaches the server, whose answer is the server's and is heard
abbrev pub IsPlain : ℕ → List Told → Stamp → Deed → Type 0
IsPlain y h t (Asked x call reached a) = (x ≡ y) × (reached ≡ true)
    × (a ≡ (served (state_of h) t call).answer)
IsPlain y h t (Wrote w) = ⊥

-- a call of another sync, or a write of others
abbrev pub IsOthers : ℕ → Deed → Type 0
IsOthers y (Asked x call reached a) = x ≡ y → ⊥
IsOthers y (Wrote w) = Unit {0}

-- a Job stands under this name that has the metadata.uid of this one
pub record StillStands (s : Cluster) (n : List ℕ) (j : Job) : Type 0 where
  pub job : Job
  pub stands : find n s.jobs ≡ Some job
  pub uid : job.uid ≡ j.uid

-- The CronJob of this uid stays as it is, and so does each held Job whose controller it is. Any
-- other Job of it still stands: that it has finished may be written meanwhile, say.
-- rule: helped
pub record LeavesAlone (u : List ℕ) (old new : Cluster) : Type 0 where
  pub cron : (n : List ℕ) (c : Cron) → find n old.crons ≡ Some c → c.uid ≡ u
      → find n new.crons ≡ Some c
  pub held : (n : List ℕ) (j : Job) → find n old.jobs ≡ Some j → j.owner ≡ u → j.held ≡ true
      → find n new.jobs ≡ Some j
  pub jobs : (n : List ℕ) (j : Job) → find n old.jobs ≡ Some j → j.owner ≡ u → StillStands new n j

-- an entry of others beside this sync that leaves its CronJob alone: a reading, say, or whatever is
-- about other CronJobs
-- rule: helped
pub record IsBeside (u : List ℕ) (y : ℕ) (s : Cluster) (t : Stamp) (d : Deed) : Type 0 where
  pub others : IsOthers y d
  pub leaves : LeavesAlone u s (after s t d)

-- entries behind a history: each is such a call of this sync, or of others and leaves the CronJob
-- of this uid alone
-- rule: helped
abbrev pub Undisturbed : List ℕ → ℕ → List Told → List Told → Type 0
Undisturbed u y [] h = Unit {0}
Undisturbed u y (e ∷ es) h =
    (IsPlain y (es ++ h) e.stamp e.deed ⊎ IsBeside u y (state_of (es ++ h)) e.stamp e.deed)
    × Undisturbed u y es h

-- a sync that has come past all that was claimed before: it may claim, has claimed, or clears
-- rule: helped
abbrev pub HasLooked : List ℕ → Sync → Type 0
HasLooked u (Ready at) = at.cron.uid ≡ u
HasLooked u (Holding at x) = at.cron.uid ≡ u
HasLooked u (Tidying at gs fs) = at.cron.uid ≡ u
HasLooked u s = ⊥

-- A claimed Job that waits when a sync of its CronJob begins is started when that sync has come
-- past it undisturbed.
-- rule: helped
abbrev pub HelpLaw : Type 0
HelpLaw =
    (h es : List Told) (y : ℕ) (r : Ref) (k : Claimed)
    → IsLegal (es ++ h) → AllFollow (es ++ h) → OthersKeepTo k.owner (es ++ h)
    → own y h ≡ [] → Undisturbed k.owner y es h
    → claim_of h r ≡ Some k → IsWaiting h r
    → HasLooked k.owner (seen_of (own y (es ++ h))) → started (es ++ h) r ≡ true

-- a further call that the sync may make
abbrev pub HasNext : Sync → Type 0
HasNext s = (call : Call) × May s call

-- a sync that is done: the GET found no CronJob (404), or it has listed the Jobs and removed all
-- garbage
abbrev pub IsDone : Sync → Type 0
IsDone Gone = Unit {0}
IsDone (Tidying at [] fs) = Unit {0}
IsDone s = ⊥

-- the DELETE of a Job whose spec.startingDeadlineSeconds have passed
abbrev pub IsExpire : Call → Type 0
IsExpire (Of.Expire r v now) = Unit {0}
IsExpire call = ⊥

-- the sync made one
abbrev pub HasExpired : List Own → Type 0
HasExpired [] = ⊥
HasExpired (o ∷ os) = IsExpire o.call ⊎ HasExpired os

-- an answer that has a CronJob in it has the one of this uid
abbrev pub ReadsCron : List ℕ → Answer → Type 0
ReadsCron u (Is.Cron (Some c)) = c.uid ≡ u
ReadsCron u answer = Unit {0}

-- a sync of the CronJob of this uid: it read no other
-- rule: helped
abbrev pub IsSyncOf : List ℕ → List Own → Type 0
IsSyncOf u [] = Unit {0}
IsSyncOf u (o ∷ os) = ReadsCron u o.answer × IsSyncOf u os

-- A sync that nobody disturbs isn't stuck: it may make a further call, unless it is done, or it
-- deleted a Job for its deadline.
-- rule: helped
abbrev pub NeverStuck : Type 0
NeverStuck =
    (u : List ℕ) (h es : List Told) (y : ℕ)
    → IsLegal (es ++ h) → AllFollow (es ++ h) → OthersKeepTo u (es ++ h)
    → own y h ≡ [] → Undisturbed u y es h → IsSyncOf u (own y (es ++ h))
    → HasNext (seen_of (own y (es ++ h)))
    ⊎ (IsDone (seen_of (own y (es ++ h))) ⊎ HasExpired (own y (es ++ h)))
