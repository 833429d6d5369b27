-- The fenced start: what one sync of a CronJob may call next, given what it has heard since its
-- Get. It knows nothing of other syncs, and may stop anywhere.
use Rattle.std.specs.Prelude.{◌≡◌, ℕ, ◌+◌, ◌<◌, nat_le, nat_lt, Bool, true, false, ◌&&◌, ◌||◌, not, List, [], ◌∷◌, ◌++◌, Option, Some, None, if◌then◌else◌}
use Rattle.cj_fence.specs.declared.policy.Policy.{Policy}
use Rattle.cj_fence.specs.declared.policy.Policy.TheVariants.{Forbid, Replace}
use Rattle.cj_fence.specs.declared.table.Row.{Row}
use Rattle.cj_fence.specs.declared.refs.Ref.{Ref}
use Rattle.cj_fence.specs.declared.objects.Cron.{Cron}
use Rattle.cj_fence.specs.declared.objects.Job.{Job}
use Rattle.cj_fence.specs.declared.call.Claim.{Claim}
use Rattle.cj_fence.specs.declared.call.Tidy.{Tidy}
use Rattle.cj_fence.specs.declared.call.Call.{Call}
use Rattle.cj_fence.specs.declared.call.Call.TheVariants as Of
use Rattle.cj_fence.specs.declared.answer.Answer.{Answer}
use Rattle.cj_fence.specs.declared.answer.Answer.TheVariants as Is
use Rattle.cj_fence.specs.declared.sync.At.{At}
use Rattle.cj_fence.specs.declared.sync.Held.{Held}
use Rattle.cj_fence.specs.declared.sync.Sync.{Sync}
use Rattle.cj_fence.specs.declared.sync.Sync.TheVariants.{Fresh, Looking, Ready, Holding, Starting, Tidying, Gone, Over}
use Rattle.cj_fence.specs.Texts.{is_same}
use Rattle.cj_fence.specs.Objects.{ref_of, is_ref, has_ref, named, without_ref, is_policy, waits, is_dead}
use Rattle.cj_fence.specs.Server.{made, with_claim, with_tidy}

-- ---- what a sync has heard

-- a call with its answer
pub record Own : Type 0 where
  pub call : Call
  pub answer : Answer

-- ---- what an answer adds to what the sync knows

-- one Job more that isn't known to be dead
abbrev pub with_alive : At → Ref → At
with_alive at r = record at { alive = at.alive ++ r ∷ [] }

-- Replace: what runs is deleted before the start (spec.concurrencyPolicy)
-- rule: fence-replace
abbrev pub drops_of : Policy → List Ref → List Ref
drops_of Replace rs = rs
drops_of _ rs = []

-- what stays beside the started Job
-- rule: fence-replace
abbrev pub kept_of : Policy → List Ref → List Ref
kept_of Replace rs = []
kept_of _ rs = rs

-- the next Job of status.active is read; after the last one a held Job is helped, or a time may be
-- claimed
-- rule: fence-help
abbrev pub go_on : At → List Ref → Option Held → Sync
go_on at [] None = Ready at
go_on at [] (Some h) = Starting at h (drops_of h.found.policy at.alive)
go_on at (r ∷ rs) held = Looking at (r ∷ rs) held

-- of the Jobs in status.active one at most is held; were there two, the sync would end
abbrev pub found_held : At → List Ref → Option Held → Held → Sync
found_held at rs None h = go_on at rs (Some h)
found_held at rs (Some x) h = Over

-- whether a reference is to the Job that was found held
abbrev pub is_held_ref : Option Held → Ref → Bool
is_held_ref None r = false
is_held_ref (Some x) r = is_ref x.job r

-- whether a Job was found before: started, or held
abbrev pub was_found : At → Option Held → Ref → Bool
was_found at held r = has_ref at.alive r || is_held_ref held r

-- the Job that a reference names, where it isn't dead; one that is named twice counts once
abbrev pub found_job : At → List Ref → Option Held → Ref → Job → Sync
found_job at rs held r j =
    if was_found at held r then go_on at rs held
    else (if j.held then found_held at rs held (record { job = r; found = j }) else go_on
    (with_alive at r) rs held)

-- whether a Job is the one of a reference, and its controller is the CronJob
abbrev pub is_its : Cron → Ref → Job → Bool
is_its c r j = is_same j.uid r.uid && is_same j.owner c.uid

-- what a GET says of a reference: it is dead where the Job is missing, has another uid or another
-- controller, has finished, or is held and being deleted
-- rule: fence-read
abbrev pub looked : At → List Ref → Option Held → Ref → Option Job → Sync
looked at rs held r None = go_on at rs held
looked at rs held r (Some j) =
    if is_its at.cron r j && not (is_dead j) then found_job at rs held r j
    else go_on at rs held

-- whether a cache's word is taken: a Job that is dead or was started stays so
-- rule: fence-read
abbrev pub settles : Ref → Option Job → Bool
settles r None = false
settles r (Some j) = is_same j.uid r.uid && not (waits j)

-- of a cache only that a Job is dead or was started is taken; whatever else it says, the Job is
-- read by a GET
-- rule: fence-read
abbrev pub cached : At → List Ref → Option Held → Ref → Option Job → Sync
cached at rs held r None = Looking at (r ∷ rs) held
cached at rs held r (Some j) =
    if is_same j.uid r.uid && not (waits j) then looked at rs held r (Some j)
    else Looking at (r ∷ rs) held

-- the Get of the CronJob; a reference of status.active that has no name is of no Job
-- rule: fence-read
abbrev pub begun : List ℕ → Option Cron → Sync
begun n None = Gone
begun n (Some c) = go_on (record { name = n; cron = c; alive = [] }) (named c.active) None

-- a held Job under a name that was to be taken is adopted where it is ours: of this uid and policy,
-- and of a time that is to be claimed
-- rule: fence-adopt
abbrev pub is_ours : Cron → Job → Bool
is_ours c j = is_same j.owner c.uid && waits j && is_policy j.policy c.policy
    && nat_lt c.last j.time

-- under Forbid nothing is held while something runs (spec.concurrencyPolicy)
-- rule: fence-hold
abbrev pub lets_hold : Policy → List Ref → Bool
lets_hold Forbid (r ∷ rs) = false
lets_hold p rs = true

-- the GET of a Job under a name that was to be taken
-- rule: fence-adopt
abbrev pub adopted : At → List ℕ → Option Job → Sync
adopted at n None = Ready at
adopted at n (Some j) =
    if lets_hold at.cron.policy at.alive && is_ours at.cron j
    then Holding at (record { job = record { name = n; uid = j.uid }; found = j })
    else Ready at

-- garbage: held Jobs of this uid that aren't in status.active and whose time isn't after
-- status.lastScheduleTime
-- rule: fence-garbage
abbrev pub is_garbage : Cron → Row Job → Bool
is_garbage c r =
    is_same r.object.owner c.uid && r.object.held && nat_le r.object.time c.last
    && not (has_ref c.active (ref_of r))

-- those that may go by the history limits (spec.successfulJobsHistoryLimit,
-- spec.failedJobsHistoryLimit)
-- rule: fence-garbage
abbrev pub is_finished : Cron → Row Job → Bool
is_finished c r = is_same r.object.owner c.uid && r.object.finished

-- references to the Jobs of a list that pass a test
abbrev pub refs_where : (Row Job → Bool) → List (Row Job) → List Ref
refs_where p [] = []
refs_where p (r ∷ rs) = if p r then ref_of r ∷ refs_where p rs else refs_where p rs

-- a DELETE by uid that was taken: its Job is gone or being deleted
abbrev pub is_deleted : Call → Answer → Bool
is_deleted (Of.Delete r) Is.Deleted = true
is_deleted call answer = false

-- the status that this sync claimed by
abbrev pub has_claimed : At → Claim → List ℕ → At
has_claimed at w v = record at { cron = with_claim w v at.cron }

-- the status that this sync tidied
abbrev pub has_tidied : At → Tidy → List ℕ → At
has_tidied at w v = record at { cron = with_tidy w v at.cron }

-- what runs once this sync has started its Job
abbrev pub has_started : At → Held → At
has_started at h = record at { alive = kept_of h.found.policy at.alive ++ h.job ∷ [] }

-- ---- the state after a call and its answer

-- after the Get of the CronJob
abbrev pub from_fresh : Call → Answer → Sync
from_fresh (Of.GetCron n) (Is.Cron o) = begun n o
from_fresh (Of.CacheCron n) (Is.Cron o) = begun n o
from_fresh call answer = Over

-- after a reading of a Job of status.active
abbrev pub from_looking : At → Ref → List Ref → Option Held → Call → Answer → Sync
from_looking at r rs held (Of.GetJob n) (Is.Job o) = looked at rs held r o
from_looking at r rs held (Of.CacheJob n) (Is.Job o) = cached at rs held r o
from_looking at r rs held call answer = Over

-- after a call with no held Job at hand
abbrev pub from_ready : At → Call → Answer → Sync
from_ready at (Of.GetJob n) (Is.Job o) = adopted at n o
from_ready at (Of.Create n j) (Is.Created t) =
    Holding at (record { job = record { name = n; uid = t.uid }; found = made t j })
from_ready at (Of.Create n j) Is.Refused = Ready at
from_ready at (Of.Tidy w) (Is.Written v) = Ready (has_tidied at w v)
from_ready at Of.ListJobs (Is.Jobs rows) =
    Tidying at (refs_where (is_garbage at.cron) rows) (refs_where (is_finished at.cron) rows)
from_ready at call answer = Over

-- after the claim, which ends the sync where it isn't taken; any other call lets the held Job be
abbrev pub from_holding : At → Held → Call → Answer → Sync
from_holding at h (Of.Claim w) (Is.Written v)
    = Starting (has_claimed at w v) h (drops_of h.found.policy at.alive)
from_holding at h (Of.Claim w) answer = Over
from_holding at h call answer = from_ready at call answer

-- after a deletion before the start; one that is refused ends the sync, since the Job may run still
-- rule: fence-replace
abbrev pub from_dropping : At → Held → List Ref → Call → Answer → Sync
from_dropping at h ds (Of.Delete r) Is.Deleted = Starting at h ds
from_dropping at h ds call answer = Over

-- after the start; what was deleted for it is looked at again, since it may run still or be gone
-- rule: fence-replace
abbrev pub from_starting : At → Held → Call → Answer → Sync
from_starting at h (Of.Start r) (Is.Written v) =
    go_on (has_started at h) (drops_of h.found.policy at.alive) None
from_starting at h call answer = Over

-- after the deletion of garbage, or of a finished Job, whether it was taken or refused
-- rule: fence-garbage
abbrev pub from_tidying : At → List Ref → List Ref → Call → Answer → Sync
from_tidying at gs fs (Of.Delete r) Is.Deleted = Tidying at (without_ref r gs) (without_ref r fs)
from_tidying at gs fs (Of.Delete r) Is.Refused = Tidying at (without_ref r gs) (without_ref r fs)
from_tidying at gs fs call answer = Over

-- what a sync knows after a call and its answer; any other answer ends it
-- rule: fence-follows
abbrev pub advanced : Sync → Call → Answer → Sync
advanced Fresh call answer = from_fresh call answer
advanced (Looking at (r ∷ rs) held) call answer = from_looking at r rs held call answer
advanced (Ready at) call answer = from_ready at call answer
advanced (Holding at h) call answer = from_holding at h call answer
advanced (Starting at h (d ∷ ds)) call answer = from_dropping at h ds call answer
advanced (Starting at h []) call answer = from_starting at h call answer
advanced (Tidying at gs fs) call answer = from_tidying at gs fs call answer
advanced s call answer = Over

-- ---- what may be called

-- step 1: the CronJob is read, by a GET or of a cache
abbrev pub MayFresh : Call → Type 0
MayFresh (Of.GetCron n) = Unit {0}
MayFresh (Of.CacheCron n) = Unit {0}
MayFresh call = ⊥

-- step 2: each Job of status.active is read
-- rule: fence-read
abbrev pub MayLook : Ref → Call → Type 0
MayLook r (Of.GetJob n) = n ≡ r.name
MayLook r (Of.CacheJob n) = n ≡ r.name
MayLook r call = ⊥

-- step 5: a Job is made held, with the controller, the time and the policy in it; under Forbid only
-- where nothing runs
-- rule: fence-hold
pub record MayHold (at : At) (j : Job) : Type 0 where
  pub owner : j.owner ≡ at.cron.uid
  pub held : j.held ≡ true
  pub policy : j.policy ≡ at.cron.policy
  pub time : at.cron.last < j.time
  pub alone : lets_hold at.cron.policy at.alive ≡ true

-- status.lastSuccessfulTime, where it is sent, is later than the one read (Kubernetes API
-- reference, CronJobStatus: "when was the last time the job successfully completed")
-- rule: last-success
abbrev pub IsLater : Option ℕ → ℕ → Type 0
IsLater None read = Unit {0}
IsLater (Some sent) read = read < sent

-- step 4: the status without the dead, on the version read, where there are dead ones or there is a
-- later success: a write that changes nothing gets no version
-- rule: fence-tidy
pub record MayTidy (at : At) (w : Tidy) : Type 0 where
  pub name : w.name ≡ at.name
  pub uid : w.uid ≡ at.cron.uid
  pub version : w.version ≡ at.cron.version
  pub active : w.active ≡ at.alive
  pub success : IsLater w.success at.cron.success
  pub changes : w.success ≡ None → w.active ≡ at.cron.active → ⊥

-- with no held Job at hand
abbrev pub MayReady : At → Call → Type 0
MayReady at (Of.GetJob n) = Unit {0}
MayReady at (Of.Create n j) = MayHold at j
MayReady at (Of.Tidy w) = MayTidy at w
MayReady at Of.ListJobs = Unit {0}
MayReady at call = ⊥

-- step 6: the claim, on the version read: the held Job's time, in status.active all that runs and
-- the held Job, and a later success if there is one
-- rule: fence-claim
pub record MayClaim (at : At) (h : Held) (w : Claim) : Type 0 where
  pub name : w.name ≡ at.name
  pub uid : w.uid ≡ at.cron.uid
  pub version : w.version ≡ at.cron.version
  pub time : w.time ≡ h.found.time
  pub job : w.job ≡ h.job
  pub active : w.active ≡ at.alive ++ h.job ∷ []
  pub success : IsLater w.success at.cron.success

-- with a held Job at hand: its claim, or what may be called without it, as where it is left alone
-- for another name
abbrev pub MayHolding : At → Held → Call → Type 0
MayHolding at h (Of.Claim w) = MayClaim at h w
MayHolding at h call = MayReady at call

-- more than spec.startingDeadlineSeconds have passed since the time
-- rule: fence-expiry
abbrev pub IsLate : Option ℕ → ℕ → ℕ → Type 0
IsLate None time now = ⊥
IsLate (Some d) time now = time + d < now

-- step 3: the deletion of a held Job in place of its start, on condition of the uid and the version
-- that were read
-- rule: fence-expiry
pub record MayExpire (at : At) (h : Held) (r : Ref) (v : List ℕ) (now : ℕ) : Type 0 where
  pub job : r ≡ h.job
  pub version : v ≡ h.found.version
  pub late : IsLate at.cron.deadline h.found.time now

-- step 7: under Replace what runs is deleted, each by uid
-- rule: fence-replace
abbrev pub MayDrop : At → Held → Ref → Call → Type 0
MayDrop at h d (Of.Delete r) = r ≡ d
MayDrop at h d (Of.Expire r v now) = MayExpire at h r v now
MayDrop at h d call = ⊥

-- step 8: the start of the claimed Job
-- rule: fence-start
abbrev pub MayStart : At → Held → Call → Type 0
MayStart at h (Of.Start r) = r ≡ h.job
MayStart at h (Of.Expire r v now) = MayExpire at h r v now
MayStart at h call = ⊥

-- steps 4 and 9: garbage goes, and finished Jobs may go, each by uid, in any order
-- rule: fence-garbage
abbrev pub MayClear : List Ref → List Ref → Call → Type 0
MayClear gs fs (Of.Delete r) = (has_ref gs r || has_ref fs r) ≡ true
MayClear gs fs call = ⊥

-- what a sync may call next
-- rule: fence-follows
abbrev pub May : Sync → Call → Type 0
May Fresh call = MayFresh call
May (Looking at (r ∷ rs) held) call = MayLook r call
May (Ready at) call = MayReady at call
May (Holding at h) call = MayHolding at h call
May (Starting at h (d ∷ ds)) call = MayDrop at h d call
May (Starting at h []) call = MayStart at h call
May (Tidying at gs fs) call = MayClear gs fs call
May s call = ⊥

-- ---- one sync's own calls and answers, the newest first

-- what the sync knows after them
-- rule: fence-follows
abbrev pub seen_of : List Own → Sync
seen_of [] = Fresh
seen_of (o ∷ os) = advanced (seen_of os) o.call o.answer

-- each call is one that the sync may make after what it has heard
-- rule: fence-follows
abbrev pub Follows : List Own → Type 0
Follows [] = Unit {0}
Follows (o ∷ os) = May (seen_of os) o.call × Follows os
