-- Histories: the calls of any number of syncs and the writes of others, in the order in which the
-- server carries them out, the newest first. The server takes conditional writes of an object one
-- after the other (Kubernetes API conventions, "Concurrency Control and Consistency").
use Rattle.std.specs.Prelude.{◌≡◌, ℕ, ◌==◌, Bool, true, false, ◌||◌, ◌&&◌, not, ◌⊎◌, List, [], ◌∷◌, Option, Some, None, if◌then◌else◌}
use Rattle.cj_fence.specs.declared.policy.Policy.{Policy}
use Rattle.cj_fence.specs.declared.table.Row.{Row}
use Rattle.cj_fence.specs.declared.refs.Ref.{Ref}
use Rattle.cj_fence.specs.declared.objects.Cron.{Cron}
use Rattle.cj_fence.specs.declared.objects.Job.{Job}
use Rattle.cj_fence.specs.declared.cluster.Cluster.{Cluster}
use Rattle.cj_fence.specs.declared.call.Claim.{Claim}
use Rattle.cj_fence.specs.declared.call.Call.{Call}
use Rattle.cj_fence.specs.declared.call.Call.TheVariants as Of
use Rattle.cj_fence.specs.declared.call.Write.{Write}
use Rattle.cj_fence.specs.declared.answer.Answer.{Answer}
use Rattle.cj_fence.specs.declared.answer.Answer.TheVariants as Is
use Rattle.cj_fence.specs.declared.answer.Stamp.{Stamp}
use Rattle.cj_fence.specs.Tables.{find}
use Rattle.cj_fence.specs.Objects.{is_ref, look, waits, runs}
use Rattle.cj_fence.specs.Server.{served, written, takes}
use Rattle.cj_fence.specs.Protocol.{Own, Follows}

-- A sync, by its number, asks the server: the call reaches it or is lost on the way, and the sync
-- hears an answer. Or somebody else writes.
pub data Deed : Type 0 where
  Asked : (sync : ℕ) (call : Call) (reached : Bool) (answer : Answer) → Deed
  Wrote : (write : Write) → Deed

-- an entry, with what the server gives if it is a write
pub record Told : Type 0 where
  pub stamp : Stamp
  pub deed : Deed

-- what the server keeps after an entry
abbrev pub after : Cluster → Stamp → Deed → Cluster
after s t (Asked y call true a) = (served s t call).cluster
after s t (Asked y call false a) = s
after s t (Wrote w) = written s t w

-- no object
abbrev pub nothing : Cluster
nothing = record { crons = []; jobs = [] }

-- what the server keeps after a history
abbrev pub state_of : List Told → Cluster
state_of [] = nothing
state_of (e ∷ h) = after (state_of h) e.stamp e.deed

-- ---- what the server promises

-- a metadata.uid that was given
abbrev pub GaveUid : List Told → List ℕ → Type 0
GaveUid [] u = ⊥
GaveUid (e ∷ h) u = (e.stamp.uid ≡ u) ⊎ GaveUid h u

-- a metadata.resourceVersion that was given
abbrev pub GaveVersion : List Told → List ℕ → Type 0
GaveVersion [] v = ⊥
GaveVersion (e ∷ h) v = (e.stamp.version ≡ v) ⊎ GaveVersion h v

-- metadata.uid and metadata.resourceVersion are given once
-- rule: fence-history
pub record IsFresh (h : List Told) (t : Stamp) : Type 0 where
  pub uid : GaveUid h t.uid → ⊥
  pub version : GaveVersion h t.version → ⊥

-- what a cache can say where the server keeps this
abbrev pub cache_of : Cluster → Call → Option Answer
cache_of s (Of.CacheCron n) = Some (Is.Cron (find n s.crons))
cache_of s (Of.CacheJob n) = Some (Is.Job (find n s.jobs))
cache_of s call = None

-- a cache says what was so at the moment or at an earlier one
-- rule: fence-history
abbrev pub WasSo : Call → Answer → List Told → Type 0
WasSo call a [] = cache_of nothing call ≡ Some a
WasSo call a (e ∷ h) = (cache_of (state_of (e ∷ h)) call ≡ Some a) ⊎ WasSo call a h

-- each row of a list says what a cache could say of its Job
-- rule: fence-history
abbrev pub RowsWereSo : List (Row Job) → List Told → Type 0
RowsWereSo [] h = Unit {0}
RowsWereSo (r ∷ rs) h =
    WasSo (Of.CacheJob r.name) (Is.Job (Some r.object)) h × RowsWereSo rs h

-- An answer is lost, or the call is refused on its way or behind the server, whether it was carried
-- out or not; or the answer is the server's; or a cache's; or a list, in any order, some Jobs
-- missing, and each row as old as it may be.
-- rule: fence-history
pub data IsAnswer (h : List Told) (t : Stamp) (call : Call) (reached : Bool) (a : Answer)
    : Type 0 where
  Unheard : (a ≡ Is.Lost) ⊎ (a ≡ Is.Refused) → IsAnswer h t call reached a
  Answered : reached ≡ true → a ≡ (served (state_of h) t call).answer → IsAnswer h t call reached a
  FromCache : WasSo call a h → IsAnswer h t call reached a
  Listed : (rows : List (Row Job)) → call ≡ Of.ListJobs → a ≡ Is.Jobs rows → RowsWereSo rows h
      → IsAnswer h t call reached a

-- what a sync hears is such an answer
abbrev pub IsHeard : List Told → Stamp → Deed → Type 0
IsHeard h t (Asked y call reached a) = IsAnswer h t call reached a
IsHeard h t (Wrote w) = Unit {0}

-- each stamp is fresh, and each answer is one that can be heard
-- rule: fence-history
abbrev pub IsLegal : List Told → Type 0
IsLegal [] = Unit {0}
IsLegal (e ∷ h) = IsFresh h e.stamp × IsHeard h e.stamp e.deed × IsLegal h

-- ---- what each sync did

-- the calls of a sync after an entry
abbrev pub own_after : ℕ → Deed → List Own → List Own
own_after y (Asked x call reached a) os = if x == y then record { call = call; answer = a }
    ∷ os else os
own_after y (Wrote w) os = os

-- the calls of a sync with their answers, the newest first
abbrev pub own : ℕ → List Told → List Own
own y [] = []
own y (e ∷ h) = own_after y e.deed (own y h)

-- each sync follows the protocol
-- rule: fence-follows
abbrev pub AllFollow : List Told → Type 0
AllFollow h = (y : ℕ) → Follows (own y h)

-- ---- accepted claims and starts

-- what an accepted claim recorded: the CronJob's uid, the time, and the policy that stood
pub record Claimed : Type 0 where
  pub owner : List ℕ
  pub time : ℕ
  pub policy : Policy

-- what a claim records of the CronJob that stands, where it is accepted
abbrev pub claim_in : Claim → Option Cron → Option Claimed
claim_in w None = None
claim_in w (Some c) =
    if takes w.uid w.version c then Some (record
    { owner = c.uid; time = w.time; policy = c.policy })
    else None

-- what is claimed for a Job by a call that reaches the server
abbrev pub claims : Cluster → Deed → Ref → Option Claimed
claims s (Asked y (Of.Claim w) true a) r = if is_ref w.job r then claim_in w (find w.name s.crons)
    else None
claims s d r = None

-- the earlier claim, if there is one
abbrev pub or_else : Option Claimed → Option Claimed → Option Claimed
or_else None o = o
or_else (Some c) o = Some c

-- the first accepted claim for a Job
-- rule: fence-claimed
abbrev pub claim_of : List Told → Ref → Option Claimed
claim_of [] r = None
claim_of (e ∷ h) r = or_else (claim_of h r) (claims (state_of h) e.deed r)

-- whether a Job stands that waits for its start
abbrev pub waits_in : Option Job → Bool
waits_in None = false
waits_in (Some j) = waits j

-- whether a Job stands that runs
abbrev pub runs_in : Option Job → Bool
runs_in None = false
runs_in (Some j) = runs j

-- Whether a deed starts a Job, by what stood before it and what stands after it. A sync's call
-- starts what runs after it and didn't before, whatever the call is. A write of others starts what
-- waited before it: what they create of their own, they run.
-- rule: fence-once
abbrev pub makes_run : Deed → Option Job → Option Job → Bool
makes_run (Asked y call reached a) old new = not (runs_in old) && runs_in new
makes_run (Wrote w) old new = waits_in old && runs_in new

-- whether an entry starts a Job
-- rule: fence-once
abbrev pub starts : Cluster → Stamp → Deed → Ref → Bool
starts s t d r = makes_run d (look s.jobs r) (look (after s t d).jobs r)

-- whether a Job was started
-- rule: fence-once
abbrev pub started : List Told → Ref → Bool
started [] r = false
started (e ∷ h) r = starts (state_of h) e.stamp e.deed r || started h r
