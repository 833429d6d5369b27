-- One sync of one key: what it adds to a history, by how it ends. The CronJob controller of
-- Kubernetes takes a key of its work queue, looks at the CronJob and its Jobs, and acts (client-go,
-- workqueue; Kubernetes CronJob documentation); the calls and their order are the project's choice.
use Rattle.std.specs.Prelude.{◌≡◌, ◌⊎◌, IsOk, Bool, true, false, List, [], ◌∷◌, ◌++◌, Option, Some, None, IfSome, Result, Ok, Err}
use Rattle.cj_base.specs.declared.refusal.Refusal.{Refusal}
use Rattle.cj_base.specs.declared.refusal.Refusal.TheVariants as No
use Rattle.cj_types.specs.Keys.{Place, place}
use Rattle.cj_types.specs.declared.policy.Reason.{Reason}
use Rattle.cj_types.specs.declared.policy.Reason.TheVariants.{FailedCreate}
use Rattle.cj_zone.specs.declared.table.ZoneTable.{ZoneTable}
use Rattle.cj_calls.specs.declared.call.Call.{Call}
use Rattle.cj_calls.specs.declared.call.Call.TheVariants as Of
use Rattle.cj_calls.specs.declared.end.End.TheVariants.{Well, Again}
use Rattle.cj_calls.specs.declared.reply.Reply.{Reply}
use Rattle.cj_calls.specs.declared.reply.Reply.TheVariants as Is
use Rattle.cj_calls.specs.Rows.{Told}
use Rattle.cj_decide.specs.Decision.{Planned, IsDecided}
use Rattle.cj_worker.specs.declared.gate.Point.{Point}
use Rattle.cj_worker.specs.declared.gate.Reading.{Reading}
use Rattle.cj_worker.specs.declared.ending.SyncEnd.{SyncEnd}
use Rattle.cj_worker.specs.declared.ending.SyncEnd.TheVariants.{Idle, ShutDown, Done, Retried, Broken, Stopped}
use Rattle.cj_worker.specs.Sequences.{AllAccepted, Begun, FirstRefused, StopsAt, EndsWith, IsDone}
use Rattle.cj_worker.specs.Outlines.{step_calls}
use Rattle.cj_worker.specs.Zoned.{zone_for}

-- a refusal after which the history takes nothing more of this caller
-- rule: sync-ends
abbrev pub IsLost : Refusal → Type 0
IsLost No.HistoryFull = Unit {0}
IsLost No.Estranged = Unit {0}
IsLost _ = ⊥

-- a refusal of a call that isn't entered, at a desk where there was something to take
-- rule: sync-ends
abbrev pub IsUnentered : Refusal → Type 0
IsUnentered No.OutOfMemory = Unit {0}
IsUnentered r = IsLost r

-- an entered refusal of a Take, of a queue that isn't shut, or of a Finish
-- rule: sync-ends
abbrev pub IsUnfit : Refusal → Type 0
IsUnfit No.NotPermitted = Unit {0}
IsUnfit No.OutOfPhase = Unit {0}
IsUnfit _ = ⊥

-- the claim of a plan, its steps in order, and the end
-- rule: sync-calls
abbrev pub calls_of : Planned → List Call
calls_of p = Of.Claim p ∷ (step_calls p.steps ++ Of.Finish Well p.steps.reasons ∷ [])

-- these calls, and those of the plan if one was made
abbrev pub then_plan : List Call → Option Planned → List Call
then_plan cs None = cs
then_plan cs (Some p) = cs ++ calls_of p

-- the plan is the decision of what it rests on, at a moment that the clock may give, in the zone of
-- its CronJob
-- rule: sync-moments
pub record IsTimely (gives : Reading → Type 0) (zones : ZoneTable) (p : Planned) : Type 0 where
  pub decided : IsDecided p
  pub reading : Reading
  pub given : gives reading
  pub at : p.at ≡ reading.seconds
  pub zone : p.zone ≡ zone_for zones p.cron

-- the reasons of a Finish after a refusal: FailedCreate too, where the name of the Job to be made
-- was taken
-- rule: sync-reasons
abbrev pub reasons_by : List Reason → List Reason → Refusal → List Reason
reasons_by plain failed No.AlreadyExists = failed
reasons_by plain failed r = plain

-- rule: sync-reasons
abbrev pub reasons_with : Planned → Refusal → List Reason
reasons_with p = reasons_by p.steps.reasons (p.steps.reasons ++ FailedCreate ∷ [])

-- the reasons of a Finish after a refusal; none where no plan was made
-- rule: sync-reasons
abbrev pub reasons_of : Option Planned → Refusal → List Reason
reasons_of None r = []
reasons_of (Some p) r = reasons_with p r

-- one entry, of a Finish that asks for another try, at a moment that the clock may give
-- rule: sync-moments
pub record IsRetry (gives : Reading → Type 0) (reasons : List Reason)
    (es : List Told) : Type 0 where
  pub reading : Reading
  pub given : gives reading
  pub entry : Told
  pub only : es ≡ entry ∷ []
  pub of : entry.call ≡ Of.Finish (Again reading.millis) reasons

-- a sync that fails is ended by such a Finish, or that was tried: it wasn't entered, or was refused
-- rule: sync-ends
abbrev pub IsEarly : (Reading → Type 0) → List Reason → Refusal → List Told → SyncEnd → Type 0
IsEarly gives reasons why es (Retried r) = (r ≡ why) × (retry : IsRetry gives reasons es)
    × IsOk retry.entry.answer
IsEarly gives reasons why es (Broken r) = ((es ≡ []) × IsUnentered r) ⊎
    ((retry : IsRetry gives reasons es) × (retry.entry.answer ≡ Err r) × IsUnfit r)
IsEarly gives reasons why es end = ⊥

-- these calls up to the first refusal, or up to where memory was lacking
-- rule: sync-calls
abbrev pub UpToFailure : List Call → List Told → Refusal → Type 0
UpToFailure cs es r = FirstRefused cs es r ⊎ (Begun cs es × (r ≡ No.OutOfMemory))

-- the calls up to a failure, and then the early end
-- rule: sync-ends
pub record IsRetried (gives : Reading → Type 0) (reasons : Refusal → List Reason) (cs : List Call)
    (es : List Told) (end : SyncEnd) : Type 0 where
  pub front : List Told
  pub back : List Told
  pub why : Refusal
  pub split : es ≡ front ++ back
  pub failed : UpToFailure cs front why
  pub early : IsEarly gives (reasons why) why back end

-- what these calls add where a sync holds a key, by how it ends
-- rule: sync-ends
abbrev pub IsRest : (Reading → Type 0) → (Point → Type 0) → (Refusal → List Reason) → List Call
    → List Told → SyncEnd → Type 0
IsRest gives may reasons cs es Idle = ⊥
IsRest gives may reasons cs es ShutDown = ⊥
IsRest gives may reasons cs es Done = AllAccepted cs es × EndsWith IsDone es
IsRest gives may reasons cs es (Retried r) = IsRetried gives reasons cs es (Retried r)
IsRest gives may reasons cs es (Broken r) = (Begun cs es × IsLost r)
    ⊎ IsRetried gives reasons cs es (Broken r)
IsRest gives may reasons cs es (Stopped point) = StopsAt point cs es × may point

-- these calls, and those of a plan if one was made, which K ties to what was answered
pub record IsFrom (gives : Reading → Type 0) (may : Point → Type 0) (zones : ZoneTable)
    (K : Planned → List Told → Type 0) (cs : List Call) (es : List Told)
    (end : SyncEnd) : Type 0 where
  pub plan : Option Planned
  pub timely : IfSome plan (IsTimely gives zones)
  pub seen : IfSome plan (λ p. K p es)
  pub rest : IsRest gives may (reasons_of plan) (then_plan cs plan) es end

-- the plan rests on the live read in the first entry's answer
-- rule: sync-inputs
abbrev pub SeesActive : Planned → List Told → Type 0
SeesActive p [] = ⊥
SeesActive p (e ∷ es) = e.answer ≡ Ok (Is.SeenActive p.active)

-- the plan rests on the Jobs in the first entry's answer, and on the live read after it
-- rule: sync-inputs
abbrev pub SeesJobs : Planned → List Told → Type 0
SeesJobs p [] = ⊥
SeesJobs p (e ∷ es) = (e.answer ≡ Ok (Is.SeenJobs p.jobs)) × SeesActive p es

-- the plan rests on the CronJob in the first entry's answer, and on the two answers after it
-- rule: sync-inputs
abbrev pub SeesCron : Planned → List Told → Type 0
SeesCron p [] = ⊥
SeesCron p (e ∷ es) = (e.answer ≡ Ok (Is.SeenCron p.cron)) × SeesJobs p es

-- the plan rests on the three answers after the first
-- rule: sync-inputs
abbrev pub SeesAll : Planned → List Told → Type 0
SeesAll p [] = ⊥
SeesAll p (e ∷ es) = SeesCron p es

-- the reply to a Take has a key
abbrev pub is_key : Result Reply Refusal → Bool
is_key (Ok (Is.Key k)) = true
is_key _ = false

abbrev pub key_in : Result Reply Refusal → Place
key_in (Ok (Is.Key k)) = k
key_in _ = place [] []

-- the first entry is answered with the key
-- rule: stopped-sync
abbrev pub Takes : Place → List Told → Type 0
Takes key [] = ⊥
Takes key (e ∷ es) = e.answer ≡ Ok (Is.Key key)

-- the calls before the plan
-- rule: sync-calls
abbrev pub opening : List Call
opening = Of.Take ∷ Of.SeeCron ∷ Of.SeeJobs ∷ Of.SeeActive ∷ []

-- a sync that took a key
-- rule: sync-calls
pub record IsRun (gives : Reading → Type 0) (may : Point → Place → Type 0) (zones : ZoneTable)
    (es : List Told) (end : SyncEnd) : Type 0 where
  pub key : Place
  pub took : Takes key es
  pub calls : IsFrom gives (λ point. may point key) zones SeesAll opening es end

-- what a sync adds, by how it ends
-- rule: sync-ends
abbrev pub IsSync : (Reading → Type 0) → (Point → Place → Type 0) → ZoneTable → List Told → SyncEnd
    → Type 0
IsSync gives may zones es Idle = es ≡ []
IsSync gives may zones es ShutDown = FirstRefused (Of.Take ∷ []) es No.ShutDown
IsSync gives may zones es (Broken r) = ((es ≡ []) × IsUnentered r) ⊎
    (FirstRefused (Of.Take ∷ []) es r × IsUnfit r) ⊎ IsRun gives may zones es (Broken r)
IsSync gives may zones es end = IsRun gives may zones es end
