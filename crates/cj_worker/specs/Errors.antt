-- Why a sync doesn't go on, and what each part of a sync adds to a history.
use Rattle.std.specs.Prelude.{◌≡◌, Bool, true, false, IsTrue, IsOk, List, [], ◌∷◌, Option, Result, Ok, Err}
use Rattle.cj_base.specs.declared.refusal.Refusal.{Refusal}
use Rattle.cj_base.specs.declared.refusal.Refusal.TheVariants as No
use Rattle.cj_types.specs.Keys.{Place}
use Rattle.cj_types.specs.declared.cron.CronJob.{CronJob}
use Rattle.cj_types.specs.declared.job.Job.{Job}
use Rattle.cj_types.specs.declared.policy.Reason.{Reason}
use Rattle.cj_zone.specs.declared.table.ZoneTable.{ZoneTable}
use Rattle.cj_calls.specs.declared.call.Call.{Call}
use Rattle.cj_calls.specs.declared.call.Call.TheVariants as Of
use Rattle.cj_calls.specs.declared.reply.Reply.{Reply}
use Rattle.cj_calls.specs.declared.reply.Reply.TheVariants as Is
use Rattle.cj_calls.specs.Rows.{Told}
use Rattle.cj_hub.specs.declared.asking.CallError.{CallError}
use Rattle.cj_hub.specs.declared.asking.CallError.TheVariants as At
use Rattle.cj_hub.specs.declared.receipt.Receipt.{Receipt}
use Rattle.cj_hub.specs.Runs.{IfFull, IsOne}
use Rattle.cj_worker.specs.declared.gate.Point.{Point}
use Rattle.cj_worker.specs.declared.gate.Point.TheVariants.{Made}
use Rattle.cj_worker.specs.declared.gate.Reading.{Reading}
use Rattle.cj_worker.specs.declared.gate.Turn.{Turn}
use Rattle.cj_worker.specs.declared.gate.Turn.TheVariants.{Go, Stop}
use Rattle.cj_worker.specs.declared.error.SyncError.{SyncError}
use Rattle.cj_worker.specs.declared.error.SyncError.TheVariants.{Refused, Starved, Lost}
use Rattle.cj_worker.specs.declared.ending.SyncEnd.{SyncEnd}
use Rattle.cj_worker.specs.declared.ending.SyncEnd.TheVariants as End
use Rattle.cj_worker.specs.Sequences.{AllAccepted, Begun, FirstRefused, StopsAt}
use Rattle.cj_worker.specs.Syncs.{IsLost, IsEarly, IsFrom, SeesActive, SeesJobs, SeesCron, reasons_by}

-- a call of a worker that holds a key
abbrev pub is_inner : Call → Bool
is_inner Of.SeeCron = true
is_inner Of.SeeJobs = true
is_inner Of.SeeActive = true
is_inner (Of.Claim p) = true
is_inner Of.DropNext = true
is_inner Of.MakeNext = true
is_inner Of.SetStatus = true
is_inner (Of.Finish e r) = true
is_inner _ = false

-- a refusal without faults, which can be copied without memory
abbrev pub is_plain : Result Reply Refusal → Bool
is_plain (Ok r) = false
is_plain (Err (No.Invalid f)) = false
is_plain (Err _) = true

abbrev pub is_cron : Result Reply Refusal → Bool
is_cron (Ok (Is.SeenCron c)) = true
is_cron _ = false

abbrev pub is_jobs : Result Reply Refusal → Bool
is_jobs (Ok (Is.SeenJobs l)) = true
is_jobs _ = false

abbrev pub is_active : Result Reply Refusal → Bool
is_active (Ok (Is.SeenActive l)) = true
is_active _ = false

abbrev pub IsPlainError : CallError → Type 0
IsPlainError (At.Refused r) = IsTrue (is_plain r.entry.answer)
IsPlainError (At.Unentered r) = Unit {0}

-- where the error comes from a full history, P holds
abbrev pub ErrorFull : SyncError → Type 0 → Type 0
ErrorFull (Refused r) P = Unit {0}
ErrorFull Starved P = Unit {0}
ErrorFull (Lost r) P = IfFull r P

-- what one call adds that ends in the error
abbrev pub HasErred : Call → SyncError → List Told → Type 0
HasErred call (Refused r) es = IsOne call (λ a. a ≡ Err r) es
HasErred call Starved es = es ≡ []
HasErred call (Lost r) es = (es ≡ []) × IsLost r

abbrev pub HasAsked : Call → Result Receipt SyncError → List Told → Type 0
HasAsked call (Ok r) es = IsOne call (λ a. IsOk a × (a ≡ r.entry.answer)) es
HasAsked call (Err h) es = HasErred call h es

abbrev pub HasDone : Call → Result (Unit {0}) SyncError → List Told → Type 0
HasDone call (Ok u) es = IsOne call IsOk es
HasDone call (Err h) es = HasErred call h es

-- what these calls add up to the error
abbrev pub UpToError : List Call → List Told → SyncError → Type 0
UpToError cs es (Refused r) = FirstRefused cs es r
UpToError cs es Starved = Begun cs es
UpToError cs es (Lost r) = Begun cs es × IsLost r

abbrev pub HasCron : Result (Option CronJob) SyncError → List Told → Type 0
HasCron (Ok x) es = IsOne Of.SeeCron (λ a. a ≡ Ok (Is.SeenCron x)) es
HasCron (Err h) es = UpToError (Of.SeeCron ∷ []) es h

abbrev pub HasJobs : Result (List Job) SyncError → List Told → Type 0
HasJobs (Ok x) es = IsOne Of.SeeJobs (λ a. a ≡ Ok (Is.SeenJobs x)) es
HasJobs (Err h) es = UpToError (Of.SeeJobs ∷ []) es h

abbrev pub HasActive : Result (List (Option Job)) SyncError → List Told → Type 0
HasActive (Ok x) es = IsOne Of.SeeActive (λ a. a ≡ Ok (Is.SeenActive x)) es
HasActive (Err h) es = UpToError (Of.SeeActive ∷ []) es h

-- the end that an error leads to: a Finish that asks for another try, where one can be made
abbrev pub HasFailed : (Reading → Type 0) → List Reason → SyncError → List Told → SyncEnd → Type 0
HasFailed gives reasons (Refused r) es end = IsEarly gives reasons r es end
HasFailed gives reasons Starved es end = IsEarly gives reasons No.OutOfMemory es end
HasFailed gives reasons (Lost r) es end = (es ≡ []) × (end ≡ End.Broken r)

abbrev pub why_of : SyncError → Refusal
why_of (Refused r) = r
why_of Starved = No.OutOfMemory
why_of (Lost r) = r

abbrev pub error_of : Refusal → SyncError
error_of No.HistoryFull = Lost No.HistoryFull
error_of No.Estranged = Lost No.Estranged
error_of r = Starved

abbrev pub reasons_at : List Reason → List Reason → SyncError → List Reason
reasons_at plain failed (Refused r) = reasons_by plain failed r
reasons_at plain failed Starved = plain
reasons_at plain failed (Lost r) = plain

-- the end of a sync whose Take gave no key
abbrev pub end_by : Result Reply Refusal → SyncEnd
end_by (Err No.ShutDown) = End.ShutDown
end_by (Err r) = End.Broken r
end_by (Ok r) = End.Idle

abbrev pub end_of : CallError → SyncEnd
end_of (At.Unentered No.Empty) = End.Idle
end_of (At.Unentered r) = End.Broken r
end_of (At.Refused r) = end_by r.entry.answer

-- what the steps of a plan add, by what came of them
abbrev pub HasStepped : Type 0 → List Call → Result Turn SyncError → List Told → Type 0
HasStepped may cs (Ok Go) es = AllAccepted cs es
HasStepped may cs (Ok Stop) es = StopsAt Made cs es × may
HasStepped may cs (Err h) es = UpToError cs es h

-- ---- what a sync adds from each of its states on

abbrev pub FromChecked : (Reading → Type 0) → (Point → Place → Type 0) → ZoneTable → Place
    → Option CronJob → List Job → List (Option Job) → List Told → SyncEnd → Type 0
FromChecked gives may zones key cron jobs active = IsFrom gives (λ point. may point key) zones
    (λ p es. (p.cron ≡ cron) × (p.jobs ≡ jobs) × (p.active ≡ active)) []

abbrev pub FromListed : (Reading → Type 0) → (Point → Place → Type 0) → ZoneTable → Place
    → Option CronJob → List Job → List Told → SyncEnd → Type 0
FromListed gives may zones key cron jobs = IsFrom gives (λ point. may point key) zones
    (λ p es. (p.cron ≡ cron) × (p.jobs ≡ jobs) × SeesActive p es) (Of.SeeActive ∷ [])

abbrev pub FromSeen : (Reading → Type 0) → (Point → Place → Type 0) → ZoneTable → Place
    → Option CronJob → List Told → SyncEnd → Type 0
FromSeen gives may zones key cron = IsFrom gives (λ point. may point key) zones
    (λ p es. (p.cron ≡ cron) × SeesJobs p es) (Of.SeeJobs ∷ Of.SeeActive ∷ [])

abbrev pub FromHeld : (Reading → Type 0) → (Point → Place → Type 0) → ZoneTable → Place → List Told
    → SyncEnd → Type 0
FromHeld gives may zones key = IsFrom gives (λ point. may point key) zones SeesCron
    (Of.SeeCron ∷ Of.SeeJobs ∷ Of.SeeActive ∷ [])
