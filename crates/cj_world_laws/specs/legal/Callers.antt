-- Callers are told apart by their number and their role. A look-back may compare numbers alone
-- where it looks at accepted calls of a sync: these are a worker's, so that there one number is one
-- caller.
use Rattle.std.specs.Prelude.{◌≡◌, ◌≢◌, ℕ, ◌==◌, Bool, true, false, ◌&&◌, if◌then◌else◌, List, [], ◌∷◌, Option, None}
use Rattle.std.specs.List.{AllByRecursion}
use Rattle.cj_calls.specs.declared.caller.Caller.{Caller}
use Rattle.cj_calls.specs.declared.caller.Role.{Role}
use Rattle.cj_calls.specs.declared.caller.Role.TheVariants.{User, Runner, Informer, Worker}
use Rattle.cj_calls.specs.declared.call.Call.{Call}
use Rattle.cj_calls.specs.declared.call.Call.TheVariants as Of
use Rattle.cj_calls.specs.Rows.{Told}
use Rattle.cj_state.specs.declared.phases.sync.InFlight.{InFlight}
use Rattle.cj_state.specs.Legal.{IsLegal, state_of}
use Rattle.cj_world_laws.specs.legal.InFlightSyncs.{sync, sync_after}
use Rattle.cj_world_laws.specs.once.Once.{Claimed, claim_after, claim_of, is_ok}

-- the calls of a sync
-- rule: roles
abbrev pub is_of_sync : Call → Bool
is_of_sync Of.Take = true
is_of_sync Of.SeeCron = true
is_of_sync Of.SeeJobs = true
is_of_sync Of.SeeActive = true
is_of_sync (Of.Claim p) = true
is_of_sync Of.DropNext = true
is_of_sync Of.MakeNext = true
is_of_sync Of.SetStatus = true
is_of_sync (Of.Finish end reasons) = true
is_of_sync call = false

-- each accepted call of a sync is a worker's
-- rule: roles
abbrev pub WorkersAlone : List Told → Type 0
WorkersAlone h = AllByRecursion (λ e. is_of_sync e.call ≡ true → is_ok e.answer ≡ true
    → e.caller.role ≡ Worker) h

abbrev pub same_role : Role → Role → Bool
same_role User User = true
same_role Runner Runner = true
same_role Informer Informer = true
same_role Worker Worker = true
same_role _ _ = false

-- the same number and the same role
abbrev pub same_caller : Caller → Caller → Bool
same_caller a b = (a.number == b.number) && same_role a.role b.role

-- a caller's sync, by the entries of its number and role alone
-- rule: phases
abbrev pub sync_by : List Told → Caller → Option InFlight
sync_by [] c = None
sync_by (e ∷ h) c = if same_caller c e.caller then sync_after (sync_by h c) e.call e.answer else
    sync_by h c

-- a caller's last accepted claim, by the entries of its number and role alone
-- rule: once
abbrev pub claim_by : ℕ → List Told → Caller → Option Claimed
claim_by window [] c = None
claim_by window (e ∷ h) c = if same_caller c e.caller then claim_after (state_of window h).store
    e.call e.answer (claim_by window h c) else claim_by window h c

abbrev pub worker : ℕ → Caller
worker w = record { number = w; role = Worker }

-- a worker's sync and its claim are those of its number; nobody else has any
-- rule: phases
pub record AreOfCallers (window : ℕ) (h : List Told) : Type 0 where
  pub alone : WorkersAlone h
  pub syncs : (w : ℕ) → sync_by h (worker w) ≡ sync h w
  pub claims : (w : ℕ) → claim_by window h (worker w) ≡ claim_of window h w
  pub none_in_flight : (c : Caller) → c.role ≢ Worker → sync_by h c ≡ None
  pub claimless : (c : Caller) → c.role ≢ Worker → claim_by window h c ≡ None

-- whoever calls whatever
abbrev pub CallerLaw : Type 0
CallerLaw = (window : ℕ) (h : List Told) → IsLegal window h → AreOfCallers window h
