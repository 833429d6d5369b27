-- The time of each claim: Kubernetes CronJob documentation, "CronJob limitations" (the schedules
-- missed since the last one, of which the latest is started) and "Deadline for delayed Job start".
use Rattle.std.specs.Prelude.{◌≡◌, ℕ, ◌≤◌, List, [], ◌∷◌, length, Some, Ok}
use Rattle.std.specs.FinMap as map
use Rattle.cj_types.specs.Keys.{Place}
use Rattle.cj_types.specs.Uids.{last_uid}
use Rattle.cj_types.specs.declared.cron.CronJob.{CronJob}
use Rattle.cj_zone.specs.declared.zone.Zone.{Zone}
use Rattle.cj_store.specs.Content.{Content}
use Rattle.cj_decide.specs.Decision.{Planned}
use Rattle.cj_calls.specs.Rows.{Told}
use Rattle.cj_calls.specs.declared.call.Call.TheVariants as Of
use Rattle.cj_calls.specs.declared.reply.Reply.TheVariants as Say
use Rattle.cj_state.specs.declared.phases.sync.InFlight.{InFlight}
use Rattle.cj_state.specs.declared.state.State.{State}
use Rattle.cj_state.specs.WorkerCalls.{sync_of}
use Rattle.cj_state.specs.Legal.{state_of, IsLegal, ArePlanned}
use Rattle.cj_decide.specs.laws.Laws.{IsClaimed}

-- the entry is an accepted claim of the plan, for the time
pub record IsClaim (e : Told) (p : Planned) (time : ℕ) : Type 0 where
  pub call : e.call ≡ Of.Claim p
  pub version : ℕ
  pub answer : e.answer ≡ Ok (Say.Claimed (Some (time, version)))

-- the greatest of the times missed by the CronJob that stands at the key, in its window, at the
-- plan's moment and in the plan's zone
-- rule: claim-time
pub record IsLatestMissed (s : Content) (k : Place) (p : Planned) (time : ℕ) : Type 0 where
  pub cron : CronJob
  pub stands : map.get s.crons k ≡ Some cron
  pub zone : Zone
  pub known : p.zone ≡ Some zone
  pub latest : IsClaimed cron p.at zone time

-- of the key that the worker holds
-- rule: claim-time
abbrev pub IsTimely : State → ℕ → Planned → ℕ → Type 0
IsTimely s w p time = (sync : InFlight) × (sync_of s w ≡ Some sync)
    × IsLatestMissed s.store sync.key p time

-- the time of each accepted claim is the greatest one missed by the CronJob that is current at the
-- claim
-- rule: claim-time
abbrev pub Timely : ℕ → List Told → Type 0
Timely window [] = Unit {0}
Timely window (e ∷ h) = ((p : Planned) (time : ℕ) → IsClaim e p time
    → IsTimely (state_of window h) e.caller.number p time) × Timely window h

-- whoever calls whatever
abbrev pub AlwaysTimely : Type 0
AlwaysTimely = (window : ℕ) (h : List Told) → length h ≤ last_uid → IsLegal window h → ArePlanned h
    → Timely window h
