-- The time of each claim, by looking back alone: Kubernetes CronJob documentation, "CronJob
-- limitations" (the schedules missed since the last one, of which the latest is started) and
-- "Deadline for delayed Job start".
use Rattle.std.specs.Prelude.{◌≡◌, ℕ, ◌≤◌, List, [], ◌∷◌, length, Some}
use Rattle.cj_types.specs.Keys.{Place}
use Rattle.cj_types.specs.Uids.{last_uid}
use Rattle.cj_types.specs.declared.cron.CronJob.{CronJob}
use Rattle.cj_types.specs.declared.event.Event.{Event}
use Rattle.cj_zone.specs.declared.zone.Zone.{Zone}
use Rattle.cj_decide.specs.Decision.{Planned}
use Rattle.cj_calls.specs.Rows.{Told}
use Rattle.cj_state.specs.declared.phases.sync.InFlight.{InFlight}
use Rattle.cj_state.specs.Legal.{ArePlanned}
use Rattle.cj_world_laws.specs.legal.InFlightSyncs.{sync}
use Rattle.cj_decide.specs.laws.Laws.{IsClaimed}
use Rattle.cj_world_laws.specs.once.Times.{IsClaim}
use Rattle.cj_history.specs.store.Written.{current_cron}
use Rattle.cj_history.specs.store.Writes.{writes}
use Rattle.cj_history.specs.Legal.{IsLawful}

-- the greatest of the times missed by the CronJob that is current at the key, in its window, at the
-- plan's moment and in the plan's zone
pub record IsLatestMissed (ws : List Event) (k : Place) (p : Planned) (time : ℕ) : Type 0 where
  pub cron : CronJob
  pub stands : current_cron ws k ≡ Some cron
  pub zone : Zone
  pub known : p.zone ≡ Some zone
  pub latest : IsClaimed cron p.at zone time

-- of the key that the worker holds
abbrev pub IsTimely : List Told → ℕ → Planned → ℕ → Type 0
IsTimely h w p time = (s : InFlight) × (sync h w ≡ Some s) × IsLatestMissed (writes h) s.key p time

-- the time of each accepted claim is the greatest one missed by the CronJob that is current at the
-- claim
-- rule: looking-back
abbrev pub Timely : List Told → Type 0
Timely [] = Unit {0}
Timely (e ∷ h) = ((p : Planned) (time : ℕ) → IsClaim e p time → IsTimely h e.caller.number p time)
    × Timely h

-- whoever calls whatever
-- rule: looking-back
abbrev pub AlwaysTimely : Type 0
AlwaysTimely = (window : ℕ) (h : List Told) → length h ≤ last_uid → IsLawful window h → ArePlanned h
    → Timely h
