-- The times of claims by looking back are those by the state.
use Rattle.std.proofs.Common.{ℕ, List, [], ◌∷◌, sym, ◌∙◌}
use Rattle.cj_types.specs.Keys.{Place}
use Rattle.cj_types.specs.declared.event.Event.{Event}
use Rattle.cj_store.specs.Content.{Content}
use Rattle.cj_decide.specs.Decision.{Planned}
use Rattle.cj_calls.specs.Rows.{Told}
use Rattle.cj_state.specs.Legal.{IsLegal}
use Rattle.cj_world_laws.proofs.LegalLemmas.HeldSyncs.{syncs_agree}
use Rattle.cj_world_laws.specs.once.Times as state
use Rattle.cj_world_laws.proofs.OnceLemmas.Claims.{timely as always_timely}
use Rattle.cj_history.specs.store.Store.{IsStore}
use Rattle.cj_history.specs.store.Writes.{writes}
use Rattle.cj_history.proofs.StoreLemmas.Stores.{store_agrees}
use Rattle.cj_history.specs.Times.{IsLatestMissed, Timely, AlwaysTimely}
use Rattle.cj_history.proofs.One.{legal}

-- A time that is the greatest missed at a key by the store is so by the writes that left it.
latest_same : (ws : List Event) (s : Content) (k : Place) (p : Planned) (time : ℕ) → IsStore ws s
    → state.IsLatestMissed s k p time → IsLatestMissed ws k p time
latest_same ws s k p time is m = record {
  cron = m.cron;
  stands = sym (is.crons k)
      ∙ m.stands;
  zone = m.zone;
  known = m.known;
  latest = m.latest;
}

-- In a legal history, claims that are timely by the state are timely by looking back.
timely_same : (window : ℕ) (h : List Told) → IsLegal window h → state.Timely window h → Timely h
timely_same window [] l t = tt
timely_same window (e ∷ h) l t = (
  (λ p time c. let m = t.0 p time c in (m.0, sym (syncs_agree window h l.2 e.caller.number) ∙ m.1, latest_same (writes h) _ m.0.key p time (store_agrees window h l.2) m.2)),
  timely_same window h l.2 t.1,
)

-- For time_law: in a lawful history each claim is of the greatest time missed by its CronJob.
pub timely : AlwaysTimely
timely window h short l planned =
    let r : IsLegal window h = legal window h l in
    timely_same window h r (always_timely window h short r planned)
