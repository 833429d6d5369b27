-- What the proofs about the zones of a call share: why there are none.
use Rattle.std.proofs.Common.{inl, inr, sym, subst, List, ℕ}
use Rattle.cj_scenario.specs.Scenes.{Refuses}
use Rattle.cj_scenario.specs.declared.fault.SceneFault.{SceneFault}
use Rattle.cj_c.specs.answers.Zones.{HasNoZones, IsNoZones}

-- of no_zones and zones_in: why there is no table of the zones is why the zones of the bytes are none
pub none_for : (bytes : List ℕ) (Reason : Type 0) (e : SceneFault) → (Reason → HasNoZones bytes) → Refuses e Reason
    → IsNoZones bytes e
none_for bytes Reason e given (inl is) = subst (λ (x : SceneFault). IsNoZones bytes x) (sym is) tt
none_for bytes Reason e given (inr (is, reason)) = subst (λ (x : SceneFault). IsNoZones bytes x) (sym is) (given reason)
