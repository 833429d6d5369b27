-- What opening a schedule leaves, by the kind of its zone.
use Rattle.std.proofs.Common.{inl, inr, ℕ, List, Result, IfOk, IfErr, subst}
use Rattle.cj_zone.specs.declared.zone.Zone.{Zone}
use Rattle.cj_c.specs.Opening.{IsOpened, IsUnzoned, Opens}
use Rattle.cj_c.specs.declared.fault.CronFault.{CronFault}
use Rattle.cj_c.specs.declared.held.Held.{Held}
use Rattle.cj_c.specs.declared.zones.Unzoned.{Unzoned}

-- For the exported functions that open: what was read as the zone is one of the kind, or there is none for that reason.
pub opened_as : (schedule : List ℕ) (IsZone : Zone
    → Type 0) (NoZone : Type 0) (zone : Result Zone Unzoned) (old new : Held)
    (told tells : CronFault) (status : ℕ) → IfOk zone IsZone → IfErr zone (IsUnzoned NoZone)
    → Opens schedule zone old new told tells status → IsOpened schedule IsZone NoZone old new told tells status
opened_as schedule IsZone NoZone zone old new told tells status is none (inl (done, full, (read, zone_is), same)) =
    inl (done, full, (read, subst (λ (r : Result Zone Unzoned). IfOk r IsZone) zone_is is), same)
opened_as schedule IsZone NoZone zone old new told tells status is none (inr (inl (refused, same, inl text))) =
    inr (inl (refused, same, inl text))
opened_as schedule IsZone NoZone zone old new told tells status is none
    (inr (inl (refused, same, inr (zone_is, fault)))) =
    inr (inl (refused, same, inr (subst (λ (r : Result Zone Unzoned). IfErr r (IsUnzoned NoZone)) zone_is none, fault)))
opened_as schedule IsZone NoZone zone old new told tells status is none (inr (inr memory)) = inr (inr memory)
