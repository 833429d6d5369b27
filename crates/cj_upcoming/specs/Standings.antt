-- Whether a CronJob ever starts something: Kubernetes CronJob documentation, "Schedule suspension".
use Rattle.std.specs.Prelude.{◌≡◌, ℕ, ◌+◌, ◌≤◌, Bool, true, false, List, [], ◌∷◌, ◌++◌, codes}
use Rattle.cj_types.specs.declared.cron.CronSpec.{CronSpec}
use Rattle.cj_types.specs.Keys.{Place}
use Rattle.cj_schedule.specs.Matches.{Sets}
use Rattle.cj_zone.specs.declared.zone.Zone.{Zone}
use Rattle.cj_due.specs.Due.{due, reach}
use Rattle.cj_cluster.specs.declared.cron.ClusterCron.{ClusterCron}
use Rattle.cj_upcoming.specs.declared.standing.Standing.{Standing}
use Rattle.cj_upcoming.specs.declared.standing.Standing.TheVariants.{Comes, Deleting, Suspended, Never, Stuck, Unread}
use Rattle.cj_upcoming.specs.Starts.{HasClock}
use Rattle.cj_upcoming.specs.Times.{IsDueNone}

-- the schedule is due in its zone at some instant from this one on and within 3,000 days
pub record ComesFrom (zones : List Zone) (from : ℕ) (spec : CronSpec) : Type 0 where
  pub runs : spec.suspend ≡ false
  pub schedule : Sets
  pub zone : Zone
  pub clock : HasClock zones spec schedule zone
  pub time : ℕ
  pub above : from ≤ time
  pub near : time ≤ from + reach
  pub due_then : due schedule zone time ≡ true

-- at none of them
-- rule: upcoming-never
pub record NeverFrom (zones : List Zone) (from : ℕ) (spec : CronSpec) : Type 0 where
  pub runs : spec.suspend ≡ false
  pub schedule : Sets
  pub zone : Zone
  pub clock : HasClock zones spec schedule zone
  pub none : IsDueNone schedule zone from

-- it has no schedule, or no zone
pub record IsUnread (zones : List Zone) (spec : CronSpec) : Type 0 where
  pub runs : spec.suspend ≡ false
  pub none : (schedule : Sets) (zone : Zone) → HasClock zones spec schedule zone → ⊥

-- rules: upcoming-suspended, upcoming-never
abbrev pub IsStanding : List Zone → ℕ → CronSpec → Standing → Type 0
IsStanding zones from spec Suspended = spec.suspend ≡ true
IsStanding zones from spec Comes = ComesFrom zones from spec
IsStanding zones from spec Never = NeverFrom zones from spec
IsStanding zones from spec Unread = IsUnread zones spec
IsStanding zones from spec Deleting = ⊥
IsStanding zones from spec Stuck = ⊥

-- by whether it is being deleted, and whether it is stuck
abbrev pub IsStandingBy : Bool → Bool → List Zone → ℕ → CronSpec → Standing → Type 0
IsStandingBy true stuck zones from spec s = s ≡ Deleting
IsStandingBy false true zones from spec s = s ≡ Stuck
IsStandingBy false false zones from spec s = IsStanding zones from spec s

-- of a CronJob of a cluster
-- rules: upcoming-suspended, upcoming-never, upcoming-halted
abbrev pub IsStandingOf : List Zone → ℕ → ClusterCron → Standing → Type 0
IsStandingOf zones from c s =
    IsStandingBy c.marks.is_deleting c.marks.is_stuck zones from c.cron.spec s

-- `NAMESPACE/NAME`
abbrev pub key_text : Place → List ℕ
key_text key = key.namespace ++ (codes "/" ++ key.name)

-- `suspended NAMESPACE/NAME`, `never NAMESPACE/NAME`, `unread NAMESPACE/NAME`,
-- `deleting NAMESPACE/NAME`, `stuck NAMESPACE/NAME`; nothing of one that comes
-- rules: upcoming-suspended, upcoming-never, upcoming-halted
abbrev pub standing_line : Standing → Place → List ℕ
standing_line Comes key = []
standing_line Suspended key = codes "suspended " ++ (key_text key ++ codes "\n")
standing_line Never key = codes "never " ++ (key_text key ++ codes "\n")
standing_line Unread key = codes "unread " ++ (key_text key ++ codes "\n")
standing_line Deleting key = codes "deleting " ++ (key_text key ++ codes "\n")
standing_line Stuck key = codes "stuck " ++ (key_text key ++ codes "\n")

-- the line of one CronJob, and the rest of the text of those behind it
pub record Tells (zones : List Zone) (from : ℕ) (c : ClusterCron) (text : List ℕ)
    (Rest : List ℕ → Type 0) : Type 0 where
  pub standing : Standing
  pub is : IsStandingOf zones from c standing
  pub rest : List ℕ
  pub more : Rest rest
  pub are : text ≡ standing_line standing c.cron.key ++ rest

-- of each CronJob of a list, in its order
abbrev pub AreStandings : List Zone → ℕ → List ClusterCron → List ℕ → Type 0
AreStandings zones from [] text = text ≡ []
AreStandings zones from (c ∷ cs) text = Tells zones from c text (AreStandings zones from cs)
