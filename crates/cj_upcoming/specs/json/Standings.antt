-- CronJobs that start nothing, as JSON. The members of an object are in the order of their names.
use Rattle.std.specs.Prelude.{◌≡◌, ℕ, List, [], ◌∷◌, ◌++◌, codes}
use Rattle.serde_json.specs.Data.{Data, string, object, member, no_members}
use Rattle.cj_types.specs.Keys.{Place}
use Rattle.cj_zone.specs.declared.zone.Zone.{Zone}
use Rattle.cj_cluster.specs.declared.cron.ClusterCron.{ClusterCron}
use Rattle.cj_upcoming.specs.declared.standing.Standing.{Standing}
use Rattle.cj_upcoming.specs.declared.standing.Standing.TheVariants.{Comes, Deleting, Suspended, Never, Stuck, Unread}
use Rattle.cj_upcoming.specs.Standings.{IsStandingOf}

-- which CronJob it is, and the word that its line begins with
abbrev pub idle_data : List ℕ → Place → Data
idle_data word key = object (
    member (codes "name") (string key.name) (
    member (codes "namespace") (string key.namespace) (
    member (codes "standing") (string word) no_members)))

-- nothing of one that comes
-- rule: upcoming-json
abbrev pub standing_data : Standing → Place → List Data
standing_data Comes key = []
standing_data Suspended key = idle_data (codes "suspended") key ∷ []
standing_data Never key = idle_data (codes "never") key ∷ []
standing_data Unread key = idle_data (codes "unread") key ∷ []
standing_data Deleting key = idle_data (codes "deleting") key ∷ []
standing_data Stuck key = idle_data (codes "stuck") key ∷ []

-- the values of one CronJob, and of those behind it
pub record Stands (zones : List Zone) (from : ℕ) (c : ClusterCron) (ds : List Data)
    (Rest : List Data → Type 0) : Type 0 where
  pub standing : Standing
  pub is : IsStandingOf zones from c standing
  pub rest : List Data
  pub more : Rest rest
  pub are : ds ≡ standing_data standing c.cron.key ++ rest

-- of each CronJob of a list, in its order
-- rule: upcoming-json
abbrev pub AreStandingData : List Zone → ℕ → List ClusterCron → List Data → Type 0
AreStandingData zones from [] ds = ds ≡ []
AreStandingData zones from (c ∷ cs) ds = Stands zones from c ds (AreStandingData zones from cs)
