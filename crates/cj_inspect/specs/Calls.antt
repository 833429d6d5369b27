-- The calls of the next sync of each CronJob of a cluster, as JSON. The members of an object are in
-- the order of their names.
use Rattle.std.specs.Prelude.{◌≡◌, ◌⊎◌, ℕ, List, [], ◌∷◌, map, codes, Option, None, Some, IfSome}
use Rattle.serde_json.specs.Data.{Data, array, null, object, string, member, no_members}
use Rattle.serde_json.specs.View.{items_of}
use Rattle.cj_zone.specs.declared.zone.Zone.{Zone}
use Rattle.cj_cluster.specs.Content.{Content}
use Rattle.cj_cluster.specs.declared.cron.ClusterCron.{ClusterCron}
use Rattle.cj_cluster.specs.kubectl.Named.{key_text}
use Rattle.cj_decide.specs.Decision.{IsPlan}
use Rattle.cj_decide.specs.declared.start.Claim.{Claim}
use Rattle.cj_decide.specs.declared.steps.Steps.{Steps}
use Rattle.cj_why.specs.reviews.Seen.{found, listed}
use Rattle.cj_why.specs.reviews.ZoneFor.{zone_for}
use Rattle.cj_control.specs.declared.coming.Ahead.{Ahead}
use Rattle.cj_control.specs.declared.coming.Errand.{Errand}
use Rattle.cj_control.specs.declared.coming.Errand.TheVariants as To
use Rattle.cj_control.specs.declared.sent.Request.{Request}
use Rattle.cj_control.specs.Coming.{AreSentFor, calls_ahead}
use Rattle.cj_control.specs.Sent.{request_data}

-- the time that a plan claims
abbrev pub claimed : Option Claim → Option ℕ
claimed None = None
claimed (Some claim) = Some claim.time

-- the time of the Job that a sync sets out to make
abbrev pub made_time : Errand → Option ℕ
made_time (To.Makes n t) = Some t
made_time (To.Tries n t) = Some t
made_time e = None

-- a Job is made for no other time than the plan claims
abbrev pub IsTimed : Option Claim → Errand → Type 0
IsTimed claim e = IfSome (made_time e) (λ t. claimed claim ≡ Some t)

-- it is of the CronJob: by its name and its uid
pub record IsOf (c : ClusterCron) (a : Ahead) : Type 0 where
  pub name : a.at.name ≡ key_text c.cron.key.namespace c.cron.key.name
  pub uid : a.at.cron.uid ≡ c.uid

-- what is ahead of a sync of the CronJob: it makes a Job for no other time than that of its plan
-- rule: why-calls
pub record IsAhead (zones : List Zone) (content : Content) (now : ℕ) (c : ClusterCron) (a : Ahead)
    : Type 0 where
  pub of : IsOf c a
  pub steps : Steps
  pub planned : IsPlan (Some c.cron) (listed content c) (found content c) now
      (zone_for c.cron.spec.time_zone zones) steps
  pub timed : IsTimed steps.claim a.errand

-- the requests of the calls that are ahead of it
-- rule: why-calls
pub record AreRequests (zones : List Zone) (content : Content) (now : ℕ) (c : ClusterCron)
    (rs : List Request) : Type 0 where
  pub ahead : Ahead
  pub is : IsAhead zones content now c ahead
  pub sent : AreSentFor (calls_ahead ahead) rs

abbrev pub requests_data : List Request → Data
requests_data rs = array (items_of (map request_data rs))

-- null where the list lacks what a sync reads
-- rule: why-calls
abbrev pub AreCallsOrNull : List Zone → Content → ℕ → ClusterCron → Data → Type 0
AreCallsOrNull zones content now c d =
    (d ≡ null)
    ⊎ ((rs : List Request) × AreRequests zones content now c rs × (d ≡ requests_data rs))

abbrev pub calls_object : Data → List ℕ → List ℕ → Data
calls_object calls name namespace = object (
    member (codes "calls") calls (
    member (codes "name") (string name) (
    member (codes "namespace") (string namespace) no_members)))

-- of a CronJob, by its name
pub record IsCallsJson (zones : List Zone) (content : Content) (now : ℕ) (c : ClusterCron)
    (d : Data) : Type 0 where
  pub calls : Data
  pub are : AreCallsOrNull zones content now c calls
  pub is : d ≡ calls_object calls c.cron.key.name c.cron.key.namespace

-- of each CronJob, in their order
-- rule: why-calls
abbrev pub AreCallsJson : List Zone → Content → ℕ → List ClusterCron → List Data → Type 0
AreCallsJson zones content now [] ds = ds ≡ []
AreCallsJson zones content now (c ∷ cs) ds =
    (d : Data) × (rest : List Data) × IsCallsJson zones content now c d
    × AreCallsJson zones content now cs rest
    × (ds ≡ d ∷ rest)
