-- The text for the list of a cluster's objects at a moment: why each CronJob starts a Job, or not.
-- The members of an object are in the order of their names.
use Rattle.std.specs.Prelude.{◌≡◌, ◌⊎◌, ℕ, ◌<◌, List, codes}
use Rattle.std.specs.FinMap as map
use Rattle.serde_json.specs.Data.{Data, array, object, member, no_members}
use Rattle.serde_json.specs.View.{items_of}
use Rattle.cj_audit.specs.Items.{others_data}
use Rattle.cj_explain.specs.RefusedItems.{refused_data}
use Rattle.cj_base.specs.Instant.{last_second}
use Rattle.cj_cluster.specs.declared.cron.ClusterCron.{ClusterCron}
use Rattle.cj_cluster.specs.kubectl.Reading.{IsClusterList}
use Rattle.cj_cluster.specs.declared.kubectl.list.ClusterList.{ClusterList}
use Rattle.cj_cluster.specs.declared.kubectl.notes.ItemNote.{ItemNote}
use Rattle.cj_json.specs.Values.{time_data}
use Rattle.cj_why.specs.reviews.CronJson.{AreCronJson}
use Rattle.cj_zone.specs.declared.zone.Zone.{Zone}
use Rattle.cj_c.specs.Status.{range}
use Rattle.cj_c.specs.answers.Buffers.{IsAnswered, IsUnchanged}
use Rattle.cj_c.specs.answers.Lists.{IsListRefusal}
use Rattle.cj_c.specs.answers.Texts.{IsJsonText}
use Rattle.cj_c.specs.answers.Zones.{AreZonesOf}

abbrev pub why_object : Data → Data → Data → Data → Data
why_object crons now others refused = object (
    member (codes "cronJobs") crons (
    member (codes "now") now (
    member (codes "others") others (
    member (codes "refused") refused no_members))))

-- what is known of each CronJob, the moment, and the items that can't be used
-- rule: library-why
abbrev pub why_data : ℕ → List Data → List ItemNote → Data
why_data now crons notes =
    why_object (array (items_of crons)) (time_data now) (others_data notes) (refused_data notes)

-- of these CronJobs of a list
-- rule: library-why
pub record TellsCrons (zones : List Zone) (list : ClusterList) (now : ℕ) (crons : List ClusterCron)
    (text : List ℕ) : Type 0 where
  pub told : List Data
  pub are : AreCronJson zones list.cluster now crons told
  pub printed : IsJsonText (why_data now told list.notes) text

-- of all that the bytes list, under the zones, in the order of their keys
-- rule: library-why
pub record IsReviewed (bytes zones_text : List ℕ) (now : ℕ) (text : List ℕ) : Type 0 where
  pub zones : List Zone
  pub zones_are : AreZonesOf zones_text zones
  pub list : ClusterList
  pub read : IsClusterList zones bytes list
  pub tells : TellsCrons zones list now (map.values list.cluster.crons) text

-- what the call leaves: that, or the moment is out of range, and all stays as it was
-- rule: library-why
abbrev pub IsWhyAnswered : List ℕ → List ℕ → ℕ → List ℕ → List ℕ → ℕ → ℕ → ℕ → Type 0
IsWhyAnswered bytes zones_text now old new was is status =
    IsAnswered (IsReviewed bytes zones_text now) (IsListRefusal bytes zones_text) old new was is
    status
    ⊎ ((status ≡ range) × (last_second < now) × IsUnchanged old new was is)
