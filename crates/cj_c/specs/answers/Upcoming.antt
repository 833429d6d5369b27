-- The text for the list of a cluster's objects and a window of time: what starts in it. The members
-- of an object are in the order of their names.
use Rattle.std.specs.Prelude.{◌≡◌, ◌⊎◌, ℕ, ◌+◌, ◌<◌, ◌≤◌, List, [], ◌∷◌, codes, length}
use Rattle.std.specs.FinMap as map
use Rattle.serde_json.specs.Data.{Data, null, number, unsigned, array, object, member, no_members}
use Rattle.serde_json.specs.View.{items_of, view}
use Rattle.cj_audit.specs.Faults.{one_fault}
use Rattle.cj_audit.specs.Items.{others_data}
use Rattle.cj_explain.specs.RefusedItems.{refused_data}
use Rattle.cj_base.specs.Instant.{last_second}
use Rattle.cj_cluster.specs.declared.cron.ClusterCron.{ClusterCron}
use Rattle.cj_cluster.specs.kubectl.Reading.{IsClusterList}
use Rattle.cj_cluster.specs.declared.kubectl.list.ClusterList.{ClusterList}
use Rattle.cj_cluster.specs.declared.kubectl.notes.ItemNote.{ItemNote}
use Rattle.cj_due.specs.Due.{reach}
use Rattle.cj_json.specs.Values.{time_data}
use Rattle.cj_upcoming.specs.Minutes.{IsPeaks, minutes}
use Rattle.cj_upcoming.specs.Upcoming.{HasMore, IsUpcoming}
use Rattle.cj_upcoming.specs.Window.{Span}
use Rattle.cj_upcoming.specs.Zones.{named}
use Rattle.cj_upcoming.specs.declared.minute.Minute.{Minute}
use Rattle.cj_upcoming.specs.declared.start.Start.{Start}
use Rattle.cj_upcoming.specs.json.Changes.{zone_changes_data}
use Rattle.cj_upcoming.specs.json.Minutes.{minutes_data}
use Rattle.cj_upcoming.specs.json.Standings.{AreStandingData}
use Rattle.cj_zone.specs.declared.zone.Zone.{Zone}
use Rattle.cj_c.specs.Status.{range}
use Rattle.cj_c.specs.answers.Buffers.{IsAnswered, IsUnchanged}
use Rattle.cj_c.specs.answers.Lists.{IsListRefusal}
use Rattle.cj_c.specs.answers.Texts.{IsJsonText}
use Rattle.cj_c.specs.answers.Zones.{AreZonesOf}
use Rattle.cj_c.specs.declared.answers.upcoming.Parts.{Parts}

-- the items of the list that can't be used; it has no name
abbrev pub file_object : Data → Data → Data
file_object others refused = object (
    member (codes "file") null (
    member (codes "others") others (
    member (codes "refused") refused no_members)))

abbrev pub files_data : List ItemNote → Data
files_data notes = array (items_of (file_object (others_data notes) (refused_data notes) ∷ []))

-- the CronJobs that start nothing
abbrev pub IsIdleData : List Zone → ℕ → List ClusterCron → Data → Type 0
IsIdleData zones from crons d =
    (idle : List Data) × AreStandingData zones from crons idle × (d ≡ array (items_of idle))

-- the fullest minutes
abbrev pub IsPeaksData : ℕ → List ClusterCron → List Start → Data → Type 0
IsPeaksData most crons starts d =
    (peaks : List Minute) × IsPeaks most (minutes starts) peaks
    × (d ≡ minutes_data crons starts peaks)

-- where clocks are put, the CronJobs that start nothing, all minutes, and the fullest of them
pub record Telling : Type 0 where
  pub changes : Data
  pub idle : Data
  pub all_minutes : Data
  pub peaks : Data

abbrev pub told_in : Parts → Telling
told_in p =
    record {
      changes = view p.changes;
      idle = view p.idle;
      all_minutes = view p.all_minutes;
      peaks =
          view p.peaks;
    }

-- the members of the value for these starts
pub record AreParts (zones : List Zone) (w : Span) (crons : List ClusterCron) (most : ℕ)
    (starts : List Start) (p : Telling) : Type 0 where
  pub changes : p.changes ≡ zone_changes_data zones w (named [] crons)
  pub idle : IsIdleData zones w.from crons p.idle
  pub all_minutes : p.all_minutes ≡ minutes_data crons starts (minutes starts)
  pub peaks : IsPeaksData most crons starts p.peaks

abbrev pub upcoming_object : Data → Data → ℕ → ℕ → Data → Telling → Data
upcoming_object from to crons starts files p = object (
    member (codes "changes") p.changes (
    member (codes "cronJobs") (number (unsigned crons)) (
    member (codes "files") files (
    member (codes "from") from (
    member (codes "idle") p.idle (
    member (codes "minutes") p.all_minutes (
    member (codes "peaks") p.peaks (
    member (codes "starts") (number (unsigned starts)) (
    member (codes "to") to no_members)))))))))

-- where clocks are put, how many CronJobs there are, the items that can't be used, the window's
-- start, the CronJobs that start nothing, the minutes in which something starts, the fullest of
-- them, how many starts there are, and the window's end
-- rule: library-upcoming
abbrev pub upcoming_data : Span → ℕ → ℕ → Data → Telling → Data
upcoming_data w crons starts files p =
    upcoming_object (time_data w.from) (time_data w.end) crons starts files p

-- of these starts of a window
-- rule: library-upcoming
pub record TellsStarts (zones : List Zone) (w : Span) (crons : List ClusterCron)
    (notes : List ItemNote) (most : ℕ) (starts : List Start) (text : List ℕ) : Type 0 where
  pub parts : Telling
  pub are : AreParts zones w crons most starts parts
  pub printed : IsJsonText (upcoming_data w (length crons) (length starts) (files_data notes) parts)
      text

-- all that starts in the window, of these CronJobs
-- rule: library-upcoming
pub record IsWindowTold (zones : List Zone) (w : Span) (crons : List ClusterCron)
    (notes : List ItemNote) (most : ℕ) (text : List ℕ) : Type 0 where
  pub starts : List Start
  pub upcoming : IsUpcoming zones w crons starts
  pub tells : TellsStarts zones w crons notes most starts text

-- the greatest number of starts that are told
-- rule: library-upcoming
abbrev pub most_starts : ℕ
most_starts = 4_000_000

-- they start more
pub record IsTooMany (zones : List Zone) (w : Span) (crons : List ClusterCron) (text : List ℕ)
    : Type 0 where
  pub more : HasMore zones w crons most_starts
  pub printed : IsJsonText (one_fault (codes "TooMany") (codes "$")) text

-- of what the bytes list, under the zones
-- rule: library-upcoming
pub record IsForetold (bytes zones_text : List ℕ) (w : Span) (most : ℕ) (text : List ℕ)
    : Type 0 where
  pub zones : List Zone
  pub zones_are : AreZonesOf zones_text zones
  pub list : ClusterList
  pub read : IsClusterList zones bytes list
  pub told : IsWindowTold zones w (map.values list.cluster.crons) list.notes most text

pub record HasTooMany (bytes zones_text : List ℕ) (w : Span) (text : List ℕ) : Type 0 where
  pub zones : List Zone
  pub zones_are : AreZonesOf zones_text zones
  pub list : ClusterList
  pub read : IsClusterList zones bytes list
  pub many : IsTooMany zones w (map.values list.cluster.crons) text

-- why it is refused: there is no such list, or too much starts in the window
-- rule: library-upcoming
abbrev pub IsUpcomingRefusal : List ℕ → List ℕ → Span → List ℕ → Type 0
IsUpcomingRefusal bytes zones_text w text =
    IsListRefusal bytes zones_text text ⊎ HasTooMany bytes zones_text w text

-- the window from an instant on has that many seconds
-- rule: library-upcoming
abbrev pub IsWindow : ℕ → ℕ → Span → Type 0
IsWindow from span w = (w.from ≡ from) × (w.end ≡ from + span)

-- there is none: it begins too late, or it is longer than 3,000 days or ends after the year 9998
-- rule: library-upcoming
abbrev pub HasNoWindow : ℕ → ℕ → Type 0
HasNoWindow from span =
    (last_second < from) ⊎ ((span ≤ reach) × (from + span ≤ last_second) → ⊥)

-- what the call leaves for a window
abbrev pub IsWindowAnswered : List ℕ → List ℕ → Span → ℕ → List ℕ → List ℕ → ℕ → ℕ → ℕ → Type 0
IsWindowAnswered bytes zones_text w most old new was is status =
    IsAnswered (IsForetold bytes zones_text w most) (IsUpcomingRefusal bytes zones_text w) old new
    was is status

-- what the call leaves: that, or there is no such window, and all stays as it was
-- rule: library-upcoming
abbrev pub IsUpcomingAnswered : List ℕ → List ℕ → ℕ → ℕ → ℕ → List ℕ → List ℕ → ℕ → ℕ → ℕ → Type 0
IsUpcomingAnswered bytes zones_text from span most old new was is status =
    ((w : Span) × IsWindow from span w
    × IsWindowAnswered bytes zones_text w most old new was is status)
    ⊎ ((status ≡ range) × HasNoWindow from span × IsUnchanged old new was is)
