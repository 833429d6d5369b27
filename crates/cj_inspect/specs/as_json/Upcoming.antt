-- What starts in a window of time, as JSON. The members of an object are in the order of their
-- names.
use Rattle.std.specs.Prelude.{◌≡◌, ℕ, List, [], map, length, Bool, true, false, codes}
use Rattle.serde_json.specs.Data.{Data, null, number, unsigned, string, array, object, member, no_members}
use Rattle.serde_json.specs.View.{items_of, view}
use Rattle.cj_zone.specs.declared.zone.Zone.{Zone}
use Rattle.cj_cluster.specs.declared.cron.ClusterCron.{ClusterCron}
use Rattle.cj_upcoming.specs.declared.minute.Minute.{Minute}
use Rattle.cj_upcoming.specs.declared.start.Start.{Start}
use Rattle.cj_upcoming.specs.Minutes.{minutes, IsPeaks}
use Rattle.cj_upcoming.specs.Upcoming.{IsUpcoming}
use Rattle.cj_upcoming.specs.Window.{Span}
use Rattle.cj_upcoming.specs.Zones.{named}
use Rattle.cj_upcoming.specs.json.Changes.{zone_changes_data}
use Rattle.cj_upcoming.specs.json.Minutes.{minutes_data}
use Rattle.cj_upcoming.specs.json.Standings.{AreStandingData}
use Rattle.cj_json.specs.Values.{time_data}
use Rattle.cj_inspect.specs.Nights.{IsNightData}
use Rattle.cj_inspect.specs.declared.as_json.upcoming.Parts.{Parts}
use Rattle.cj_inspect.specs.declared.cron_files.FileCrons.{FileCrons}
use Rattle.cj_answers.specs.as_json.Forms.{IsJsonLine}
use Rattle.cj_audit.specs.Items.{others_data}
use Rattle.cj_explain.specs.RefusedItems.{refused_data}

-- ---- the files

-- one file alone has no name here
abbrev pub name_data : Bool → List ℕ → Data
name_data true name = string name
name_data false name = null

abbrev pub file_object : Data → Data → Data → Data
file_object name others refused = object (
    member (codes "file") name (
    member (codes "others") others (
    member (codes "refused") refused no_members)))

-- the items of a file that can't be used
-- rules: json-faults, upcoming-json
abbrev pub file_data : Bool → FileCrons → Data
file_data several f =
    file_object (name_data several f.name) (others_data f.list.notes) (refused_data f.list.notes)

abbrev pub files_data : Bool → List FileCrons → Data
files_data several fs = array (items_of (map (file_data several) fs))

-- ---- the window

-- the CronJobs that start nothing
abbrev pub IsIdleData : List Zone → ℕ → List ClusterCron → Data → Type 0
IsIdleData zones from crons d =
    (idle : List Data) × AreStandingData zones from crons idle × (d ≡ array (items_of idle))

-- the fullest minutes
abbrev pub IsPeaksData : ℕ → List ClusterCron → List Start → Data → Type 0
IsPeaksData most crons starts d =
    (peaks : List Minute) × IsPeaks most (minutes starts) peaks
    × (d ≡ minutes_data crons starts peaks)

-- where clocks are put, what of that schedules name, the CronJobs that start nothing, all minutes,
-- the fullest of them, and the starts of each CronJob
pub record Told : Type 0 where
  pub changes : Data
  pub clocks : Data
  pub idle : Data
  pub all_minutes : Data
  pub peaks : Data
  pub summary : Data

abbrev pub told_in : Parts → Told
told_in p =
    record {
      changes = view p.changes;
      clocks = view p.clocks;
      idle = view p.idle;
      all_minutes = view p.all_minutes;
      peaks = view p.peaks;
      summary = view p.summary;
    }

-- the members of the value for these starts
pub record AreParts (zones : List Zone) (w : Span) (crons : List ClusterCron) (most : ℕ)
    (starts : List Start) (p : Told) : Type 0 where
  pub changes : p.changes ≡ zone_changes_data zones w (named [] crons)
  pub clocks : IsNightData p.clocks
  pub idle : IsIdleData zones w.from crons p.idle
  pub all_minutes : p.all_minutes ≡ minutes_data crons starts (minutes starts)
  pub peaks : IsPeaksData most crons starts p.peaks

abbrev pub upcoming_object : Data → Data → ℕ → ℕ → Data → Told → Data
upcoming_object from to crons starts files p = object (
    member (codes "changes") p.changes (
    member (codes "clockChanges") p.clocks (
    member (codes "cronJobs") (number (unsigned crons)) (
    member (codes "files") files (
    member (codes "from") from (
    member (codes "idle") p.idle (
    member (codes "minutes") p.all_minutes (
    member (codes "peaks") p.peaks (
    member (codes "starts") (number (unsigned starts)) (
    member (codes "summary") p.summary (
    member (codes "to") to no_members)))))))))))

-- where clocks are put, what of that schedules name, how many CronJobs are meant, the items of the
-- files that can't be used, the window's start, the CronJobs that start nothing, the minutes in
-- which something starts, the fullest of them, how many starts there are, those of each CronJob,
-- and the window's end
-- rule: upcoming-json
abbrev pub upcoming_data : Span → ℕ → ℕ → Data → Told → Data
upcoming_data w crons starts files p =
    upcoming_object (time_data w.from) (time_data w.end) crons starts files p

-- the value for these starts, on a line
pub record TellsStarts (zones : List Zone) (w : Span) (crons : List ClusterCron) (most : ℕ)
    (starts : List Start) (files : Data) (text : List ℕ) : Type 0 where
  pub parts : Told
  pub are : AreParts zones w crons most starts parts
  pub line : IsJsonLine (upcoming_data w (length crons) (length starts) files parts) text

-- of the starts of the window
-- rule: upcoming-json
pub record IsWindowJson (zones : List Zone) (w : Span) (crons : List ClusterCron) (most : ℕ)
    (files : Data) (text : List ℕ) : Type 0 where
  pub starts : List Start
  pub upcoming : IsUpcoming zones w crons starts
  pub tells : TellsStarts zones w crons most starts files text
