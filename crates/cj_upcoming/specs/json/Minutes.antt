-- What starts in a window, as JSON (RFC 8259). The members of an object are in the order of their
-- names.
use Rattle.std.specs.Prelude.{ℕ, List, [], ◌∷◌, ◌++◌, map, Option, Some, None, codes, slice_get}
use Rattle.serde_json.specs.Data.{Data, number, unsigned, string, array, object, member, no_members}
use Rattle.serde_json.specs.View.{items_of}
use Rattle.cj_types.specs.Keys.{Place}
use Rattle.cj_zone.specs.TimeText.{time_text_of}
use Rattle.cj_cluster.specs.declared.cron.ClusterCron.{ClusterCron}
use Rattle.cj_upcoming.specs.declared.start.Start.{Start}
use Rattle.cj_upcoming.specs.declared.minute.Minute.{Minute}
use Rattle.cj_upcoming.specs.Lines.{starts_in}

-- which CronJob it is
abbrev pub key_data : Place → Data
key_data key = object (
    member (codes "name") (string key.name) (
    member (codes "namespace") (string key.namespace) no_members))

abbrev pub cron_at : Option ClusterCron → List Data
cron_at None = []
cron_at (Some c) = key_data c.cron.key ∷ []

-- the CronJob of each start
abbrev pub crons_in : List ClusterCron → List Start → List Data
crons_in crons [] = []
crons_in crons (s ∷ ss) = cron_at (slice_get crons s.cron) ++ crons_in crons ss

abbrev pub minute_object : ℕ → Data → Data → Data
minute_object count crons time = object (
    member (codes "count") (number (unsigned count)) (
    member (codes "cronJobs") crons (
    member (codes "time") time no_members)))

-- a minute: how much starts in it, what, and its time
-- rule: upcoming-json
abbrev pub minute_data : List ClusterCron → List Start → Minute → Data
minute_data crons starts m =
    minute_object m.count (array (items_of (crons_in crons (starts_in starts m))))
    (string (time_text_of m.time))

-- the minutes in their order
-- rule: upcoming-json
abbrev pub minutes_data : List ClusterCron → List Start → List Minute → Data
minutes_data crons starts ms = array (items_of (map (minute_data crons starts) ms))
