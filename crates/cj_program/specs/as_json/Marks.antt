-- The reasons of a run's syncs, as JSON.
use Rattle.std.specs.Prelude.{ℕ, List, codes, map}
use Rattle.serde_json.specs.Data.{Data, string, array, object, member, no_members}
use Rattle.serde_json.specs.View.{items_of}
use Rattle.cj_types.specs.Printed.{reason_name}
use Rattle.cj_report.specs.declared.timeline.mark.Mark.{Mark}
use Rattle.cj_json.specs.Values.{time_or_null}

abbrev pub reason_object : List ℕ → List ℕ → List ℕ → Data → Data
reason_object cron namespace reason at = object (
    member (codes "cronJob") (string cron) (
    member (codes "namespace") (string namespace) (
    member (codes "reason") (string reason) (
    member (codes "time") at no_members))))

-- the CronJob's key, the reason, and the moment of its sync
-- rule: run-json
abbrev pub mark_data : Mark → Data
mark_data m = reason_object m.key.name m.key.namespace (reason_name m.reason) (time_or_null m.at)

-- rule: run-json
abbrev pub marks_data : List Mark → Data
marks_data ms = array (items_of (map mark_data ms))
