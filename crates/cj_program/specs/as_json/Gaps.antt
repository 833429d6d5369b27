-- The due times of a run that got no Job, as JSON.
use Rattle.std.specs.Prelude.{ℕ, List, codes, map}
use Rattle.serde_json.specs.Data.{Data, string, array, object, member, no_members}
use Rattle.serde_json.specs.View.{items_of}
use Rattle.cj_history.specs.declared.gaps.gap.Gap.{Gap}
use Rattle.cj_history.specs.declared.gaps.gap.Why.{Why}
use Rattle.cj_json.specs.Values.{time_data}

-- the names of the causes
-- rule: run-json
abbrev pub cause_name : Why → List ℕ
cause_name Why.Suspended = codes "Suspended"
cause_name Why.TooLate = codes "TooLate"
cause_name Why.Forbidden = codes "Forbidden"
cause_name Why.Earlier = codes "Earlier"
cause_name Why.NameTaken = codes "NameTaken"
cause_name Why.NotMade = codes "NotMade"
cause_name Why.NeverSynced = codes "NeverSynced"

abbrev pub gap_object : List ℕ → List ℕ → List ℕ → Data → Data
gap_object cause cron namespace time = object (
    member (codes "cause") (string cause) (
    member (codes "cronJob") (string cron) (
    member (codes "namespace") (string namespace) (
    member (codes "time") time no_members))))

-- why there is no Job, the CronJob's key, and the due time
-- rule: run-json
abbrev pub gap_data : Gap → Data
gap_data g = gap_object (cause_name g.why) g.cron.key.name g.cron.key.namespace (time_data g.time)

-- rule: run-json
abbrev pub gaps_data : List Gap → Data
gaps_data gs = array (items_of (map gap_data gs))
