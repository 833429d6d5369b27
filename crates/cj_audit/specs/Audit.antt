-- What an audit finds, as JSON. The members of an object are in the order of their names.
use Rattle.std.specs.Prelude.{ℕ, List, length, codes}
use Rattle.std.specs.FinMap as map
use Rattle.serde_json.specs.Data.{Data, number, unsigned, object, member, no_members}
use Rattle.cj_audit.specs.declared.finding.Finding.{Finding}
use Rattle.cj_audit.specs.Json.{findings_data, manual_data}
use Rattle.cj_cluster.specs.declared.kubectl.list.ClusterList.{ClusterList}
use Rattle.cj_audit.specs.Items.{others_data}

abbrev pub audit_object : ℕ → ℕ → Data → Data → Data → Data → Data
audit_object crons jobs findings manual others refused = object (
    member (codes "cronJobs") (number (unsigned crons)) (
    member (codes "findings") findings (
    member (codes "jobs") (number (unsigned jobs)) (
    member (codes "manual") manual (
    member (codes "others") others (
    member (codes "refused") refused no_members))))))

-- how many CronJobs and Jobs were looked at, the findings, the Jobs that somebody made by hand, and
-- the items that can't be used, the refused ones by their value
-- rules: audit-json, json-faults, library-audit
abbrev pub audit_data : ClusterList → List Finding → Data → Data
audit_data list findings refused =
    audit_object (length (map.values list.cluster.crons)) (length (map.values list.cluster.jobs))
    (findings_data findings)
    (manual_data list.cluster.times (map.values list.cluster.jobs)) (others_data list.notes)
    refused
