-- What `audit` prints: lines, a JSON value or a picture.
use Rattle.std.specs.Prelude.{◌≡◌, ℕ, List, ◌++◌, Bool, true, false, codes, length}
use Rattle.std.specs.FinMap as map
use Rattle.cj_audit.specs.declared.finding.Finding.{Finding}
use Rattle.cj_audit.specs.Lines.{audit_lines}
use Rattle.cj_audit.specs.Manual.{manual_lines}
use Rattle.cj_cluster.specs.declared.kubectl.list.ClusterList.{ClusterList}
use Rattle.cj_audit.specs.Items.{others_data}
use Rattle.cj_explain.specs.RefusedItems.{refused_data}
use Rattle.cj_audit.specs.Json.{findings_data, manual_data}
use Rattle.serde_json.specs.Data.{Data, number, unsigned, object, member, no_members}
use Rattle.cj_inspect.specs.Nights.{IsNightData}
use Rattle.cj_answers.specs.Clusters.{note_lines}
use Rattle.cj_answers.specs.as_json.Forms.{IsJsonLine}

abbrev pub audit_object : Data → ℕ → ℕ → Data → Data → Data → Data → Data
audit_object clocks crons jobs findings manual others refused = object (
    member (codes "clockChanges") clocks (
    member (codes "cronJobs") (number (unsigned crons)) (
    member (codes "findings") findings (
    member (codes "jobs") (number (unsigned jobs)) (
    member (codes "manual") manual (
    member (codes "others") others (
    member (codes "refused") refused no_members)))))))

-- what clocks do, how many CronJobs and Jobs were looked at, the findings, the Jobs that somebody
-- made by hand, and the items that can't be used
-- rules: audit-json, json-faults
abbrev pub audit_data : Data → ClusterList → List Finding → Data
audit_data clocks list findings =
    audit_object clocks (length (map.values list.cluster.crons))
    (length (map.values list.cluster.jobs))
    (findings_data findings)
    (manual_data list.cluster.times (map.values list.cluster.jobs)) (others_data list.notes)
    (refused_data list.notes)

-- on a line
-- rules: audit-json, clock-nights
pub record IsAuditJson (list : ClusterList) (findings : List Finding) (text : List ℕ)
    : Type 0 where
  pub clocks : Data
  pub clocks_are : IsNightData clocks
  pub line : IsJsonLine (audit_data clocks list findings) text

-- in JSON; or the items that can't be used, the Jobs that somebody made by hand, then the findings
-- and how many there are
-- rules: audit-json, audit-lines, audit-manual
abbrev pub IsAuditPrinted : Bool → ClusterList → List Finding → List ℕ → Type 0
IsAuditPrinted true list findings text = IsAuditJson list findings text
IsAuditPrinted false list findings text =
    text ≡ note_lines list.notes
    ++ (manual_lines list.cluster.times (map.values list.cluster.jobs)
    ++ audit_lines (length (map.values list.cluster.crons))
    (length (map.values list.cluster.jobs)) findings)

-- a picture, of which nothing is said; or else that
-- rule: audit-svg
abbrev pub IsAuditShown : Bool → Bool → ClusterList → List Finding → List ℕ → Type 0
IsAuditShown true json list findings text = Unit {0}
IsAuditShown false json list findings text = IsAuditPrinted json list findings text
