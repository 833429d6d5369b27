-- The text for the list of a cluster's objects: what is wrong in it.
use Rattle.std.specs.Prelude.{ℕ, List}
use Rattle.cj_audit.specs.declared.finding.Finding.{Finding}
use Rattle.cj_audit.specs.Audit.{audit_data}
use Rattle.cj_audit.specs.Findings.{IsAudit}
use Rattle.cj_cluster.specs.kubectl.Reading.{IsClusterList}
use Rattle.cj_cluster.specs.declared.kubectl.list.ClusterList.{ClusterList}
use Rattle.cj_explain.specs.RefusedItems.{refused_data}
use Rattle.cj_zone.specs.declared.zone.Zone.{Zone}
use Rattle.cj_c.specs.answers.Texts.{IsJsonText}
use Rattle.cj_c.specs.answers.Zones.{AreZonesOf}

-- exactly what is wrong in what the bytes list, under the zones
-- rule: library-audit
pub record IsAudited (bytes zones_text text : List ℕ) : Type 0 where
  pub zones : List Zone
  pub zones_are : AreZonesOf zones_text zones
  pub list : ClusterList
  pub read : IsClusterList zones bytes list
  pub findings : List Finding
  pub found : IsAudit zones list.cluster list.notes findings
  pub printed : IsJsonText (audit_data list findings (refused_data list.notes)) text
