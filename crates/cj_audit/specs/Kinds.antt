-- The policies under which no two Jobs of a CronJob run at once: Kubernetes CronJob documentation,
-- "Concurrency policy".
use Rattle.std.specs.Prelude.{Option, Some, None}
use Rattle.cj_types.specs.declared.policy.Policy.{Policy}
use Rattle.cj_types.specs.declared.policy.Policy.TheVariants.{Allow, Forbid, Replace}
use Rattle.cj_audit.specs.declared.kind.Exclusive.{Exclusive}
use Rattle.cj_audit.specs.declared.kind.Exclusive.TheVariants.{UnderForbid, UnderReplace}

-- rule: audit-beside
abbrev pub exclusive_of : Policy → Option Exclusive
exclusive_of Allow = None
exclusive_of Forbid = Some UnderForbid
exclusive_of Replace = Some UnderReplace
