-- Words of batch/v1 and of the controller's reasons.
use Rattle.std.specs.Prelude.{ℕ, List, codes}
use Rattle.cj_types.specs.declared.policy.Policy.{Policy}
use Rattle.cj_types.specs.declared.policy.Policy.TheVariants.{Allow, Forbid, Replace}
use Rattle.cj_types.specs.declared.policy.Reason.{Reason}
use Rattle.cj_types.specs.declared.policy.Reason.TheVariants.{UnknownTimeZone, TooManyMissedTimes, JobAlreadyActive, FailedCreate}

-- rule: printed-words
abbrev pub policy_name : Policy → List ℕ
policy_name Allow = codes "Allow"
policy_name Forbid = codes "Forbid"
policy_name Replace = codes "Replace"

-- rule: printed-words
abbrev pub reason_name : Reason → List ℕ
reason_name UnknownTimeZone = codes "UnknownTimeZone"
reason_name TooManyMissedTimes = codes "TooManyMissedTimes"
reason_name JobAlreadyActive = codes "JobAlreadyActive"
reason_name FailedCreate = codes "FailedCreate"
