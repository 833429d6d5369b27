-- What set the instant after which missed times count: Kubernetes CronJob documentation, "CronJob
-- limitations", and the field `startingDeadlineSeconds` of the batch/v1 CronJobSpec.
use Rattle.std.specs.Prelude.{ℕ, ◌-◌, nat_lt, Bool, false, List, Option, None, Some, codes, unwrap_or, if◌then◌else◌}
use Rattle.cj_types.specs.declared.cron.CronJob.{CronJob}

-- the last scheduled time, or the creation where nothing was scheduled yet
abbrev pub base_words : Option ℕ → List ℕ
base_words None = codes "its creation"
base_words (Some last) = codes "its last scheduled time"

-- the earliest moment whose start is still in time lies behind that
abbrev pub is_deadline : Option ℕ → ℕ → ℕ → Bool
is_deadline None base now = false
is_deadline (Some deadline) base now = nat_lt base (now - deadline)

-- rule: explain-why
abbrev pub since_words : CronJob → ℕ → List ℕ
since_words cron now =
    if is_deadline cron.spec.starting_deadline_seconds
    (unwrap_or cron.status.last_schedule_time cron.meta.created) now
    then codes "the moment less its starting deadline"
    else base_words cron.status.last_schedule_time
