-- What is said to people of CronJobs that are suspended in the end: a sync of one of those names no
-- next time to be looked at (Kubernetes CronJob documentation, "Schedule suspension").
use Rattle.std.specs.Prelude.{ℕ, List, [], ◌∷◌, ◌++◌, codes, if◌then◌else◌}
use Rattle.cj_types.specs.declared.cron.CronJob.{CronJob}

-- rule: explain-suspended
unfoldable pub suspended_line : CronJob → List ℕ
suspended_line cron =
    cron.key.namespace ++ (codes "/" ++ (cron.key.name
    ++ codes ": no Job for times after its last sync, since spec.suspend is true\n"))

-- of each CronJob that is
-- rule: explain-suspended
abbrev pub suspended_lines : List CronJob → List ℕ
suspended_lines [] = []
suspended_lines (cron ∷ crons) = (if cron.spec.suspend then suspended_line cron else [])
    ++ suspended_lines crons
