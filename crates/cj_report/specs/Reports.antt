-- The report of a history: the objects that it leaves, and the reasons in it.
use Rattle.std.specs.Prelude.{ℕ, List, ◌++◌}
use Rattle.std.specs.FinMap as map
use Rattle.cj_types.specs.declared.cron.CronJob.{CronJob}
use Rattle.cj_types.specs.declared.job.Job.{Job}
use Rattle.cj_calls.specs.Rows.{Told}
use Rattle.cj_state.specs.declared.state.State.{State}
use Rattle.cj_state.specs.Legal.{state_of}
use Rattle.cj_report.specs.Objects.{cron_lines, job_lines}
use Rattle.cj_report.specs.Reasons.{reason_lines}

-- the lines of the objects, and of the reasons in the history
abbrev pub report_lines : List CronJob → List Job → List Told → List ℕ
report_lines crons jobs h = (cron_lines crons ++ job_lines jobs) ++ reason_lines h crons

abbrev pub report_in : State → List Told → List ℕ
report_in s h = report_lines (map.values s.store.crons) (map.values s.store.jobs) h

-- rule: replay-report
unfoldable pub report_of : ℕ → List Told → List ℕ
report_of window h = report_in (state_of window h) h
