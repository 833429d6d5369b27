-- note_stuck: its loop; at each turn the CronJobs of the rest are still to be noted.
use Rattle.cj_audit.specs.Notes.{AnyOf}
use Rattle.cj_audit.specs.Findings.{IsStuckCron}
use Rattle.cj_audit.proofs.Walks.{Leads}
use Rattle.cj_audit.proofs.stuck.note_stuck.Given as goal

abbrev pub invariant-loop-cron : goal.invariant-loop-cron
invariant-loop-cron l = Leads (AnyOf IsStuckCron) l.cron-items l.cron-index l.initial.notes l.notes
