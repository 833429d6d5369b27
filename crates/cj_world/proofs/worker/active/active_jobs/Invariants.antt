-- active_jobs: its loop; at each turn the Jobs found are those of the names so far.
use Rattle.std.proofs.Common.{◌≡◌, take, map}
use Rattle.cj_types.specs.Uids.{uid_text}
use Rattle.cj_state.specs.Readings.{active_job}
use Rattle.cj_world.proofs.worker.active.active_jobs.Given as goal

abbrev pub invariant-loop-name : goal.invariant-loop-name
invariant-loop-name l = l.jobs.items ≡ map (active_job l.store (uid_text l.uid) l.cron.namespace)
    (take l.name-index l.names)
