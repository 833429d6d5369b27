-- What a worker reads of Jobs: those that a list has, which lags behind the store by as many writes
-- as weren't fed to it (Kubernetes API concepts, "Resource versions": a list may be older than what
-- was written), and what a CronJob's active names are by now.
use Rattle.std.specs.Prelude.{ℕ, List, [], map as map_list, Option, Some, None, if◌then◌else◌}
use Rattle.std.specs.FinMap as map
use Rattle.cj_types.specs.Keys.{Place, place}
use Rattle.cj_types.specs.Uids.{uid_text}
use Rattle.cj_types.specs.declared.cron.CronJob.{CronJob}
use Rattle.cj_types.specs.declared.job.Job.{Job}
use Rattle.cj_status.specs.Mine.{is_mine}
use Rattle.cj_store.specs.Content.{Content}
use Rattle.cj_table.specs.jobs.Owners.{owned_by}
use Rattle.cj_watch.specs.Log.{since}
use Rattle.cj_watch.specs.mirror.Lagging.{Mirror}
use Rattle.cj_watch.specs.mirror.Laws.{caught_up}
use Rattle.cj_state.specs.declared.state.State.{State}

-- the Jobs of a CronJob's key as the list has them, in order of name
-- rule: lagging-listing
abbrev pub listed_of : State → Place → List Job
listed_of s k = owned_by s.mirror.jobs k

-- the list after the events of so many writes more, or with all current Jobs where some of these
-- events are gone
-- rule: lagging-listing
abbrev pub fed_up : State → ℕ → Mirror
fed_up s max = caught_up s.mirror (since s.watch s.mirror.fed max) (map.values s.store.jobs)
    s.store.version

abbrev pub if_mine : List ℕ → Option Job → Option Job
if_mine uid None = None
if_mine uid (Some job) = if is_mine uid job then Some job else None

-- the current Job of the name in the namespace, where its controller has the uid
abbrev pub active_job : Content → List ℕ → List ℕ → List ℕ → Option Job
active_job s uid namespace name = if_mine uid (map.get s.jobs (place namespace name))

-- of each name that the seen status names as active
-- rule: live-read
abbrev pub active_of : Content → Option CronJob → List (Option Job)
active_of s None = []
active_of s (Some cron) = map_list (active_job s (uid_text cron.meta.uid) cron.key.namespace)
    cron.status.active
