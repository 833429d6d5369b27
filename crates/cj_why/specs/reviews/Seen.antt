-- What a sync of a cluster's CronJob sees. A server's uid is any text; the decision takes a number
-- in its place.
use Rattle.std.specs.Prelude.{ℕ, List, [], ◌∷◌, map, filter, codes, not, Bool, true, false, bytes_eq, is_none, if◌then◌else◌, Option}
use Rattle.std.specs.Option.{option_map}
use Rattle.std.specs.FinMap as maps
use Rattle.cj_types.specs.Keys.{place}
use Rattle.cj_types.specs.Uids.{uid_text}
use Rattle.cj_types.specs.declared.job.Job.{Job}
use Rattle.cj_types.specs.declared.owners.OwnerRef.{OwnerRef}
use Rattle.cj_table.specs.jobs.Owners.{owned_by}
use Rattle.cj_cluster.specs.Content.{Content}
use Rattle.cj_cluster.specs.declared.cron.ClusterCron.{ClusterCron}

-- the text of the CronJob's number for the CronJob's own uid, and one that is no number's for any
-- other
-- rule: why-numbered
abbrev pub number_of : ClusterCron → List ℕ → List ℕ
number_of c uid = if bytes_eq uid c.uid then uid_text c.cron.meta.uid else codes "another"

abbrev pub numbered_owner : ClusterCron → OwnerRef → OwnerRef
numbered_owner c o = record {
  api_version = o.api_version;
  kind = o.kind;
  name = o.name;
  uid = number_of c o.uid;
  controller = o.controller;
  block_owner_deletion = o.block_owner_deletion;
}

-- the Job, with numbers for the uids of its owners
-- rule: why-numbered
abbrev pub numbered : ClusterCron → Job → Job
numbered c job = record {
  key = job.key;
  meta = job.meta;
  owners = map (numbered_owner c) job.owners;
  spec = job.spec;
  outcome = job.outcome;
}

-- the Jobs whose controller names the CronJob, in the order of their names
-- rule: why-seen
abbrev pub listed : Content → ClusterCron → List Job
listed content c = map (numbered c) (owned_by content.jobs c.cron.key)

-- the Job of that name in the CronJob's namespace
abbrev pub found_at : Content → ClusterCron → List ℕ → Option Job
found_at content c name =
    option_map (numbered c) (maps.get content.jobs (place c.cron.key.namespace name))

-- what a live read finds for each name in `status.active`
-- rule: why-seen
abbrev pub found : Content → ClusterCron → List (Option Job)
found content c = map (found_at content c) c.cron.status.active

abbrev pub is_lacking : Content → ClusterCron → List ℕ → Bool
is_lacking content c name = is_none (maps.get content.jobs (place c.cron.key.namespace name))

-- the names in `status.active` of which the list has no Job
-- rule: why-lacks
abbrev pub lacking : Content → ClusterCron → List (List ℕ)
lacking content c = filter (is_lacking content c) c.cron.status.active

abbrev pub has_any : {A : Type 0} → List A → Bool
has_any [] = false
has_any (x ∷ xs) = true

-- the list has Jobs of the CronJob, so it isn't one of CronJobs alone
-- rule: why-lacks
abbrev pub lists_jobs : Content → ClusterCron → Bool
lists_jobs content c = has_any (owned_by content.jobs c.cron.key)

abbrev pub where_so : Bool → List (List ℕ) → List (List ℕ)
where_so true names = names
where_so false names = []

-- of these nothing is known: in a list without Jobs of the CronJob such a Job may run, be gone, or
-- only not be listed
-- rule: why-lacks
abbrev pub unknown : Content → ClusterCron → List (List ℕ)
unknown content c = where_so (not (lists_jobs content c)) (lacking content c)

-- and these are gone: the list has others of the CronJob's Jobs
-- rule: why-lacks
abbrev pub gone : Content → ClusterCron → List (List ℕ)
gone content c = where_so (lists_jobs content c) (lacking content c)
