-- The Jobs of a CronJob: Kubernetes, "Owners and Dependents".
use Rattle.std.specs.Prelude.{ℕ, Bool, false, ◌&&◌, List, Option, Some, None}
use Rattle.std.specs.List.{filter}
use Rattle.std.specs.Str.{bytes_eq}
use Rattle.std.specs.FinMap as map
use Rattle.cj_types.specs.Keys.{Place, place_cmp}
use Rattle.cj_types.specs.Objects.{cron_of}
use Rattle.cj_types.specs.declared.job.Job.{Job}
use Rattle.cj_types.specs.declared.owners.OwnerRef.{OwnerRef}
use Rattle.std.specs.Option.{option_map}

abbrev pub names : List ℕ → Option (List ℕ) → Bool
names name None = false
names name (Some named) = bytes_eq named name

-- a Job of the key's namespace whose controller reference names a CronJob of the key's name,
-- whatever its uid
-- rule: jobs-of
abbrev pub is_job_of : Place → Job → Bool
is_job_of key job = bytes_eq job.key.namespace key.namespace && names key.name (cron_of job)

-- of Jobs by key the Jobs of the CronJob at the key, in order of name
-- rule: jobs-of
abbrev pub owned_by : map.FinMap place_cmp Job → Place → List Job
owned_by jobs key = filter (is_job_of key) (map.values jobs)

-- the owner references of the Job at a key
abbrev pub owners_of : map.FinMap place_cmp Job → Place → Option (List OwnerRef)
owners_of jobs key = option_map (λ job. job.owners) (map.get jobs key)
