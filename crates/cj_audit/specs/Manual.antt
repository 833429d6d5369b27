-- Jobs that somebody made by hand from a CronJob's template: the kubectl reference, `kubectl create
-- job --from`.
use Rattle.std.specs.Prelude.{ℕ, List, [], ◌∷◌, ◌++◌, codes, Bool, true, false, Option, None, Some}
use Rattle.std.specs.FinMap as map
use Rattle.cj_types.specs.Keys.{place_cmp}
use Rattle.cj_types.specs.declared.job.Job.{Job}
use Rattle.cj_cluster.specs.declared.times.JobTimes.{JobTimes}

abbrev pub manual_by : Option JobTimes → Bool
manual_by None = false
manual_by (Some times) = times.is_manual

-- the times at the Job's key say so
-- rule: audit-manual
abbrev pub is_manual : map.FinMap place_cmp JobTimes → Job → Bool
is_manual times job = manual_by (map.get times job.key)

-- `manual NAMESPACE/JOB`
-- rule: audit-manual
abbrev pub manual_line : Job → List ℕ
manual_line job =
    codes "manual " ++ (job.key.namespace ++ (codes "/" ++ (job.key.name ++ codes "\n")))

abbrev pub line_where : Bool → Job → List ℕ
line_where false job = []
line_where true job = manual_line job

-- of each such Job, in the order of their keys
-- rule: audit-manual
abbrev pub manual_lines : map.FinMap place_cmp JobTimes → List Job → List ℕ
manual_lines times [] = []
manual_lines times (job ∷ jobs) = line_where (is_manual times job) job ++ manual_lines times jobs
