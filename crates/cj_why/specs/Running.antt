-- The Jobs of a CronJob that run: Kubernetes CronJob documentation, "Concurrency policy".
use Rattle.std.specs.Prelude.{ℕ, List, [], ◌∷◌, ◌++◌, codes, Bool, true, false}
use Rattle.cj_status.specs.declared.refs.JobRef.{JobRef}

abbrev pub running_line : List ℕ → List ℕ
running_line name = codes "running: " ++ (name ++ codes "\n")

-- rule: explain-why
abbrev pub running_lines : List JobRef → List ℕ
running_lines [] = []
running_lines (job ∷ jobs) = running_line job.key.name ++ running_lines jobs

unfoldable pub lacking_end : List ℕ
lacking_end = codes ", which status.active names and the list lacks; kubectl get cronjobs,jobs -o json lists Jobs too\n"

-- a Job that `status.active` names, and of which nothing is known
abbrev pub lacking_line : List ℕ → List ℕ
lacking_line name = codes "running: perhaps " ++ (name ++ lacking_end)

-- rule: why-lacks
abbrev pub lacking_lines : List (List ℕ) → List ℕ
lacking_lines [] = []
lacking_lines (name ∷ names) = lacking_line name ++ lacking_lines names

-- there is such a Job
abbrev pub lacks_any : List (List ℕ) → Bool
lacks_any [] = false
lacks_any (name ∷ names) = true
