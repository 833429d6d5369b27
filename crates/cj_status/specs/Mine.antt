-- The Jobs of a CronJob: Kubernetes, "Owners and Dependents" (the controller reference has the
-- owner's uid), and the conditions `Complete` and `Failed` of a Job.
use Rattle.std.specs.Prelude.{ℕ, Bool, true, false, ◌&&◌, List, [], ◌∷◌, Option, None, Some}
use Rattle.std.specs.Str.{bytes_eq}
use Rattle.cj_types.specs.declared.job.Job.{Job}
use Rattle.cj_types.specs.declared.owners.OwnerRef.{OwnerRef}
use Rattle.cj_types.specs.declared.policy.Outcome.{Outcome}
use Rattle.cj_types.specs.declared.policy.Outcome.TheVariants.{Complete, Failed}
use Rattle.cj_types.specs.Objects.{is_unfinished}
use Rattle.cj_types.specs.Owners.{controller_of}

-- the reference, if there is one, has this uid
abbrev pub has_uid : List ℕ → Option OwnerRef → Bool
has_uid uid None = false
has_uid uid (Some owner) = bytes_eq owner.uid uid

-- a Job whose controller has this uid
abbrev pub is_mine : List ℕ → Job → Bool
is_mine uid job = has_uid uid (controller_of job.owners)

-- a Job whose controller has this uid and that hasn't finished
abbrev pub is_running : List ℕ → Job → Bool
is_running uid job = is_mine uid job && is_unfinished job

abbrev pub ended_well : Option Outcome → Bool
ended_well None = false
ended_well (Some (Complete time)) = true
ended_well (Some Failed) = false

-- a Job that succeeded
abbrev pub is_complete : Job → Bool
is_complete job = ended_well job.outcome

abbrev pub ended_badly : Option Outcome → Bool
ended_badly None = false
ended_badly (Some (Complete time)) = false
ended_badly (Some Failed) = true

-- a Job that failed
abbrev pub is_failed : Job → Bool
is_failed job = ended_badly job.outcome

-- the Jobs that a live read found, in the order of the names
abbrev pub present : List (Option Job) → List Job
present [] = []
present (None ∷ found) = present found
present (Some job ∷ found) = job ∷ present found
