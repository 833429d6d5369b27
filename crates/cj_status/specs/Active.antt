-- The field `active` of batch/v1's `CronJobStatus`: names of Jobs that run.
use Rattle.std.specs.Prelude.{ℕ, Bool, false, ◌&&◌, List, [], ◌∷◌, map, Option, None, Some, if◌then◌else◌}
use Rattle.std.specs.declared.cmp.Ordering.{Ordering}
use Rattle.std.specs.declared.cmp.Ordering.TheVariants.{Less, Equal, Greater}
use Rattle.std.specs.Ordering.{nat_cmp}
use Rattle.std.specs.Cmp.Lexicographic.{slice_cmp}
use Rattle.std.specs.Str.{bytes_eq}
use Rattle.cj_types.specs.declared.job.Job.{Job}
use Rattle.cj_status.specs.declared.listing.Pick.TheVariants as Meant
use Rattle.cj_status.specs.declared.refs.JobRef.{JobRef}
use Rattle.cj_status.specs.declared.order.Sorting.TheVariants.{ByName}
use Rattle.cj_status.specs.Mine.{is_running}
use Rattle.cj_status.specs.Picked.{picked}

abbrev pub names_of : List JobRef → List (List ℕ)
names_of refs = map (λ r. r.key.name) refs

-- the names of the unfinished Jobs of the CronJob with this uid, in byte order
-- rule: final-status
abbrev pub active_of : List Job → List ℕ → List (List ℕ)
active_of jobs uid = names_of (picked Meant.Running ByName uid jobs)

-- a name put before another, in its place, or behind it; the rest with the name in it is given
abbrev pub placed : Ordering → List ℕ → List ℕ → List (List ℕ) → List (List ℕ) → List (List ℕ)
placed Less name first others rest = name ∷ first ∷ others
placed Equal name first others rest = first ∷ others
placed Greater name first others rest = first ∷ rest

-- names in byte order with one added, unless it is among them
-- rule: claim-status
abbrev pub names_with : List ℕ → List (List ℕ) → List (List ℕ)
names_with name [] = name ∷ []
names_with name (first ∷ others) = placed (slice_cmp nat_cmp name first) name first others
    (names_with name others)

-- the live read found a Job with that name, unfinished and with that uid as its controller's
abbrev pub is_found : List ℕ → List ℕ → Option Job → Bool
is_found uid name None = false
is_found uid name (Some job) = bytes_eq job.key.name name && is_running uid job

-- the names for which a live read found an unfinished Job of the CronJob
-- rule: final-status
abbrev pub still_active : List ℕ → List (List ℕ) → List (Option Job) → List (List ℕ)
still_active uid [] found = []
still_active uid (name ∷ names) [] = []
still_active uid (name ∷ names) (one ∷ found) =
    if is_found uid name one then name ∷ still_active uid names found else still_active uid names
    found
