-- The choices of Jobs in a listing, sorted.
use Rattle.std.specs.Prelude.{ℕ, Bool, not, ◌&&◌, List, map, filter}
use Rattle.cj_types.specs.declared.job.Job.{Job}
use Rattle.cj_status.specs.declared.order.Sorting.{Sorting}
use Rattle.cj_status.specs.declared.order.Sorting.TheVariants.{ByAge}
use Rattle.cj_status.specs.declared.listing.Pick.{Pick}
use Rattle.cj_status.specs.declared.listing.Pick.TheVariants as Meant
use Rattle.cj_status.specs.declared.refs.JobRef.{JobRef}
use Rattle.cj_status.specs.Mine.{is_mine, is_running, is_complete, is_failed}
use Rattle.cj_status.specs.Order.{in_order}
use Rattle.cj_status.specs.Refs.{ref, refs, precedes}

-- the Job is one of the chosen
abbrev pub picks : Pick → List ℕ → Job → Bool
picks Meant.Running uid job = is_running uid job
picks Meant.Completed uid job = is_mine uid job && is_complete job
picks Meant.Failed uid job = is_mine uid job && is_failed job
picks Meant.Foreign uid job = not (is_mine uid job)

-- references to the Jobs that pass
abbrev pub gathered : (Job → Bool) → List Job → List JobRef
gathered p jobs = map ref (filter p jobs)

-- the chosen Jobs of a listing, sorted
abbrev pub picked : Pick → Sorting → List ℕ → List Job → List JobRef
picked pick by uid jobs = in_order (precedes by) (gathered (picks pick uid) jobs)

-- all Jobs of a listing, sorted
abbrev pub listed : Sorting → List Job → List JobRef
listed by jobs = in_order (precedes by) (refs jobs)

-- the unfinished Jobs of the CronJob with this uid, the oldest first
abbrev pub running : List ℕ → List Job → List JobRef
running uid jobs = picked Meant.Running ByAge uid jobs
