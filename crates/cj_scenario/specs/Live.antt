-- What a live read of a scenario finds: the Jobs that run, in byte order of their names.
use Rattle.std.specs.Prelude.{ℕ, Bool, List, map, filter}
use Rattle.std.specs.declared.cmp.Ordering.{Ordering}
use Rattle.std.specs.Ordering.{nat_cmp, is_lt, on}
use Rattle.std.specs.Cmp.Lexicographic.{slice_cmp}
use Rattle.cj_types.specs.declared.job.Job.{Job}
use Rattle.cj_types.specs.Objects.{is_unfinished}
use Rattle.cj_status.specs.Order.{in_order}

abbrev pub name_cmp : Job → Job → Ordering
name_cmp = on (λ job. job.key.name) (slice_cmp nat_cmp)

abbrev pub is_before : Job → Job → Bool
is_before a b = is_lt (name_cmp a b)

abbrev pub live_jobs : List Job → List Job
live_jobs jobs = in_order is_before (filter is_unfinished jobs)

abbrev pub names_of : List Job → List (List ℕ)
names_of jobs = map (λ job. job.key.name) jobs
