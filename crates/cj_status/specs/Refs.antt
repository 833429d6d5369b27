-- References to Jobs, and their orders.
use Rattle.std.specs.Prelude.{Bool, true, false, List, [], ◌∷◌, map}
use Rattle.std.specs.declared.cmp.Ordering.{Ordering}
use Rattle.std.specs.Ordering.{nat_cmp, is_lt, on, then_cmp}
use Rattle.std.specs.Cmp.Lexicographic.{slice_cmp}
use Rattle.cj_types.specs.declared.job.Job.{Job}
use Rattle.cj_status.specs.declared.refs.JobRef.{JobRef}
use Rattle.cj_status.specs.declared.order.Sorting.{Sorting}
use Rattle.cj_status.specs.declared.order.Sorting.TheVariants.{ByName, ByAge}

abbrev pub ref : Job → JobRef
ref job = record { key = job.key; uid = job.meta.uid; created = job.meta.created }

-- the references to the Jobs
abbrev pub refs : List Job → List JobRef
refs jobs = map ref jobs

-- the order by the bytes of the name
abbrev pub name_cmp : JobRef → JobRef → Ordering
name_cmp = on (λ r. r.key.name) (slice_cmp nat_cmp)

-- the order by creation time, then by the bytes of the name
abbrev pub age_cmp : JobRef → JobRef → Ordering
age_cmp = then_cmp (on (λ r. r.created) nat_cmp) name_cmp

abbrev pub ref_cmp : Sorting → JobRef → JobRef → Ordering
ref_cmp ByName = name_cmp
ref_cmp ByAge = age_cmp

abbrev pub precedes : Sorting → JobRef → JobRef → Bool
precedes by a b = is_lt (ref_cmp by a b)

-- the first Job was created before the second, or at the same time with a lesser name
abbrev pub is_older : JobRef → JobRef → Bool
is_older a b = is_lt (age_cmp a b)

abbrev pub has_any : List JobRef → Bool
has_any [] = false
has_any (r ∷ rs) = true
