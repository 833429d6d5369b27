-- Jobs that are known by events: Kubernetes API concepts, "Efficient detection of changes". A
-- client lists the objects and then applies the events of a watch, as the reflector of client-go's
-- package cache does.
use Rattle.std.specs.Prelude.{ℕ, ◌+◌, List, [], ◌∷◌, length, fold, refl}
use Rattle.std.specs.FinMap.{FinMap, empty, insert, remove, code}
use Rattle.std.specs.Coded.{Coded, code_by, coded×, coded_ℕ}
use Rattle.cj_types.specs.Keys.{place_cmp, coded_place}
use Rattle.cj_types.specs.declared.event.Object.{Object}
use Rattle.cj_types.specs.declared.event.Object.TheVariants as Kind
use Rattle.cj_types.specs.declared.event.Event.{Event}
use Rattle.cj_types.specs.declared.event.Event.TheVariants.{Added, Modified, Deleted}
use Rattle.cj_types.specs.declared.job.Job.{Job}
use Rattle.cj_types.specs.contracts.job.Job.{the_row as job}

abbrev pub Jobs : Type 0
Jobs = FinMap place_cmp Job

-- the Jobs with this Job at its key
abbrev pub with_job : Jobs → Job → Jobs
with_job jobs j = insert jobs j.key j

-- the Jobs after an object was created or changed, and after it was deleted; a CronJob changes
-- nothing
abbrev pub standing : Jobs → Object → Jobs
standing jobs (Kind.Cron cron) = jobs
standing jobs (Kind.Job j) = with_job jobs j

abbrev pub gone : Jobs → Object → Jobs
gone jobs (Kind.Cron cron) = jobs
gone jobs (Kind.Job j) = remove jobs j.key

-- the Jobs after an event
abbrev pub told : Jobs → Event → Jobs
told jobs (Added object) = standing jobs object
told jobs (Modified object) = standing jobs object
told jobs (Deleted object) = gone jobs object

-- the Jobs after several events, one after the other
-- rule: mirror
abbrev pub told_all : Jobs → List Event → Jobs
told_all jobs events = fold told jobs events

-- the map of the Jobs in a list; of two with one key it has the first
abbrev pub listed : List Job → Jobs
listed [] = empty
listed (j ∷ js) = with_job (listed js) j

-- the Jobs by key, and the number of writes that the mirror is fed with
pub record Mirror : Type 0 where
  pub jobs : Jobs
  pub fed : ℕ

abbrev pub mirror_of : Jobs → ℕ → Mirror
mirror_of jobs fed = record { jobs = jobs; fed = fed }

abbrev pub mirror_code : Coded Mirror
mirror_code = code_by (Jobs × ℕ) (coded× (code coded_place job.coded) coded_ℕ)
    (λ m. (m.jobs, m.fed)) (λ p. mirror_of p.0 p.1) (λ _. refl)

-- the mirror before the first write
abbrev pub new_mirror : Mirror
new_mirror = mirror_of empty 0

-- the mirror after the events of the next writes
-- rule: mirror
abbrev pub fed_with : Mirror → List Event → Mirror
fed_with m events = mirror_of (told_all m.jobs events) (m.fed + length events)

-- the mirror that was reset to a list of the Jobs at a version
-- rule: mirror
abbrev pub reset_to : List Job → ℕ → Mirror
reset_to jobs version = mirror_of (listed jobs) version
