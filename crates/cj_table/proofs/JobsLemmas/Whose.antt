-- Whose a Job is: the CronJob that it names is a key's just where the Job passes the test for that key.
use Rattle.std.proofs.Common.{◌≡◌, ℕ, List, Bool, true, false, ◌&&◌, Option, Some, None, refl, sym, ap, ◌∙◌}
use Rattle.std.specs.Option.{option_map}
use Rattle.std.specs.declared.cmp.Ordering.{Ordering}
use Rattle.std.specs.declared.cmp.Ordering.TheVariants.{Less, Equal, Greater}
use Rattle.std.specs.Ordering.{nat_cmp, is_eq, ordering_then}
use Rattle.std.specs.Cmp.Lexicographic.{slice_cmp, texts_ties}
use Rattle.std.specs.Str.{bytes_eq}
use Rattle.cj_types.specs.Keys.{Place, place}
use Rattle.cj_types.specs.Objects.{cron_of}
use Rattle.cj_types.specs.declared.job.Job.{Job}
use Rattle.cj_table.specs.jobs.Owners.{names, is_job_of}
use Rattle.cj_table.specs.jobs.Index.{owner_of, owner_at, is_owned, is_owner}

-- Two orders, the second asked where the first ties, tie just where both tie.
both_tie : (a b : Ordering) → is_eq (ordering_then a b) ≡ (is_eq a && is_eq b)
both_tie Less b = refl
both_tie Equal b = refl
both_tie Greater b = refl

-- A test together with what is false does not hold.
no_more : (a : Bool) → false ≡ (a && false)
no_more true = refl
no_more false = refl

-- For owner_is: by the CronJob that the Job names, if it names one.
owner_from : (job : Job) (q : Place) (named : Option (List ℕ))
    → is_owner (option_map (λ name. place job.key.namespace name) named) q
    ≡ (bytes_eq job.key.namespace q.namespace && names q.name named)
owner_from job q None = no_more (bytes_eq job.key.namespace q.namespace)
owner_from job q (Some n) =
    both_tie (slice_cmp nat_cmp job.key.namespace q.namespace) (slice_cmp nat_cmp n q.name)
    ∙ ap (λ b. b && is_eq (slice_cmp nat_cmp n q.name)) (sym (texts_ties job.key.namespace q.namespace))
    ∙ ap (λ b. bytes_eq job.key.namespace q.namespace && b) (sym (texts_ties n q.name))

-- The owner that a Job names is the CronJob of a key just where the Job is one of that CronJob's.
pub owner_is : (job : Job) (q : Place) → is_owner (owner_of job) q ≡ is_job_of q job
owner_is job q = owner_from job q (cron_of job)

-- The owner of a Job that may be there is the CronJob of a key just where the Job is there and one of that CronJob's.
pub owned_is : (there : Option Job) (q : Place) → is_owner (owner_at there) q ≡ is_owned q there
owned_is None q = refl
owned_is (Some job) q = owner_is job q

-- A Job that may be there, of a Job's key and owner references, is one of the same CronJobs.
pub owned_from : (job : Job) (there : Option Job) (q : Place) → option_map (λ (j : Job). j.key) there ≡ Some job.key
    → option_map (λ (j : Job). j.owners) there ≡ Some job.owners → is_owned q there ≡ is_job_of q job
owned_from job None q e f = absurd (cc e)
owned_from job (Some was) q e f =
    let key : was.key ≡ job.key = cc e in
    let owners : was.owners ≡ job.owners = cc f in
    cc (key, owners)
