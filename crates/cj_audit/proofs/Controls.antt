-- Whether a CronJob of the cluster controls a Job is told by the one at the key that the Job's reference names.
use Rattle.std.proofs.Common.{◌≡◌, ℕ, Bool, true, false, cond, List, Option, Some, None, refl, sym, ◌∙◌, subst, arith}
use Rattle.std.specs.Prelude.{IsTrue, is_none, nat_lt}
use Rattle.std.specs.Str.{bytes_eq}
use Rattle.std.proofs.lemmas.Slice.Eq.{bytes_eq-Decides}
use Rattle.std.proofs.lemmas.Bool.Decides.{nat_tests}
use Rattle.cj_base.specs.declared.cause.Cause.TheVariants.{TooLong, Format}
use Rattle.std.specs.FinMap as map
use Rattle.cj_types.specs.Keys.{Place, place, place_cmp, is_place}
use Rattle.cj_types.specs.Names.{longest, longest_cron, char_len, name_cause, namespace_cause, is_subdomain}
use Rattle.cj_types.specs.Objects.{cron_of}
use Rattle.cj_types.specs.declared.job.Job.{Job}
use Rattle.cj_types.specs.Owners.{controller_of}
use Rattle.cj_table.specs.jobs.Owners.{is_job_of, names}
use Rattle.cj_table.proofs.Order.{places_total}
use Rattle.cj_cluster.specs.declared.cron.ClusterCron.{ClusterCron}
use Rattle.cj_cluster.specs.Content.{Content, IsSound, has_uid, is_of}
use Rattle.cj_audit.specs.Findings.{has_cron}
use Rattle.cj_audit.specs.Places.{AreShort, place_if}
use Rattle.cj_audit.proofs.InMaps.{found_in, in_found}
use Rattle.cj_audit.proofs.Members.{IsIn, any_false, any_true, in_all}
use Rattle.cj_audit.proofs.PairsIn.{first_of, second_of}

-- the key of the CronJob is well formed
abbrev pub IsShort : ClusterCron → Type 0
IsShort c = IsTrue (is_place longest_cron c.cron.key)

-- For key_is: a name that is named is the one that the reference has.
named_is : (name text : List ℕ) (o : Option (List ℕ)) → o ≡ Some text → names name o ≡ true → text ≡ name
named_is name text o e h =
    (bytes_eq-Decides text name).0 (subst (λ x. names name x ≡ true) e h)

-- A CronJob that controls a Job stands at the key that the Job's reference names.
key_is : (c : ClusterCron) (job : Job) (name : List ℕ) → cron_of job ≡ Some name → is_of c job ≡ true
    → c.cron.key ≡ place job.key.namespace name
key_is c job name named h =
    let of : is_job_of c.cron.key job ≡ true = first_of (is_job_of c.cron.key job)
    (has_uid c.uid (controller_of job.owners)) h in
    let beside : job.key.namespace ≡ c.cron.key.namespace = (bytes_eq-Decides job.key.namespace c.cron.key.namespace).0
    (first_of (bytes_eq job.key.namespace c.cron.key.namespace) (names c.cron.key.name (cron_of job)) of) in
    let same : name ≡ c.cron.key.name = named_is c.cron.key.name name (cron_of job) named
    (second_of (bytes_eq job.key.namespace c.cron.key.namespace) (names c.cron.key.name (cron_of job)) of) in
    λ i. record { namespace = sym beside i; name = sym same i }

-- A CronJob that controls a Job is found at the key that the Job's reference names.
controls_at : (content : Content) (c : ClusterCron) (job : Job) (name : List ℕ) → IsSound content
    → cron_of job ≡ Some name → IsIn c (map.values content.crons) → is_of c job ≡ true
    → map.get content.crons (place job.key.namespace name) ≡ Some c
controls_at content c job name sound named i h =
    let at = in_found place_cmp places_total content.crons c i in
    let key : at.0 ≡ place job.key.namespace name = sym (sound.crons_keyed at.0 c at.1) ∙ key_is c job name named h in
    subst (λ k. map.get content.crons k ≡ Some c) key at.1

-- For has_cron: where nothing is at that key, no CronJob controls the Job.
pub none_there : (content : Content) (job : Job) (name : List ℕ) → IsSound content → cron_of job ≡ Some name
    → map.get content.crons (place job.key.namespace name) ≡ None → has_cron content job ≡ false
none_there content job name sound named none =
    any_false (λ c. is_of c job) (map.values content.crons)
    (λ c i h. let at = controls_at content c job name sound named i h in cc (at, none))

-- For has_cron: the CronJob at that key is the only one that can control the Job.
pub one_there : (content : Content) (c : ClusterCron) (job : Job) (name : List ℕ) → IsSound content
    → cron_of job ≡ Some name → map.get content.crons (place job.key.namespace name) ≡ Some c
    → has_cron content job ≡ is_of c job
one_there content c job name sound named there = by (is_of c job) refl
  where
    by : (b : Bool) → is_of c job ≡ b → has_cron content job ≡ b
    by true e = any_true (λ x. is_of x job) c (map.values content.crons)
        (found_in place_cmp content.crons (place job.key.namespace name) c there) e
    by false e = any_false (λ x. is_of x job) (map.values content.crons) (λ x i h.
        let at = controls_at content x job name sound named i h in
        let same : x ≡ c = cc (at, there) in
        let owned : is_of c job ≡ true = subst (λ y. is_of y job ≡ true) same h in
        cc (owned, e))

-- For short_name: a longer limit lets pass what a shorter one does.
shorter : (a b good : Bool) → (b ≡ true → a ≡ true)
    → is_none (cond a (Some TooLong) (cond good None (Some Format))) ≡ true
    → is_none (cond b (Some TooLong) (cond good None (Some Format))) ≡ true
shorter true b good f h = absurd (cc h)
shorter false true good f h = absurd (cc (f refl))
shorter false false good f h = h

-- For short_name: a number above the longer limit is above the shorter.
above : (n : ℕ) → nat_lt longest n ≡ true → nat_lt longest_cron n ≡ true
above n h = grind (arith, nat_tests)

-- A place for a CronJob is a place.
short_place : (k : Place) → is_place longest_cron k ≡ true → is_place longest k ≡ true
short_place k h =
    let name = shorter (nat_lt longest_cron (char_len k.name)) (nat_lt longest (char_len k.name)) (is_subdomain k.name)
    (above (char_len k.name))
    (first_of (is_none (name_cause longest_cron k.name)) (is_none (namespace_cause k.namespace)) h) in
    rw name (second_of (is_none (name_cause longest_cron k.name)) (is_none (namespace_cause k.namespace)) h)

-- For has_cron: where the key is no key, no CronJob controls the Job.
pub none_ill : (content : Content) (job : Job) (name : List ℕ) → AreShort content.crons → cron_of job ≡ Some name
    → place_if job.key.namespace name ≡ None → has_cron content job ≡ false
none_ill content job name short named none =
    any_false (λ c. is_of c job) (map.values content.crons) (λ c i h.
    let formed : is_place longest c.cron.key ≡ true = short_place c.cron.key
    (in_all (λ x. IsTrue (is_place longest_cron x.cron.key)) (map.values content.crons) c short i) in
    let good : is_place longest (place job.key.namespace name) ≡ true =
    subst (λ k. is_place longest k ≡ true) (key_is c job name named h) formed in
    clash (is_place longest (place job.key.namespace name)) (place job.key.namespace name) good none)
  where
    clash : (b : Bool) (k : Place) → b ≡ true → cond b (Some k) None ≡ None → ⊥
    clash true k e h = cc h
    clash false k e h = cc e

-- For has_cron: a key that these texts have is at their place.
pub place_of : (namespace name n m : List ℕ) (k : Place) (o : Option Place) → o ≡ Some k → o ≡ place_if n m
    → n ≡ namespace → m ≡ name → k ≡ place namespace name
place_of namespace name n m k o is some a b =
    by (is_place longest (place n m)) (sym is ∙ some) ∙ λ i. record { namespace = a i; name = b i }
  where
    by : (t : Bool) → Some k ≡ cond t (Some (place n m)) None → k ≡ place n m
    by true h = cc h
    by false h = absurd (cc h)

-- For has_cron: no key, in other words.
pub no_place : (namespace name n m : List ℕ) (o : Option Place) → o ≡ None → o ≡ place_if n m → n ≡ namespace → m ≡ name
    → place_if namespace name ≡ None
no_place namespace name n m o none some a b = rw (← a, ← b) (sym some ∙ none)
