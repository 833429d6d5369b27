-- What is written has no float where the kept spec has none.
use Rattle.std.proofs.Common.{◌≡◌, ℕ, List, [], ◌∷◌, map, Bool, true, false, ◌||◌, Option, Some, None, option_map, option_and_then, codes, refl, sym, ap, ◌∙◌, cond}
use Rattle.std.specs.Fmt.{decimal}
use Rattle.std.specs.Ordering.{nat_cmp, match_ordering}
use Rattle.std.specs.declared.cmp.Ordering.{Ordering}
use Rattle.std.specs.declared.cmp.Ordering.TheVariants.{Less, Equal, Greater}
use Rattle.std.specs.Cmp.Lexicographic.{slice_cmp}
use Rattle.serde_json.specs.Data.{Data, boolean, number, string, array, object, unsigned, Members, no_members, member, put}
use Rattle.serde_json.specs.Read.{read}
use Rattle.serde_json.specs.View.{items_of}
use Rattle.serde_json.specs.Written.{has_float, items_have_float, members_have_float}
use Rattle.cj_types.specs.declared.cron.CronJob.{CronJob}
use Rattle.cj_types.specs.declared.cron.CronSpec.{CronSpec}
use Rattle.cj_types.specs.declared.cron.CronStatus.{CronStatus}
use Rattle.cj_types.specs.declared.cron.JobTemplate.{JobTemplate}
use Rattle.cj_types.specs.declared.job.Job.{Job}
use Rattle.cj_types.specs.declared.meta.Meta.{Meta}
use Rattle.cj_types.specs.declared.owners.OwnerRef.{OwnerRef}
use Rattle.cj_types.specs.declared.policy.Outcome.{Outcome}
use Rattle.cj_types.specs.declared.policy.Outcome.TheVariants.{Complete, Failed}
use Rattle.cj_types.specs.Keys.{Place}
use Rattle.cj_types.specs.Printed.{policy_name}
use Rattle.cj_types.specs.Uids.{uid_text}
use Rattle.cj_zone.specs.TimeText.{time_text_of}
use Rattle.cj_json.specs.Parts.{put_some_text, put_some_number, put_some_time, put_some_object, put_some_list, put_labels, label_members, owner_data, unless_float}
use Rattle.cj_json.specs.Objects.{template_data, cron_spec_data, active_data, object_data, cron_data, cron_written, condition, job_status_members, job_data, job_written}

-- members without a float
record Plain : Type 0 where
  pub ms : Members
  pub plain : members_have_float ms ≡ false

-- Where the first and the second of two are false, neither is true.
both : (a b : Bool) → a ≡ false → b ≡ false → (a || b) ≡ false
both true b h k = h
both false b h k = k

-- Where neither of two is true, the first is false.
left : (a b : Bool) → (a || b) ≡ false → a ≡ false
left true b h = absurd (cc h)
left false b h = refl

-- Where neither of two is true, the second is false.
right : (a b : Bool) → (a || b) ≡ false → b ≡ false
right true b h = absurd (cc h)
right false b h = h

-- For put_plain: of three lists of members without a float, the chosen one has none.
placed : (o : Ordering) (a b c : Members) → members_have_float a ≡ false → members_have_float b ≡ false
    → members_have_float c ≡ false → members_have_float (match_ordering o a b c) ≡ false
placed Less a b c ha hb hc = ha
placed Equal a b c ha hb hc = hb
placed Greater a b c ha hb hc = hc

-- Members without a float still have none with a value put in that has none.
put_plain : (k : List ℕ) (d : Data) (ms : Members) → has_float d ≡ false → members_have_float ms ≡ false
    → members_have_float (put k d ms) ≡ false
put_plain k d no_members hd h = both (has_float d) false hd refl
put_plain k d (member l e ms) hd h =
    let he = left (has_float e) (members_have_float ms) h in
    let rest = right (has_float e) (members_have_float ms) h in
    placed (slice_cmp nat_cmp k l) _ _ _ (both (has_float d) _ hd h) (both (has_float d) _ hd rest)
    (both (has_float e) _ he (put_plain k d ms hd rest))

-- ---- members put in

abbrev value : (k : List ℕ) (d : Data) → has_float d ≡ false → Plain → Plain
value k d h p = record { ms = put k d p.ms; plain = put_plain k d p.ms h p.plain }

abbrev text : List ℕ → List ℕ → Plain → Plain
text k s p = value k (string s) refl p

abbrev count : List ℕ → ℕ → Plain → Plain
count k n p = value k (number (unsigned n)) refl p

abbrev truth : List ℕ → Bool → Plain → Plain
truth k b p = value k (boolean b) refl p

abbrev none : Plain
none = record { ms = no_members; plain = refl }

-- Members without a float still have none with a text put in, where there is one.
some_text_plain : (k : List ℕ) (o : Option (List ℕ)) (p : Plain) → members_have_float (put_some_text k o p.ms) ≡ false
some_text_plain k None p = p.plain
some_text_plain k (Some s) p = (text k s p).plain

abbrev some_text : List ℕ → Option (List ℕ) → Plain → Plain
some_text k o p = record { ms = put_some_text k o p.ms; plain = some_text_plain k o p }

-- Members without a float still have none with a count put in, where there is one.
some_count_plain : (k : List ℕ) (o : Option ℕ) (p : Plain) → members_have_float (put_some_number k o p.ms) ≡ false
some_count_plain k None p = p.plain
some_count_plain k (Some n) p = (count k n p).plain

abbrev some_count : List ℕ → Option ℕ → Plain → Plain
some_count k o p = record { ms = put_some_number k o p.ms; plain = some_count_plain k o p }

-- Members without a float still have none with a time put in, where there is one.
some_time_plain : (k : List ℕ) (o : Option ℕ) (p : Plain) → members_have_float (put_some_time k o p.ms) ≡ false
some_time_plain k None p = p.plain
some_time_plain k (Some t) p = (text k (time_text_of t) p).plain

abbrev some_time : List ℕ → Option ℕ → Plain → Plain
some_time k o p = record { ms = put_some_time k o p.ms; plain = some_time_plain k o p }

-- Members without a float still have none with an object put in that has none, unless it is empty.
some_object_plain : (k : List ℕ) (inner : Members) (p : Plain) → members_have_float inner ≡ false
    → members_have_float (put_some_object k inner p.ms) ≡ false
some_object_plain k no_members p h = p.plain
some_object_plain k (member l e ms) p h = (value k (object (member l e ms)) h p).plain

abbrev some_object : List ℕ → Plain → Plain → Plain
some_object k inner p = record {
  ms = put_some_object k inner.ms p.ms;
  plain = some_object_plain k inner.ms p inner.plain;
}

-- The items that are written of a list have no float where none that is written alone has one.
items_plain : {A : Type 0} (f : A → Data) → ((a : A) → has_float (f a) ≡ false) → (xs : List A)
    → items_have_float (items_of (map f xs)) ≡ false
items_plain f h [] = refl
items_plain f h (x ∷ xs) = both (has_float (f x)) _ (h x) (items_plain f h xs)

-- Members without a float still have none with a list put in whose items have none.
some_list_plain : {A : Type 0} (k : List ℕ) (f : A → Data) (h : (a : A) → has_float (f a)
    ≡ false) (xs : List A) (p : Plain) → members_have_float (put_some_list k (map f xs) p.ms) ≡ false
some_list_plain k f h [] p = p.plain
some_list_plain k f h (x ∷ xs) p = (value k (array (items_of (map f (x ∷ xs)))) (items_plain f h (x ∷ xs)) p).plain

abbrev some_list : {A : Type 0} (k : List ℕ) (f : A → Data) (h : (a : A) → has_float (f a) ≡ false) (xs : List A)
    → Plain → Plain
some_list k f h xs p = record { ms = put_some_list k (map f xs) p.ms; plain = some_list_plain k f h xs p }

-- Members without a float still have none with the texts of labels put in one after another.
labels_plain : (ls : List (List ℕ × List ℕ)) (p : Plain) → members_have_float (label_members p.ms ls) ≡ false
labels_plain [] p = p.plain
labels_plain (l ∷ ls) p = labels_plain ls (text l.0 l.1 p)

-- Members without a float still have none with an object of labels put in, where there are any.
put_labels_plain : (k : List ℕ) (ls : List (List ℕ × List ℕ)) (p : Plain)
    → members_have_float (put_labels k ls p.ms) ≡ false
put_labels_plain k [] p = p.plain
put_labels_plain k (l ∷ ls) p = (value k (object (label_members no_members (l ∷ ls)))
    (labels_plain (l ∷ ls) none) p).plain

abbrev labels : List ℕ → List (List ℕ × List ℕ) → Plain → Plain
labels k ls p = record { ms = put_labels k ls p.ms; plain = put_labels_plain k ls p }

-- ---- the parts of an object

-- A written owner reference has no float.
owner_plain : (o : OwnerRef) → has_float (owner_data o) ≡ false
owner_plain o =
    (text (codes "uid") o.uid (text (codes "name") o.name
    (text (codes "kind") o.kind (truth (codes "controller") o.controller
    (truth (codes "blockOwnerDeletion") o.block_owner_deletion (text (codes "apiVersion") o.api_version none)))))).plain

abbrev metadata : Place → Meta → List OwnerRef → Plain
metadata key meta owners =
    some_list (codes "ownerReferences") owner_data owner_plain owners (
    labels (codes "labels") meta.labels (
    labels (codes "annotations") meta.annotations (
    text (codes "uid") (uid_text meta.uid) (
    text (codes "resourceVersion") (decimal meta.version) (
    text (codes "namespace") key.namespace (
    text (codes "name") key.name (
    count (codes "generation") meta.generation (
    text (codes "creationTimestamp") (time_text_of meta.created) none))))))))

-- A written object has no float where its metadata, its spec and its status have none.
whole_plain : (kind : List ℕ) (meta : Plain) (spec : Data) (status : Plain) → has_float spec ≡ false
    → has_float (object_data kind meta.ms spec status.ms) ≡ false
whole_plain kind meta spec status h =
    (some_object (codes "status") status (
    value (codes "spec") spec h (
    value (codes "metadata") (object meta.ms) meta.plain (
    text (codes "kind") kind (
    text (codes "apiVersion") (codes "batch/v1") none))))).plain

-- A written template has no float where the Job's spec in it has none.
template_plain : (t : JobTemplate) (job : Data) → has_float job ≡ false → has_float (template_data t job) ≡ false
template_plain t job h =
    (some_object (codes "metadata") (labels (codes "labels") t.labels (labels (codes "annotations") t.annotations none))
    (value (codes "spec") job h none)).plain

-- The written spec of a CronJob has no float where the Job's spec in it has none.
cron_spec_plain : (s : CronSpec) (job : Data) → has_float job ≡ false → has_float (cron_spec_data s job) ≡ false
cron_spec_plain s job h =
    (some_text (codes "timeZone") s.time_zone (
    some_count (codes "startingDeadlineSeconds") s.starting_deadline_seconds (
    truth (codes "suspend") s.suspend (
    count (codes "successfulJobsHistoryLimit") s.successful_limit (
    text (codes "schedule") s.schedule (
    count (codes "failedJobsHistoryLimit") s.failed_limit (
    text (codes "concurrencyPolicy") (policy_name s.policy) (
    value (codes "jobTemplate") (template_data s.template job) (template_plain s.template job h) none)))))))).plain

-- The written reference to a Job that runs has no float.
active_plain : (namespace name : List ℕ) → has_float (active_data namespace name) ≡ false
active_plain namespace name = (text (codes "namespace") namespace
    (text (codes "name") name (text (codes "kind") (codes "Job")
    (text (codes "apiVersion") (codes "batch/v1") none)))).plain

abbrev cron_status : List ℕ → CronStatus → Plain
cron_status namespace status =
    some_time (codes "lastSuccessfulTime") status.last_successful_time (
    some_time (codes "lastScheduleTime") status.last_schedule_time (
    some_list (codes "active") (active_data namespace) (active_plain namespace) status.active none))

abbrev one : List ℕ → Plain
one kind = value (codes "conditions") (array (items_of (condition kind ∷ [])))
    (items_plain condition (λ k. (text (codes "type") k (text (codes "status") (codes "True") none)).plain) (kind ∷ []))
    none

-- The written status of a Job has no float, whatever the outcome is.
job_status : (o : Option Outcome) → members_have_float (job_status_members o) ≡ false
job_status None = refl
job_status (Some (Complete t)) = (text (codes "completionTime") (time_text_of t) (one (codes "Complete"))).plain
job_status (Some Failed) = (one (codes "Failed")).plain

-- ---- the two objects

-- Two values that are the same as found values are the same.
some_same : (a b : Data) → Some a ≡ Some b → a ≡ b
some_same a b h = cc h

-- For kept_plain: what is written of a kept value, where the test finds no float in it, has none.
by_test : (b : Bool) (f : Data → Data) (job d : Data) → has_float job ≡ b
    → ((j : Data) → has_float j ≡ false → has_float (f j) ≡ false) → option_map f (cond b None (Some job)) ≡ Some d
    → has_float d ≡ false
by_test true f job d e h is = absurd (cc is)
by_test false f job d e h is = sym (ap has_float (some_same (f job) d is)) ∙ h job e

-- What is written of a kept value that has no float has none, where that is so for each such value.
kept_plain : (o : Option Data) (f : Data → Data) (d : Data)
    → ((job : Data) → has_float job ≡ false → has_float (f job) ≡ false)
    → option_map f (option_and_then unless_float o) ≡ Some d → has_float d ≡ false
kept_plain None f d h is = absurd (cc is)
kept_plain (Some job) f d h is = by_test (has_float job) f job d refl h is

-- For CronJob::write: what is written of a CronJob has no float.
pub cron_written_plain : (o : CronJob) (d : Data) → cron_written o ≡ Some d → has_float d ≡ false
cron_written_plain o d = kept_plain (read o.spec.template.spec) (cron_data o) d
    (λ job h. whole_plain (codes "CronJob") (metadata o.key o.meta []) (cron_spec_data o.spec job)
    (cron_status o.key.namespace o.status) (cron_spec_plain o.spec job h))

-- For Job::write: what is written of a Job has no float.
pub job_written_plain : (o : Job) (d : Data) → job_written o ≡ Some d → has_float d ≡ false
job_written_plain o d = kept_plain (read o.spec) (job_data o) d
    (λ job h. whole_plain (codes "Job") (metadata o.key o.meta o.owners) job
    (record { ms = job_status_members o.outcome; plain = job_status o.outcome }) h)
