-- The values that are told have no float, so that each has one text.
--     free_as                                  a value is free of floats by what it is
--     neither, mapped, joined, left, right     of two parts, and of lists
--     faults_free, sound_free, plan_free, audit_free     what is told
use Rattle.std.proofs.Common.{◌≡◌, refl, sym, subst, ℕ, List, [], ◌∷◌, ◌++◌, map, Bool, true, false, Option, None, Some}
use Rattle.std.proofs.Math.Bool.{◌||◌}
use Rattle.std.specs.FinMap as map_of
use Rattle.serde_json.specs.Data.{Data, string}
use Rattle.serde_json.specs.View.{items_of}
use Rattle.serde_json.specs.Written.{has_float, items_have_float}
use Rattle.cj_audit.specs.Json.{finding_data, findings_data, job_where, jobs_data as found_jobs, manual_data, manual_jobs, names_data}
use Rattle.cj_audit.specs.Manual.{is_manual}
use Rattle.cj_audit.specs.declared.finding.Finding.{Finding}
use Rattle.cj_audit.specs.declared.kind.FindingKind.{FindingKind}
use Rattle.cj_audit.specs.declared.kind.FindingKind.TheVariants.{Twice, Beside, Undue, Early, Missing, Stray, Stuck}
use Rattle.cj_base.specs.declared.faults.FieldFault.{FieldFault}
use Rattle.cj_cluster.specs.declared.kubectl.list.ClusterList.{ClusterList}
use Rattle.cj_cluster.specs.declared.kubectl.notes.ItemNote.{ItemNote}
use Rattle.cj_cluster.specs.declared.kubectl.object.ObjectNamed.{ObjectNamed}
use Rattle.cj_cluster.specs.declared.kubectl.notes.Said.{Said}
use Rattle.cj_cluster.specs.declared.kubectl.notes.Said.TheVariants as Was
use Rattle.cj_cluster.specs.declared.times.JobTimes.{JobTimes}
use Rattle.cj_decide.specs.declared.start.Claim.{Claim}
use Rattle.cj_decide.specs.declared.steps.Steps.{Steps}
use Rattle.cj_manifest.specs.declared.manifest.Manifest.{Manifest}
use Rattle.cj_status.specs.declared.refs.JobRef.{JobRef}
use Rattle.cj_types.specs.Keys.{place_cmp}
use Rattle.cj_types.specs.Printed.{reason_name}
use Rattle.cj_types.specs.declared.cron.CronStatus.{CronStatus}
use Rattle.cj_types.specs.declared.job.Job.{Job}
use Rattle.cj_types.specs.declared.job.JobDraft.{JobDraft}
use Rattle.cj_types.specs.declared.policy.Reason.{Reason}
use Rattle.cj_json.specs.Values.{time_or_null}
use Rattle.cj_why.specs.reviews.PlanJson.{claim_data, jobs_data, make_data, plan_data, reasons_data, status_data, texts_data}
use Rattle.cj_c.specs.answers.Check.{sound_data}
use Rattle.cj_audit.specs.Audit.{audit_data}
use Rattle.cj_audit.specs.Faults.{fault_data, faults_data}
use Rattle.cj_audit.specs.Items.{other_by, other_items, others_data}
use Rattle.cj_explain.specs.RefusedItems.{item_data, item_object, refused_by, refused_data, refused_items, taken_data}
use Rattle.cj_explain.specs.ToldFaults.{told_data, told_faults}

-- of a value by what it is
pub free_as : (v d : Data) → v ≡ d → has_float d ≡ false → has_float v ≡ false
free_as v d is free = subst (λ (x : Data). has_float x ≡ false) (sym is) free

-- ---- parts and lists

-- of two parts that have none
pub neither : (a b : Bool) → a ≡ false → b ≡ false → (a || b) ≡ false
neither a b first second = subst (λ (x : Bool). (x || b) ≡ false) (sym first) second

-- the first of two, where neither has one
pub left : (a b : Bool) → (a || b) ≡ false → a ≡ false
left false b neither_has = refl
left true b neither_has = neither_has

-- the second of two, where neither has one
pub right : (a b : Bool) → (a || b) ≡ false → b ≡ false
right false b neither_has = neither_has
right true false neither_has = refl
right true true neither_has = neither_has

abbrev pub AreFree : List Data → Type 0
AreFree ds = items_have_float (items_of ds) ≡ false

-- of a list each item of which has none
pub mapped : {X : Type 0} (f : X → Data) → ((x : X) → has_float (f x) ≡ false) → (xs : List X) → AreFree (map f xs)
mapped f each [] = refl
mapped f each (x ∷ xs) = neither (has_float (f x)) _ (each x) (mapped f each xs)

-- of two lists, one after the other
pub joined : (ds es : List Data) → AreFree ds → AreFree es → AreFree (ds ++ es)
joined [] es first second = second
joined (d ∷ ds) es first second =
    neither (has_float d) _ (left (has_float d) _ first) (joined ds es (right (has_float d) _ first) second)

-- ---- faults and manifests

-- of faults by their fields and causes
pub faults_free : (fs : List FieldFault) → has_float (faults_data fs) ≡ false
faults_free fs = mapped fault_data (λ f. refl) fs

-- of faults in words too
pub told_free : (fs : List FieldFault) → has_float (told_faults fs) ≡ false
told_free fs = mapped told_data (λ f. refl) fs

-- of texts in their order
pub texts_free : (ts : List (List ℕ)) → has_float (texts_data ts) ≡ false
texts_free ts = mapped string (λ t. refl) ts

-- of a manifest without a fault
pub sound_free : (m : Manifest) (ws : List (List ℕ)) → has_float (sound_data m ws) ≡ false
sound_free m ws = neither (has_float (texts_data ws)) false (texts_free ws) refl

-- ---- a plan

-- of a time, or none
pub time_free : (t : Option ℕ) → has_float (time_or_null t) ≡ false
time_free None = refl
time_free (Some t) = refl

-- of the claimed time
pub claim_free : (c : Option Claim) → has_float (claim_data c) ≡ false
claim_free None = refl
claim_free (Some c) = refl

-- of the name of the Job that is made
pub make_free : (d : Option JobDraft) → has_float (make_data d) ≡ false
make_free None = refl
make_free (Some d) = refl

-- of the names of Jobs
pub jobs_free : (js : List JobRef) → has_float (jobs_data js) ≡ false
jobs_free js = mapped (λ (job : JobRef). string job.key.name) (λ job. refl) js

-- of the reasons
pub reasons_free : (rs : List Reason) → has_float (reasons_data rs) ≡ false
reasons_free rs = mapped (λ (reason : Reason). string (reason_name reason)) (λ reason. refl) rs

-- of the status at the end
pub status_free : (s : Option CronStatus) → has_float (status_data s) ≡ false
status_free None = refl
status_free (Some s) =
    neither (has_float (texts_data s.active)) _ (texts_free s.active)
    (neither (has_float (time_or_null s.last_schedule_time)) _ (time_free s.last_schedule_time)
    (neither (has_float (time_or_null s.last_successful_time)) false (time_free s.last_successful_time) refl))

-- of a plan
pub plan_free : (p : Steps) → has_float (plan_data p) ≡ false
plan_free p =
    neither (has_float (claim_data p.claim)) _ (claim_free p.claim)
    (neither (has_float (jobs_data p.cleanup)) _ (jobs_free p.cleanup)
    (neither (has_float (jobs_data p.drop_first)) _ (jobs_free p.drop_first)
    (neither (has_float (make_data p.make)) _ (make_free p.make)
    (neither (has_float (time_or_null p.next)) _ (time_free p.next)
    (neither (has_float (reasons_data p.reasons)) _ (reasons_free p.reasons)
    (neither (has_float (status_data p.status)) false (status_free p.status) refl))))))

-- ---- an audit

-- of the name of a Job, or of both
pub names_free : (first : List ℕ) (second : Option (List ℕ)) → has_float (names_data first second) ≡ false
names_free first None = refl
names_free first (Some second) = refl

-- of those that a finding names
pub found_free : (kind : FindingKind) (first : List ℕ) (second : Option (List ℕ))
    → has_float (found_jobs kind first second) ≡ false
found_free Twice first second = names_free first second
found_free (Beside e) first second = names_free first second
found_free Undue first second = names_free first second
found_free Early first second = names_free first second
found_free Stray first second = names_free first second
found_free Missing first second = refl
found_free Stuck first second = refl

-- of a finding
pub finding_free : (f : Finding) → has_float (finding_data f) ≡ false
finding_free f =
    neither (has_float (found_jobs f.kind f.first f.second)) false (found_free f.kind f.first f.second) refl

-- of findings
pub findings_free : (fs : List Finding) → has_float (findings_data fs) ≡ false
findings_free fs = mapped finding_data finding_free fs

-- of a Job, if somebody made it by hand
pub where_free : (b : Bool) (job : Job) → AreFree (job_where b job)
where_free false job = refl
where_free true job = refl

-- of the Jobs that somebody made by hand
pub manual_free : (times : map_of.FinMap place_cmp JobTimes) (jobs : List Job) → AreFree (manual_jobs times jobs)
manual_free times [] = refl
manual_free times (job ∷ jobs) =
    joined (job_where (is_manual times job) job) _ (where_free (is_manual times job) job) (manual_free times jobs)

-- of an item with its faults
pub item_free : (n : ℕ) (named : Option ObjectNamed) (faults : Data) → has_float faults ≡ false
    → has_float (item_object n named faults) ≡ false
item_free n None faults h = neither (has_float faults) false h refl
item_free n (Some o) faults h = neither (has_float faults) false h refl

-- of what an item is refused for
pub refused_by_free : (n : ℕ) (named : Option ObjectNamed) (said : Said) → AreFree (refused_by n named said)
refused_by_free n named (Was.Kind kind) = refl
refused_by_free n named (Was.Refused faults) =
    neither (has_float (item_data n named faults)) false (item_free n named (told_faults faults) (told_free faults))
    refl
refused_by_free n named (Was.Taken kind key) =
    neither (has_float (taken_data n named kind key)) false (item_free n named _ refl) refl

-- of the items that are refused
pub refused_free : (notes : List ItemNote) → AreFree (refused_items notes)
refused_free [] = refl
refused_free (note ∷ notes) =
    joined (refused_by note.place note.object note.said) _ (refused_by_free note.place note.object note.said)
    (refused_free notes)

-- of an item of another kind
pub other_by_free : (n : ℕ) (said : Said) → AreFree (other_by n said)
other_by_free n (Was.Kind kind) = refl
other_by_free n (Was.Refused faults) = refl
other_by_free n (Was.Taken kind key) = refl

-- of the items of other kinds
pub others_free : (notes : List ItemNote) → AreFree (other_items notes)
others_free [] = refl
others_free (note ∷ notes) =
    joined (other_by note.place note.said) _ (other_by_free note.place note.said) (others_free notes)

-- of an audit
pub audit_free : (list : ClusterList) (fs : List Finding)
    → has_float (audit_data list fs (refused_data list.notes)) ≡ false
audit_free list fs =
    neither (has_float (findings_data fs)) _ (findings_free fs)
    (neither (has_float (manual_data list.cluster.times (map_of.values list.cluster.jobs))) _
    (manual_free list.cluster.times (map_of.values list.cluster.jobs))
    (neither (has_float (others_data list.notes)) _ (others_free list.notes)
    (neither (has_float (refused_data list.notes)) false (refused_free list.notes) refl)))
