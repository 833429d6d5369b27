-- The values that are told nest a few levels deep, so that their texts read back.
--     within_as                                a value's depth by what it is
--     least, up, mapped, joined                of numbers and of lists
--     faults_within, sound_within, plan_within, audit_within     what is told
use Rattle.std.proofs.Common.{◌≡◌, sym, subst, ℕ, suc, ◌≤◌, List, [], ◌∷◌, ◌++◌, map, Bool, true, false, Option, None, Some, arith}
use Rattle.std.proofs.Math.Nat.{le-max_left, le-max_right, max-le, le_trans}
use Rattle.std.specs.FinMap as map_of
use Rattle.serde_json.specs.Data.{Data, string, depth, items_depth}
use Rattle.serde_json.specs.View.{items_of}
use Rattle.cj_audit.specs.Json.{finding_data, findings_data, job_where, jobs_data as found_jobs, manual_jobs, names_data}
use Rattle.cj_audit.specs.Manual.{is_manual}
use Rattle.cj_audit.specs.declared.finding.Finding.{Finding}
use Rattle.cj_audit.specs.declared.kind.FindingKind.{FindingKind}
use Rattle.cj_audit.specs.declared.kind.FindingKind.TheVariants.{Twice, Beside, Undue, Early, Missing, Stray, Stuck}
use Rattle.cj_base.specs.declared.faults.FieldFault.{FieldFault}
use Rattle.cj_cluster.specs.declared.kubectl.list.ClusterList.{ClusterList}
use Rattle.cj_cluster.specs.declared.kubectl.notes.ItemNote.{ItemNote}
use Rattle.cj_cluster.specs.declared.kubectl.object.ObjectNamed.{ObjectNamed}
use Rattle.cj_cluster.specs.declared.kubectl.notes.Said.{Said}
use Rattle.cj_cluster.specs.declared.kubectl.notes.Said.TheVariants as Was
use Rattle.cj_cluster.specs.declared.times.JobTimes.{JobTimes}
use Rattle.cj_decide.specs.declared.start.Claim.{Claim}
use Rattle.cj_decide.specs.declared.steps.Steps.{Steps}
use Rattle.cj_manifest.specs.declared.manifest.Manifest.{Manifest}
use Rattle.cj_status.specs.declared.refs.JobRef.{JobRef}
use Rattle.cj_types.specs.Keys.{place_cmp}
use Rattle.cj_types.specs.Printed.{reason_name}
use Rattle.cj_types.specs.declared.cron.CronStatus.{CronStatus}
use Rattle.cj_types.specs.declared.job.Job.{Job}
use Rattle.cj_types.specs.declared.job.JobDraft.{JobDraft}
use Rattle.cj_types.specs.declared.policy.Reason.{Reason}
use Rattle.cj_json.specs.Values.{time_or_null}
use Rattle.cj_why.specs.reviews.PlanJson.{claim_data, jobs_data, make_data, plan_data, reasons_data, status_data, texts_data}
use Rattle.cj_c.specs.answers.Check.{sound_data}
use Rattle.cj_audit.specs.Audit.{audit_data}
use Rattle.cj_audit.specs.Faults.{fault_data, faults_data}
use Rattle.cj_audit.specs.Items.{other_by, other_items}
use Rattle.cj_explain.specs.RefusedItems.{item_object, refused_by, refused_data, refused_items}
use Rattle.cj_explain.specs.ToldFaults.{told_data, told_faults}

-- of a value by what it is
pub within_as : (k : ℕ) (v d : Data) → v ≡ d → depth d ≤ k → depth v ≤ k
within_as k v d is within = subst (λ (x : Data). depth x ≤ k) (sym is) within

-- ---- numbers and lists

-- no bound is below the depth of a text
pub least : (k : ℕ) → 0 ≤ k
least k = omega arith

-- one level more
pub up : (k n : ℕ) → n ≤ k → suc n ≤ suc k
up k n h = omega arith

abbrev pub AreWithin : ℕ → List Data → Type 0
AreWithin k ds = items_depth (items_of ds) ≤ k

-- of a list each item of which is within the bound
pub mapped : {X : Type 0} (k : ℕ) (f : X → Data) → ((x : X) → depth (f x) ≤ k) → (xs : List X) → AreWithin k (map f xs)
mapped k f each [] = least k
mapped k f each (x ∷ xs) = max-le (each x) (mapped k f each xs)

-- of two lists, one after the other
pub joined : (k : ℕ) (ds es : List Data) → AreWithin k ds → AreWithin k es → AreWithin k (ds ++ es)
joined k [] es first second = second
joined k (d ∷ ds) es first second =
    max-le (le_trans (le-max_left (depth d) (items_depth (items_of ds))) first)
    (joined k ds es (le_trans (le-max_right (depth d) (items_depth (items_of ds))) first) second)

-- ---- faults and manifests

-- of faults
pub faults_within : (k : ℕ) (fs : List FieldFault) → depth (faults_data fs) ≤ suc (suc k)
faults_within k fs =
    up (suc k) _ (mapped (suc k) fault_data (λ f. up k _ (max-le (least k) (max-le (least k) (least k)))) fs)

-- of faults in words too
pub told_within : (k : ℕ) (fs : List FieldFault) → depth (told_faults fs) ≤ suc (suc k)
told_within k fs =
    up (suc k) _ (mapped (suc k) told_data
    (λ f. up k _ (max-le (least k) (max-le (least k) (max-le (least k) (least k))))) fs)

-- of texts in their order
pub texts_within : (k : ℕ) (ts : List (List ℕ)) → depth (texts_data ts) ≤ suc k
texts_within k ts = up k _ (mapped k string (λ t. least k) ts)

-- of a manifest without a fault
pub sound_within : (m : Manifest) (ws : List (List ℕ)) → depth (sound_data m ws) ≤ 127
sound_within m ws =
    up 126 _ (max-le (least 126) (max-le (least 126) (max-le (least 126) (max-le (texts_within 125 ws) (least 126)))))

-- ---- a plan

-- of a time, or none
pub time_within : (k : ℕ) (t : Option ℕ) → depth (time_or_null t) ≤ k
time_within k None = least k
time_within k (Some t) = least k

-- of the claimed time
pub claim_within : (k : ℕ) (c : Option Claim) → depth (claim_data c) ≤ k
claim_within k None = least k
claim_within k (Some c) = least k

-- of the name of the Job that is made
pub make_within : (k : ℕ) (d : Option JobDraft) → depth (make_data d) ≤ k
make_within k None = least k
make_within k (Some d) = least k

-- of the names of Jobs
pub jobs_within : (k : ℕ) (js : List JobRef) → depth (jobs_data js) ≤ suc k
jobs_within k js = up k _ (mapped k (λ (job : JobRef). string job.key.name) (λ job. least k) js)

-- of the reasons
pub reasons_within : (k : ℕ) (rs : List Reason) → depth (reasons_data rs) ≤ suc k
reasons_within k rs = up k _ (mapped k (λ (reason : Reason). string (reason_name reason)) (λ reason. least k) rs)

-- of the status at the end
pub status_within : (k : ℕ) (s : Option CronStatus) → depth (status_data s) ≤ suc (suc k)
status_within k None = least (suc (suc k))
status_within k (Some s) =
    up (suc k) _ (max-le (texts_within k s.active)
    (max-le (time_within (suc k) s.last_schedule_time)
    (max-le (time_within (suc k) s.last_successful_time) (least (suc k)))))

-- of a plan
pub plan_within : (k : ℕ) (p : Steps) → depth (plan_data p) ≤ suc (suc (suc k))
plan_within k p =
    up (suc (suc k)) _ (max-le (claim_within (suc (suc k)) p.claim) (max-le (jobs_within (suc k) p.cleanup)
    (max-le (jobs_within (suc k) p.drop_first)
    (max-le (make_within (suc (suc k)) p.make) (max-le (time_within (suc (suc k)) p.next)
    (max-le (reasons_within (suc k) p.reasons)
    (max-le (status_within k p.status) (least (suc (suc k))))))))))

-- ---- an audit

-- of the name of a Job, or of both
pub names_within : (k : ℕ) (first : List ℕ) (second : Option (List ℕ)) → depth (names_data first second) ≤ suc k
names_within k first None = up k _ (max-le (least k) (least k))
names_within k first (Some second) = up k _ (max-le (least k) (max-le (least k) (least k)))

-- of those that a finding names
pub found_within : (k : ℕ) (kind : FindingKind) (first : List ℕ) (second : Option (List ℕ))
    → depth (found_jobs kind first second) ≤ suc k
found_within k Twice first second = names_within k first second
found_within k (Beside e) first second = names_within k first second
found_within k Undue first second = names_within k first second
found_within k Early first second = names_within k first second
found_within k Stray first second = names_within k first second
found_within k Missing first second = up k _ (least k)
found_within k Stuck first second = up k _ (least k)

-- of a finding
pub finding_within : (k : ℕ) (f : Finding) → depth (finding_data f) ≤ suc (suc k)
finding_within k f =
    up (suc k) _ (max-le (least (suc k)) (max-le (found_within k f.kind f.first f.second)
    (max-le (least (suc k)) (max-le (least (suc k)) (max-le (least (suc k)) (least (suc k)))))))

-- of findings
pub findings_within : (k : ℕ) (fs : List Finding) → depth (findings_data fs) ≤ suc (suc (suc k))
findings_within k fs = up (suc (suc k)) _ (mapped (suc (suc k)) finding_data (finding_within k) fs)

-- of a Job, if somebody made it by hand
pub where_within : (k : ℕ) (b : Bool) (job : Job) → AreWithin (suc k) (job_where b job)
where_within k false job = least (suc k)
where_within k true job = max-le (up k _ (max-le (least k) (max-le (least k) (least k)))) (least (suc k))

-- of the Jobs that somebody made by hand
pub manual_within : (k : ℕ) (times : map_of.FinMap place_cmp JobTimes) (jobs : List Job)
    → AreWithin (suc k) (manual_jobs times jobs)
manual_within k times [] = least (suc k)
manual_within k times (job ∷ jobs) =
    joined (suc k) (job_where (is_manual times job) job) _ (where_within k (is_manual times job) job)
    (manual_within k times jobs)

-- of an item with its faults
pub item_within : (k n : ℕ) (named : Option ObjectNamed) (faults : Data) → depth faults ≤ k
    → depth (item_object n named faults) ≤ suc k
item_within k n None faults h =
    up k _ (max-le h (max-le (least k) (max-le (least k) (max-le (least k) (max-le (least k) (least k))))))
item_within k n (Some o) faults h =
    up k _ (max-le h (max-le (least k) (max-le (least k) (max-le (least k) (max-le (least k) (least k))))))

-- of what an item is refused for
pub refused_by_within : (k n : ℕ) (named : Option ObjectNamed) (said : Said)
    → AreWithin (suc (suc (suc k))) (refused_by n named said)
refused_by_within k n named (Was.Kind kind) = least (suc (suc (suc k)))
refused_by_within k n named (Was.Refused faults) =
    max-le (item_within (suc (suc k)) n named _ (told_within k faults)) (least (suc (suc (suc k))))
refused_by_within k n named (Was.Taken kind key) =
    max-le (item_within (suc (suc k)) n named _ (up (suc k) _ (max-le
    (up k _ (max-le (least k) (max-le (least k) (max-le (least k) (least k))))) (least (suc k)))))
    (least (suc (suc (suc k))))

-- of the items that are refused
pub refused_within : (k : ℕ) (notes : List ItemNote) → AreWithin (suc (suc (suc k))) (refused_items notes)
refused_within k [] = least (suc (suc (suc k)))
refused_within k (note ∷ notes) =
    joined (suc (suc (suc k))) (refused_by note.place note.object note.said) _
    (refused_by_within k note.place note.object note.said) (refused_within k notes)

-- of an item of another kind
pub other_by_within : (k n : ℕ) (said : Said) → AreWithin (suc k) (other_by n said)
other_by_within k n (Was.Kind kind) = max-le (up k _ (max-le (least k) (max-le (least k) (least k)))) (least (suc k))
other_by_within k n (Was.Refused faults) = least (suc k)
other_by_within k n (Was.Taken kind key) = least (suc k)

-- of the items of other kinds
pub others_within : (k : ℕ) (notes : List ItemNote) → AreWithin (suc k) (other_items notes)
others_within k [] = least (suc k)
others_within k (note ∷ notes) =
    joined (suc k) (other_by note.place note.said) _ (other_by_within k note.place note.said) (others_within k notes)

-- of an audit
pub audit_within : (list : ClusterList) (fs : List Finding)
    → depth (audit_data list fs (refused_data list.notes)) ≤ 127
audit_within list fs =
    up 126 _ (max-le (least 126) (max-le (findings_within 123 fs) (max-le (least 126)
    (max-le (up 125 _ (manual_within 124 list.cluster.times (map_of.values list.cluster.jobs)))
    (max-le (up 125 _ (others_within 124 list.notes))
    (max-le (up 125 _ (refused_within 122 list.notes)) (least 126)))))))
