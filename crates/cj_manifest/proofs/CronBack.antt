-- What is written of the spec and the status of a CronJob reads as it was written.
use Rattle.std.proofs.Common.{◌≡◌, ℕ, suc, ◌^◌, ◌<◌, List, true, codes, Option, Some, None, arith, nat_le, leb-true}
use Rattle.serde_json.specs.Data.{Data}
use Rattle.cj_types.specs.declared.cron.CronSpec.{CronSpec}
use Rattle.cj_types.specs.declared.cron.CronStatus.{CronStatus}
use Rattle.cj_types.specs.declared.cron.JobTemplate.{JobTemplate}
use Rattle.cj_types.specs.Limits.{last_deadline, last_history_limit}
use Rattle.cj_types.specs.Printed.{policy_name}
use Rattle.cj_zone.specs.declared.zone.Zone.{Zone}
use Rattle.cj_json.specs.Parts.{put_some_number}
use Rattle.cj_json.specs.Objects.{template_data, cron_spec_data, active_data}
use Rattle.cj_manifest.proofs.CronRows.{IsWithin}
use Rattle.cj_manifest.proofs.SpecTrip.{IsFineSpec}
use Rattle.cj_manifest.proofs.WrittenBack.{Fits, IsFlat, Are, are, fit, none, value, text, truth, count, flat_object, some_text, some_time, some_object, some_list, labels}

-- ---- the status

-- A written reference to a Job that runs reads back, and nests at most one deep.
pub active_flat : (n : ℕ) (namespace name : List ℕ) → IsFlat (suc n) (active_data namespace name)
active_flat n namespace name = flat_object n (text n (codes "namespace") namespace
    (text n (codes "name") name (text n (codes "kind") (codes "Job")
    (text n (codes "apiVersion") (codes "batch/v1") (none n)))))

abbrev pub cron_status : (n : ℕ) → List ℕ → CronStatus → Fits (suc (suc n))
cron_status n namespace status =
    some_time (suc (suc n)) (codes "lastSuccessfulTime") status.last_successful_time (
    some_time (suc (suc n)) (codes "lastScheduleTime") status.last_schedule_time (
    some_list (suc n) (codes "active") (active_data namespace) (active_flat n namespace) status.active
    (none (suc (suc n)))))

-- ---- the spec

abbrev two : ℕ → ℕ
two n = suc (suc n)

abbrev three : ℕ → ℕ
three n = suc (suc (suc n))

-- A written template reads back where the Job's spec in it does, at most one deeper than that.
template_flat : (n : ℕ) (t : JobTemplate) (job : Data) → IsFlat (two n) job → IsFlat (three n) (template_data t job)
template_flat n t job h =
    flat_object (two n) (
    some_object (suc n) (codes "metadata") (labels n (codes "labels") t.labels
    (labels n (codes "annotations") t.annotations (none (suc n)))) (
    value (two n) (codes "spec") job h (none (two n))))

-- A number up to a limit below 2 ^ 64 is itself below 2 ^ 64.
in_word : (most n : ℕ) → most < 2 ^ 64 → nat_le n most ≡ true → n < 2 ^ 64
in_word most n h k = let le = leb-true n most k in omega (arith, h, le)

-- Members that read back still do with a starting deadline put in, where there is one within range.
some_seconds : (n : ℕ) (k : List ℕ) (o : Option ℕ) → IsWithin last_deadline o → (p : Fits n)
    → Are n (put_some_number k o p.ms)
some_seconds n k None h p = are n p
some_seconds n k (Some c) h p = are n (count n k c (in_word last_deadline c (omega arith) h) p)

-- The written spec of a CronJob that is fine reads back where the Job's spec in it does,
-- at most two deeper than that.
pub cron_spec_flat : (zones : List Zone) (n : ℕ) (s : CronSpec) (job : Data) → IsFineSpec zones s → IsFlat (two n) job
    → IsFlat (suc (three n)) (cron_spec_data s job)
cron_spec_flat zones n s job fine h =
    let m = three n in
    let head =
    text m (codes "schedule") s.schedule (
    count m (codes "failedJobsHistoryLimit") s.failed_limit
    (in_word last_history_limit s.failed_limit (omega arith) fine.failed) (
    text m (codes "concurrencyPolicy") (policy_name s.policy) (
    value m (codes "jobTemplate") (template_data s.template job) (template_flat n s.template job h) (none m)))) in
    let rest =
    truth m (codes "suspend") s.suspend (
    count m (codes "successfulJobsHistoryLimit") s.successful_limit
    (in_word last_history_limit s.successful_limit (omega arith) fine.successful) head) in
    let seconds = fit m (put_some_number (codes "startingDeadlineSeconds") s.starting_deadline_seconds rest.ms)
    (some_seconds m (codes "startingDeadlineSeconds") s.starting_deadline_seconds fine.deadline rest) in
    flat_object m (some_text m (codes "timeZone") s.time_zone seconds)
