-- What is sent for a CronJob: the Job that is created is its template's, and a start gives back
-- what its template says.
use Rattle.std.specs.Prelude.{◌≡◌, ◌⊎◌, ℕ, ◌<◌, ⊤, false, List, codes, Option, Some, None, Ok}
use Rattle.serde_json.specs.Data.{Data, boolean, number, unsigned}
use Rattle.serde_json.specs.View.{view}
use Rattle.cj_base.specs.Instant.{last_second}
use Rattle.cj_zone.specs.TimeText.{time_text_of}
use Rattle.cj_manifest.specs.Members.{present}
use Rattle.cj_cluster.specs.kubectl.Rows.{member_of}
use Rattle.cj_fence.specs.declared.call.Call.{Call}
use Rattle.cj_fence.specs.declared.call.Call.TheVariants as Of
use Rattle.cj_fence.specs.declared.call.Claim.{Claim}
use Rattle.cj_fence.specs.declared.call.Tidy.{Tidy}
use Rattle.cj_fence.specs.declared.objects.Job.{Job}
use Rattle.cj_fence.specs.declared.refs.Ref.{Ref}
use Rattle.cj_control.specs.declared.api.ApiVersion.{ApiVersion}
use Rattle.cj_control.specs.declared.calls.CronParts.{CronParts}
use Rattle.cj_control.specs.declared.created.MarkTexts.{MarkTexts}
use Rattle.cj_control.specs.declared.request.HeldBy.{HeldBy}
use Rattle.cj_control.specs.declared.sent.Request.{Request}
use Rattle.cj_control.specs.declared.sent.Verb.TheVariants as By
use Rattle.cj_control.specs.Created.{created_body, hold_by}
use Rattle.cj_control.specs.Objects.{head, spec}
use Rattle.cj_control.specs.Requests.{claim_body, delete_body, expire_body, start_body, tidy_body}
use Rattle.cj_control.specs.Sent.{IsRequest, cron_path, job_path, jobs_path, status_path}
use Rattle.cj_control.specs.SentFor.{DeletesJob, GetsJob, active_data, name_in, namespace_in, policy_text}

abbrev pub marks_of : CronParts → Job → MarkTexts
marks_of s j = record {
  time = time_text_of j.time;
  policy = policy_text j.policy;
  template = s.mark;
}

-- a Job in a namespace is to be of the CronJob
pub record IsOf (s : CronParts) (namespace : List ℕ) (j : Job) : Type 0 where
  pub placed : s.head.namespace ≡ namespace
  pub owner : s.head.uid ≡ j.owner

-- the Job is the CronJob's, with its template and what the marks add
-- rule: control-created
pub record PostsIt (s : CronParts) (n : List ℕ) (j : Job) (r : Request) : Type 0 where
  pub of : IsOf s (namespace_in n) j
  pub is : IsRequest By.Post (jobs_path (namespace_in n))
      (Some (created_body s.api s.head (name_in n) (marks_of s j) s.by (view s.template))) r

abbrev pub or_data : Data → Option Data → Data
or_data usual None = usual
or_data usual (Some d) = d

-- a member of the spec of the template
abbrev pub template_spec : List ℕ → CronParts → Option Data
template_spec name s = member_of name (present (codes "spec") (view s.template))

-- what the template says of what may hold a Job back: not suspended and one Pod at a time, where it
-- says nothing (JobSpec, defaults)
-- rule: control-start
abbrev pub suspend_of : CronParts → Data
suspend_of s = or_data (boolean false) (template_spec (codes "suspend") s)

-- rule: control-start
abbrev pub parallelism_of : CronParts → Data
parallelism_of s = or_data (number (unsigned 1)) (template_spec (codes "parallelism") s)

-- rule: control-start
abbrev pub StartsIt : CronParts → Ref → Request → Type 0
StartsIt s job r =
    IsRequest By.JsonPatch (job_path (namespace_in job.name) (name_in job.name))
    (Some (start_body job.uid s.hold (suspend_of s) (parallelism_of s))) r

-- ---- exactly what is sent

abbrev pub GetsIt : CronParts → List ℕ → Request → Type 0
GetsIt s n r = IsRequest By.Get (cron_path s.api (namespace_in n) (name_in n)) None r

-- a merge patch of the CronJob's status
abbrev pub PatchesIt : CronParts → List ℕ → Data → Request → Type 0
PatchesIt s n body r =
    IsRequest By.MergePatch (status_path s.api (namespace_in n) (name_in n)) (Some body) r

abbrev pub ClaimsFrom : CronParts → Claim → Request → Type 0
ClaimsFrom s w r =
    PatchesIt s w.name (claim_body w.uid w.version w.time (active_data w.active) w.success) r

abbrev pub TidiesFrom : CronParts → Tidy → Request → Type 0
TidiesFrom s w r =
    PatchesIt s w.name (tidy_body w.uid w.version (active_data w.active) w.success) r

-- the one request of a call, by its CronJob: verb, path and body; what a cache is asked isn't sent
-- rules: control-requests, control-created, control-start
abbrev pub IsExactly : CronParts → Call → Request → Type 0
IsExactly s (Of.GetCron n) r = GetsIt s n r
IsExactly s (Of.GetJob n) r = GetsJob n r
IsExactly s (Of.Create n j) r = PostsIt s n j r
IsExactly s (Of.Claim w) r = ClaimsFrom s w r
IsExactly s (Of.Tidy w) r = TidiesFrom s w r
IsExactly s (Of.Start job) r = StartsIt s job r
IsExactly s (Of.Delete job) r = DeletesJob job (delete_body job.uid) r
IsExactly s (Of.Expire job version now) r = DeletesJob job (expire_body job.uid version) r
IsExactly s (Of.CacheCron n) r = ⊥
IsExactly s (Of.CacheJob n) r = ⊥
IsExactly s Of.ListJobs r = ⊥

-- a time is sent that is past the greatest that is written
abbrev pub IsPast : Option ℕ → Type 0
IsPast None = ⊥
IsPast (Some t) = last_second < t

-- a call without a request: one that a cache is asked, one whose time is past the greatest that is
-- written, and the creation of a Job that isn't to be of the CronJob
-- rule: control-requests
abbrev pub HasNone : CronParts → Call → Type 0
HasNone s (Of.Create n j) = IsOf s (namespace_in n) j → last_second < j.time
HasNone s (Of.Claim w) = (last_second < w.time) ⊎ IsPast w.success
HasNone s (Of.Tidy w) = IsPast w.success
HasNone s (Of.CacheCron n) = ⊤
HasNone s (Of.CacheJob n) = ⊤
HasNone s Of.ListJobs = ⊤
HasNone s call = ⊥

-- ---- what is read of a CronJob

-- what its requests need, as the CronJob says it; the mark is a digest of the template
-- rules: control-created, control-coming
pub record ArePartsOf (api : ApiVersion) (by : HeldBy) (d : Data) (s : CronParts) : Type 0 where
  pub api_is : s.api ≡ api
  pub by_is : s.by ≡ by
  pub hold_is : s.hold ≡ hold_by by
  pub head_is : head d ≡ Ok s.head
  pub template_is : spec (codes "jobTemplate") d ≡ Some (view s.template)
