-- What is sent for a call of a sync (Kubernetes API concepts, "Resource URIs").
use Rattle.std.specs.Prelude.{◌≡◌, ◌⊎◌, ℕ, ◌==◌, List, [], ◌∷◌, map, codes, Some, None, if◌then◌else◌}
use Rattle.serde_json.specs.Data.{Data, array}
use Rattle.serde_json.specs.View.{items_of}
use Rattle.cj_zone.specs.TimeText.{time_text_of}
use Rattle.cj_fence.specs.declared.call.Call.{Call}
use Rattle.cj_fence.specs.declared.call.Claim.{Claim}
use Rattle.cj_fence.specs.declared.call.Tidy.{Tidy}
use Rattle.cj_fence.specs.declared.call.Call.TheVariants as Of
use Rattle.cj_fence.specs.declared.objects.Job.{Job}
use Rattle.cj_fence.specs.declared.policy.Policy.{Policy}
use Rattle.cj_fence.specs.declared.policy.Policy.TheVariants.{Allow, Forbid, Replace}
use Rattle.cj_fence.specs.declared.refs.Ref.{Ref}
use Rattle.cj_control.specs.declared.api.ApiVersion.{ApiVersion}
use Rattle.cj_control.specs.declared.created.MarkTexts.{MarkTexts}
use Rattle.cj_control.specs.declared.hold.Hold.{Hold}
use Rattle.cj_control.specs.declared.objects.head.Head.{Head}
use Rattle.cj_control.specs.declared.request.HeldBy.{HeldBy}
use Rattle.cj_control.specs.declared.sent.Request.{Request}
use Rattle.cj_control.specs.declared.sent.Verb.TheVariants as By
use Rattle.cj_control.specs.Created.{created_body}
use Rattle.cj_control.specs.Requests.{claim_body, delete_body, expire_body, reference, start_body, tidy_body}
use Rattle.cj_control.specs.Sent.{IsRequest, cron_path, event_path, events_path, job_path, jobs_path, status_path}

-- ---- names

-- what stands before the slash of NAMESPACE/NAME, and what behind it
abbrev pub namespace_in : List ℕ → List ℕ
namespace_in [] = []
namespace_in (c ∷ cs) = if c == 47 then [] else c ∷ namespace_in cs

abbrev pub name_in : List ℕ → List ℕ
name_in [] = []
name_in (c ∷ cs) = if c == 47 then cs else name_in cs

-- ---- bodies

abbrev pub reference_to : Ref → Data
reference_to r = reference (namespace_in r.name) (name_in r.name) r.uid

-- status.active as sent
-- rule: control-claim
abbrev pub active_data : List Ref → Data
active_data rs = array (items_of (map reference_to rs))

abbrev pub policy_text : Policy → List ℕ
policy_text Allow = codes "Allow"
policy_text Forbid = codes "Forbid"
policy_text Replace = codes "Replace"

-- a created Job says what the call says: its controller's uid, the time and the policy
-- rule: control-created
pub record CreatesIt (n : List ℕ) (j : Job) (body : Data) : Type 0 where
  pub api : ApiVersion
  pub head : Head
  pub marks : MarkTexts
  pub by : HeldBy
  pub template : Data
  pub is : body ≡ created_body api head (name_in n) marks by template
  pub placed : head.namespace ≡ namespace_in n
  pub owner : head.uid ≡ j.owner
  pub time : marks.time ≡ time_text_of j.time
  pub policy : marks.policy ≡ policy_text j.policy

-- ---- requests

abbrev pub GetsCron : List ℕ → Request → Type 0
GetsCron n r = (api : ApiVersion)
    × IsRequest By.Get (cron_path api (namespace_in n) (name_in n)) None r

abbrev pub GetsJob : List ℕ → Request → Type 0
GetsJob n r = IsRequest By.Get (job_path (namespace_in n) (name_in n)) None r

abbrev pub PatchesStatus : List ℕ → Data → Request → Type 0
PatchesStatus n body r = (api : ApiVersion)
    × IsRequest By.MergePatch (status_path api (namespace_in n) (name_in n)) (Some body) r

abbrev pub ClaimsIt : Claim → Request → Type 0
ClaimsIt w r =
    PatchesStatus w.name (claim_body w.uid w.version w.time (active_data w.active) w.success) r

abbrev pub TidiesIt : Tidy → Request → Type 0
TidiesIt w r =
    PatchesStatus w.name (tidy_body w.uid w.version (active_data w.active) w.success) r

abbrev pub PostsJob : List ℕ → Job → Request → Type 0
PostsJob n j r = (body : Data) × CreatesIt n j body
    × IsRequest By.Post (jobs_path (namespace_in n)) (Some body) r

abbrev pub StartsJob : Ref → Request → Type 0
StartsJob job r = (hold : Hold) × (suspend : Data) × (parallelism : Data)
    × IsRequest By.JsonPatch (job_path (namespace_in job.name) (name_in job.name))
    (Some (start_body job.uid hold suspend parallelism)) r

abbrev pub DeletesJob : Ref → Data → Request → Type 0
DeletesJob job body r =
    IsRequest By.Delete (job_path (namespace_in job.name) (name_in job.name)) (Some body) r

-- the request that says what a call is; what a cache is asked isn't sent
-- rule: control-requests
abbrev pub IsSentFor : Call → Request → Type 0
IsSentFor (Of.GetCron n) r = GetsCron n r
IsSentFor (Of.GetJob n) r = GetsJob n r
IsSentFor (Of.Create n j) r = PostsJob n j r
IsSentFor (Of.Claim w) r = ClaimsIt w r
IsSentFor (Of.Tidy w) r = TidiesIt w r
IsSentFor (Of.Start job) r = StartsJob job r
IsSentFor (Of.Delete job) r = DeletesJob job (delete_body job.uid) r
IsSentFor (Of.Expire job version now) r = DeletesJob job (expire_body job.uid version) r
IsSentFor (Of.CacheCron n) r = ⊥
IsSentFor (Of.CacheJob n) r = ⊥
IsSentFor Of.ListJobs r = ⊥

-- a request of no sync reads, or tells an Event, or how often one came
-- rule: control-requests
abbrev pub IsOfNoSync : Request → Type 0
IsOfNoSync r = ((path : List ℕ) × IsRequest By.Get path None r)
    ⊎ (((namespace : List ℕ) × (body : Data)
    × IsRequest By.Post (events_path namespace) (Some body) r)
    ⊎ ((namespace : List ℕ) × (name : List ℕ) × (body : Data)
    × IsRequest By.MergePatch (event_path namespace name) (Some body) r))
