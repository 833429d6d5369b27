-- The requests of a sync: method, path and body (Kubernetes API concepts, "Resource URIs"; HTTP
-- PATCH with a JSON patch or a merge patch).
use Rattle.std.specs.Prelude.{◌≡◌, ◌≢◌, ℕ, ◌<◌, ◌==◌, ◌||◌, All, Bool, IsTrue, List, ◌++◌, codes, Option, Some, None, option_map}
use Rattle.std.specs.Char.{is_ascii_alphanumeric}
use Rattle.percent_encoding.specs.Percent.{percent_decode, percent_encode}
use Rattle.serde_json.specs.Data.{Data, member, no_members, number, object, string, unsigned}
use Rattle.serde_json.specs.View.{view}
use Rattle.cj_control.specs.declared.api.ApiVersion.{ApiVersion}
use Rattle.cj_control.specs.declared.sent.Request.{Request}
use Rattle.cj_control.specs.declared.sent.TheConstants.{SEGMENT}
use Rattle.cj_control.specs.declared.sent.Verb.{Verb}
use Rattle.cj_control.specs.declared.sent.Verb.TheVariants as By
use Rattle.cj_control.specs.Api.{api_text}

-- ---- paths

-- a name as a segment of a path, percent-encoded
-- rule: control-requests
abbrev pub segment : List ℕ → List ℕ
segment name = percent_encode SEGMENT name

-- a letter, a digit, '-', '.', '_' or '~' (RFC 3986, unreserved)
abbrev pub is_unreserved : ℕ → Bool
is_unreserved b = is_ascii_alphanumeric b || ((b == 45 || b == 46) || (b == 95 || b == 126))

-- a name of unreserved characters stays as it is; no segment has a slash, and each says which name
-- it is of
-- rule: control-requests
pub record IsSegment (name : List ℕ) (text : List ℕ) : Type 0 where
  pub same : All (λ b. IsTrue (is_unreserved b)) name → text ≡ name
  pub whole : All (λ b. b ≢ 47) text
  pub back : All (λ b. b < 256) name → percent_decode text ≡ name

abbrev pub SegmentLaw : Type 0
SegmentLaw = (name : List ℕ) → IsSegment name (segment name)

-- the Jobs of a namespace
abbrev pub jobs_path : List ℕ → List ℕ
jobs_path namespace = codes "/apis/batch/v1/namespaces/" ++ (segment namespace ++ codes "/jobs")

-- a Job
-- rule: control-requests
abbrev pub job_path : List ℕ → List ℕ → List ℕ
job_path namespace name =
    codes "/apis/batch/v1/namespaces/" ++ (segment namespace ++ (codes "/jobs/" ++ segment name))

-- a CronJob
-- rule: control-requests
abbrev pub cron_path : ApiVersion → List ℕ → List ℕ → List ℕ
cron_path api namespace name =
    codes "/apis/" ++ (api_text api ++ (codes "/namespaces/"
    ++ (segment namespace ++ (codes "/cronjobs/" ++ segment name))))

-- its subresource status
-- rule: control-requests
abbrev pub status_path : ApiVersion → List ℕ → List ℕ → List ℕ
status_path api namespace name =
    codes "/apis/" ++ (api_text api ++ (codes "/namespaces/"
    ++ (segment namespace ++ (codes "/cronjobs/" ++ (segment name ++ codes "/status")))))

-- the Events of a namespace (v1, Event)
abbrev pub events_path : List ℕ → List ℕ
events_path namespace = codes "/api/v1/namespaces/" ++ (segment namespace ++ codes "/events")

-- an Event
abbrev pub event_path : List ℕ → List ℕ → List ℕ
event_path namespace name =
    codes "/api/v1/namespaces/" ++ (segment namespace ++ (codes "/events/" ++ segment name))

-- of that method, at that path, with that body
-- rule: control-requests
pub record IsRequest (verb : Verb) (path : List ℕ) (body : Option Data) (r : Request) : Type 0 where
  pub verb_is : r.verb ≡ verb
  pub path_is : r.path ≡ path
  pub body_is : option_map view r.body ≡ body

-- ---- as a line

abbrev pub method : Verb → List ℕ
method By.Get = codes "GET"
method By.Post = codes "POST"
method By.MergePatch = codes "PATCH"
method By.JsonPatch = codes "PATCH"
method By.Delete = codes "DELETE"

abbrev pub content_type : Verb → List ℕ
content_type By.Get = codes "application/json"
content_type By.Post = codes "application/json"
content_type By.MergePatch = codes "application/merge-patch+json"
content_type By.JsonPatch = codes "application/json-patch+json"
content_type By.Delete = codes "application/json"

abbrev pub bare : ℕ → List ℕ → List ℕ → Data
bare id method path = object (
    member (codes "id") (number (unsigned id)) (
    member (codes "method") (string method) (
    member (codes "path") (string path) no_members)))

abbrev pub with_body : ℕ → List ℕ → List ℕ → List ℕ → Data → Data
with_body id method path kind body = object (
    member (codes "body") body (
    member (codes "contentType") (string kind) (
    member (codes "id") (number (unsigned id)) (
    member (codes "method") (string method) (
    member (codes "path") (string path) no_members)))))

abbrev pub line_by : ℕ → Verb → List ℕ → Option Data → Data
line_by id verb path None = bare id (method verb) path
line_by id verb path (Some body) = with_body id (method verb) path (content_type verb) body

-- a request under a number
-- rule: control-requests
abbrev pub line : ℕ → Request → Data
line id r = line_by id r.verb r.path (option_map view r.body)

-- ---- as people are shown it

abbrev pub bare_request : List ℕ → List ℕ → Data
bare_request method path = object (
    member (codes "method") (string method) (
    member (codes "path") (string path) no_members))

abbrev pub full_request : List ℕ → List ℕ → List ℕ → Data → Data
full_request method path kind body = object (
    member (codes "body") body (
    member (codes "contentType") (string kind) (
    member (codes "method") (string method) (
    member (codes "path") (string path) no_members))))

abbrev pub request_data_by : Verb → List ℕ → Option Data → Data
request_data_by verb path None = bare_request (method verb) path
request_data_by verb path (Some body) = full_request (method verb) path (content_type verb) body

-- a request, without a number
-- rule: control-coming
abbrev pub request_data : Request → Data
request_data r = request_data_by r.verb r.path (option_map view r.body)
