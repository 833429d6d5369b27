-- What a line says as the answer to a call of a sync (Kubernetes API conventions, "HTTP status
-- codes"; API concepts, "Resource versions").
use Rattle.std.specs.Prelude.{◌≡◌, ℕ, ◌==◌, ◌&&◌, ◌||◌, not, List, codes, bytes_eq, Bool, true, false, if◌then◌else◌, Option, Some, None, option_and_then, is_some, Result, Ok, Err}
use Rattle.serde_json.specs.Data.{Data}
use Rattle.serde_json.specs.Find.{as_str}
use Rattle.cj_base.specs.declared.refusal.Refusal.{Refusal}
use Rattle.cj_fence.specs.declared.answer.Answer.{Answer}
use Rattle.cj_fence.specs.declared.answer.Answer.TheVariants as Is
use Rattle.cj_fence.specs.declared.call.Call.{Call}
use Rattle.cj_fence.specs.declared.call.Call.TheVariants as Of
use Rattle.cj_fence.specs.declared.objects.Cron.{Cron}
use Rattle.cj_fence.specs.declared.objects.Job.{Job}
use Rattle.cj_fence.specs.declared.table.Row.{Row}
use Rattle.cj_fence.specs.Objects.{is_policy, waits}
use Rattle.cj_cluster.specs.kubectl.Rows.{member_of}
use Rattle.cj_control.specs.Objects.{IsCron, IsJob, hold_in, is_text}
use Rattle.cj_control.specs.SentFor.{name_in}
use Rattle.cj_control.specs.declared.line.LineKind.{LineKind}
use Rattle.cj_control.specs.declared.line.LineKind.TheVariants.{Answered, Failed, Told, Clock, Stop}

-- ---- what a body says of itself

-- a text that is a member of an object, where both are there
abbrev pub text_in : List ℕ → Option Data → Option (List ℕ)
text_in name d = option_and_then as_str (member_of name d)

-- a Status (meta/v1, Status): what API servers answer in place of an object. A proxy's own answers
-- are none
-- rule: control-answers
abbrev pub is_status : Option Data → Bool
is_status body = is_text (codes "Status") (text_in (codes "kind") body)

-- what a Status says of the object that it is about (meta/v1, StatusDetails)
abbrev pub detail : List ℕ → Option Data → Option (List ℕ)
detail name body = text_in name (member_of (codes "details") body)

-- a Status that says that the object of that resource and name isn't there
-- rule: control-answers
abbrev pub is_not_found : List ℕ → List ℕ → Option Data → Bool
is_not_found resource name body =
    (is_status body && is_text (codes "NotFound") (text_in (codes "reason") body))
    && (is_text resource (detail (codes "kind") body)
    && is_text name (detail (codes "name") body))

-- a member of an object's metadata that is a text
abbrev pub meta_text : List ℕ → Option Data → Option (List ℕ)
meta_text name body = text_in name (member_of (codes "metadata") body)

-- the object of that uid
-- rule: control-answers
abbrev pub is_object : List ℕ → Option Data → Bool
is_object uid body = is_text uid (meta_text (codes "uid") body)

-- a Status that says that the deletion of the object of that uid succeeded
abbrev pub is_success : List ℕ → Option Data → Bool
is_success uid body =
    (is_status body && is_text (codes "Success") (text_in (codes "status") body))
    && is_text uid (detail (codes "uid") body)

-- such a Status, or the object itself
-- rule: control-answers
abbrev pub is_gone : List ℕ → Option Data → Bool
is_gone uid body = is_success uid body || is_object uid body

-- ---- a refusal

-- the server looked, and refused: 403 Forbidden, 404 Not Found, 409 Conflict or AlreadyExists,
-- 422 Unprocessable Entity
-- rule: control-answers
abbrev pub is_refusal : ℕ → Bool
is_refusal status = (status == 403 || status == 404) || (status == 409 || status == 422)

-- by a Status; else whether the call took effect isn't known
-- rule: control-answers
abbrev pub refused : ℕ → Option Data → Answer
refused status body =
    if is_refusal status && is_status body then Is.Refused else Is.Lost

-- ---- a GET

-- the CronJob of the name that was asked
abbrev pub cron_found : List ℕ → Result (Row Cron) Refusal → Answer
cron_found name (Err e) = Is.Lost
cron_found name (Ok row) = if bytes_eq row.name name then Is.Cron (Some row.object) else Is.Lost

abbrev pub job_found : List ℕ → Result (Row Job) Refusal → Answer
job_found name (Err e) = Is.Lost
job_found name (Ok row) = if bytes_eq row.name name then Is.Job (Some row.object) else Is.Lost

abbrev pub IsCronFound : List ℕ → Option Data → Answer → Type 0
IsCronFound name None a = a ≡ Is.Lost
IsCronFound name (Some d) a =
    (read : Result (Row Cron) Refusal) × IsCron d read × (a ≡ cron_found name read)

abbrev pub IsJobFound : List ℕ → Option Data → Answer → Type 0
IsJobFound name None a = a ≡ Is.Lost
IsJobFound name (Some d) a =
    (read : Result (Row Job) Refusal) × IsJob d read × (a ≡ job_found name read)

-- 404 Not Found, and the body says that it is the object NAMESPACE/NAME that isn't there
-- rule: control-answers
abbrev pub is_missing : List ℕ → List ℕ → ℕ → Option Data → Bool
is_missing resource n status body = status == 404 && is_not_found resource (name_in n) body

-- by whether the status is 200, and whether the object is missing
-- rule: control-answers
abbrev pub IsCronGot : Bool → Bool → List ℕ → Option Data → Answer → Type 0
IsCronGot true gone name body a = IsCronFound name body a
IsCronGot false true name body a = a ≡ Is.Cron None
IsCronGot false false name body a = a ≡ Is.Lost

-- rule: control-answers
abbrev pub IsJobGot : Bool → Bool → List ℕ → Option Data → Answer → Type 0
IsJobGot true gone name body a = IsJobFound name body a
IsJobGot false true name body a = a ≡ Is.Job None
IsJobGot false false name body a = a ≡ Is.Lost

-- ---- a POST

-- the Job that was made is the one that was sent, and held: a hook or an old server may have
-- changed it
-- rule: control-made
abbrev pub is_made : List ℕ → Job → Row Job → Bool
is_made name j row =
    (bytes_eq row.name name && bytes_eq row.object.owner j.owner)
    && ((row.object.time == j.time && is_policy row.object.policy j.policy)
    && (waits row.object && not row.object.pinned))

-- by whether a start can take its hold away
abbrev pub job_made : List ℕ → Job → Bool → Result (Row Job) Refusal → Answer
job_made name j known (Err e) = Is.Lost
job_made name j known (Ok row) =
    if known && is_made name j row
    then Is.Created (record { uid = row.object.uid; version = row.object.version })
    else Is.Lost

abbrev pub IsJobMade : List ℕ → Job → Option Data → Answer → Type 0
IsJobMade name j None a = a ≡ Is.Lost
IsJobMade name j (Some d) a =
    (read : Result (Row Job) Refusal) × IsJob d read
    × (a ≡ job_made name j (is_some (hold_in d)) read)

-- by whether the status is 201
-- rule: control-made
abbrev pub IsCreated : Bool → ℕ → List ℕ → Job → Option Data → Answer → Type 0
IsCreated true status name j body a = IsJobMade name j body a
IsCreated false status name j body a = a ≡ refused status body

-- ---- a PATCH, a DELETE

-- the version that the object of that uid has now
-- rule: control-answers
abbrev pub version_of : List ℕ → Option Data → Option (List ℕ)
version_of uid body =
    if is_object uid body then meta_text (codes "resourceVersion") body else None

abbrev pub has_version : Option (List ℕ) → Answer
has_version None = Is.Lost
has_version (Some version) = Is.Written version

-- rule: control-answers
abbrev pub written : List ℕ → ℕ → Option Data → Answer
written uid status body =
    if status == 200 then has_version (version_of uid body) else refused status body

-- the object of that uid is gone, or is going
-- rule: control-answers
abbrev pub gone : List ℕ → Option Data → Answer
gone uid body = if is_gone uid body then Is.Deleted else Is.Lost

-- by 200 OK, or 202 Accepted
-- rule: control-answers
abbrev pub deleted : List ℕ → ℕ → Option Data → Answer
deleted uid status body =
    if status == 200 || status == 202 then gone uid body else refused status body

-- ---- by the call

-- a call of a cache isn't sent
-- rule: control-answers
abbrev pub IsReply : Call → ℕ → Option Data → Answer → Type 0
IsReply (Of.GetCron n) status body a =
    IsCronGot (status == 200) (is_missing (codes "cronjobs") n status body) n body a
IsReply (Of.GetJob n) status body a =
    IsJobGot (status == 200) (is_missing (codes "jobs") n status body) n body a
IsReply (Of.Create n j) status body a = IsCreated (status == 201) status n j body a
IsReply (Of.Claim w) status body a = a ≡ written w.uid status body
IsReply (Of.Tidy w) status body a = a ≡ written w.uid status body
IsReply (Of.Start r) status body a = a ≡ written r.uid status body
IsReply (Of.Delete r) status body a = a ≡ deleted r.uid status body
IsReply (Of.Expire r v now) status body a = a ≡ deleted r.uid status body
IsReply (Of.CacheCron n) status body a = a ≡ Is.Lost
IsReply (Of.CacheJob n) status body a = a ≡ Is.Lost
IsReply Of.ListJobs status body a = a ≡ Is.Lost

-- the answer to a call that a line with this body gives
-- rule: control-answers
abbrev pub IsAnswer : Call → LineKind → Option Data → Answer → Type 0
IsAnswer call (Answered id status) body a = IsReply call status body a
IsAnswer call (Failed id) body a = a ≡ Is.Lost
IsAnswer call (Told id) body a = a ≡ Is.Lost
IsAnswer call (Clock t) body a = a ≡ Is.Lost
IsAnswer call Stop body a = a ≡ Is.Lost
