-- The API server's part: what each call answers and what it leaves (Kubernetes API concepts and
-- conventions: uid and resourceVersion as preconditions, JSON patch tests, finalizers, the
-- subresource status).
use Rattle.std.specs.Prelude.{ℕ, Bool, true, false, ◌&&◌, ◌||◌, List, [], Option, Some, None, unwrap_or, if◌then◌else◌}
use Rattle.cj_fence.specs.declared.refs.Ref.{Ref}
use Rattle.cj_fence.specs.declared.objects.Cron.{Cron}
use Rattle.cj_fence.specs.declared.objects.Job.{Job}
use Rattle.cj_fence.specs.declared.cluster.Cluster.{Cluster}
use Rattle.cj_fence.specs.declared.cluster.Served.{Served}
use Rattle.cj_fence.specs.declared.call.Claim.{Claim}
use Rattle.cj_fence.specs.declared.call.Tidy.{Tidy}
use Rattle.cj_fence.specs.declared.call.Call.{Call}
use Rattle.cj_fence.specs.declared.call.Call.TheVariants as Of
use Rattle.cj_fence.specs.declared.call.Write.{Write}
use Rattle.cj_fence.specs.declared.call.Write.TheVariants as By
use Rattle.cj_fence.specs.declared.answer.Answer.{Answer}
use Rattle.cj_fence.specs.declared.answer.Answer.TheVariants as Is
use Rattle.cj_fence.specs.declared.answer.Stamp.{Stamp}
use Rattle.cj_fence.specs.Texts.{is_same}
use Rattle.cj_fence.specs.Tables.{find, without, put}
use Rattle.cj_fence.specs.Objects.{look}

-- a reading leaves all as it is
abbrev pub says : Cluster → Answer → Served
says s a = record { answer = a; cluster = s }

-- so does a refusal: 404 Not Found, 409 Conflict or AlreadyExists, 422 Invalid
abbrev pub refuses : Cluster → Served
refuses s = says s Is.Refused

-- a write of a CronJob
abbrev pub puts_cron : Cluster → Answer → List ℕ → Cron → Served
puts_cron s a n c = record { answer = a; cluster = record s { crons = put n c s.crons } }

-- a write of a Job
abbrev pub puts_job : Cluster → Answer → List ℕ → Job → Served
puts_job s a n j = record { answer = a; cluster = record s { jobs = put n j s.jobs } }

-- POST of a Job: the server gives metadata.uid and resourceVersion, and drops status and
-- deletionTimestamp
abbrev pub made : Stamp → Job → Job
made t j = record j { uid = t.uid; version = t.version; finished = false; deleting = false }

-- POST is refused where the name is empty (422 Invalid) or taken (409 AlreadyExists)
-- rule: fence-server
abbrev pub create : Cluster → Stamp → List ℕ → Job → Option Job → Served
create s t [] j o = refuses s
create s t n j None = puts_job s (Is.Created t) n (made t j)
create s t n j (Some old) = refuses s

-- a PATCH with metadata.uid and resourceVersion in it is refused where either is another (409
-- Conflict)
abbrev pub takes : List ℕ → List ℕ → Cron → Bool
takes u v c = is_same c.uid u && is_same c.version v

-- status.lastSuccessfulTime after a write that sends one or none: a merge patch leaves what it
-- doesn't send
-- rule: last-success
abbrev pub success_after : Option ℕ → Cron → ℕ
success_after sent c = unwrap_or sent c.success

-- a CronJob with the status of a claim, under this version
abbrev pub with_claim : Claim → List ℕ → Cron → Cron
with_claim w v c = record c
    { version = v; last = w.time; active = w.active; success = success_after w.success c }

-- a CronJob with a status without its dead, under this version
abbrev pub with_tidy : Tidy → List ℕ → Cron → Cron
with_tidy w v c = record c { version = v; active = w.active; success = success_after w.success c }

-- the status after a claim
abbrev pub claimed : Stamp → Claim → Cron → Cron
claimed t w c = with_claim w t.version c

-- PATCH of a CronJob's /status: the last schedule time, the active Jobs, and the last success if it
-- is sent
-- rule: fence-server
abbrev pub claim : Cluster → Stamp → Claim → Option Cron → Served
claim s t w None = refuses s
claim s t w (Some c) =
    if takes w.uid w.version c then puts_cron s (Is.Written t.version) w.name (claimed t w c)
    else refuses s

-- the status after it was tidied
abbrev pub tidied : Stamp → Tidy → Cron → Cron
tidied t w c = with_tidy w t.version c

-- PATCH of a CronJob's /status: the active Jobs, and the last success if it is sent
-- rule: fence-server
abbrev pub tidy : Cluster → Stamp → Tidy → Option Cron → Served
tidy s t w None = refuses s
tidy s t w (Some c) =
    if takes w.uid w.version c then puts_cron s (Is.Written t.version) w.name (tidied t w c)
    else refuses s

-- the hold is taken away
abbrev pub released : Stamp → Job → Job
released t j = record j { version = t.version; held = false }

-- a JSON patch whose tests of uid and hold fail is refused (422); one of a Job that is being
-- deleted is taken
-- rule: fence-server
abbrev pub start : Cluster → Stamp → Ref → Option Job → Served
start s t r None = refuses s
start s t r (Some j) = if j.held then puts_job s (Is.Written t.version) r.name (released t j) else
    refuses s

-- a Job with a deletionTimestamp
abbrev pub marked : Stamp → Job → Job
marked t j = record j { version = t.version; deleting = true }

-- a Job gets a deletionTimestamp; where it has one nothing is written
abbrev pub mark : Cluster → Stamp → Ref → Job → Served
mark s t r j =
    if j.deleting then says s Is.Deleted else puts_job s Is.Deleted r.name (marked t j)

-- DELETE takes an object away; one that has metadata.finalizers gets a deletionTimestamp instead
abbrev pub delete : Cluster → Stamp → Ref → Job → Served
delete s t r j =
    if j.pinned then mark s t r j
    else record { answer = Is.Deleted; cluster = record s { jobs = without r.name s.jobs } }

-- DELETE with the precondition uid (meta/v1, Preconditions): one that isn't met is refused (409
-- Conflict)
-- rule: fence-server
abbrev pub delete_where : Cluster → Stamp → Ref → Option Job → Served
delete_where s t r None = refuses s
delete_where s t r (Some j) = delete s t r j

-- DELETE with the preconditions uid and resourceVersion (meta/v1, Preconditions)
-- rule: fence-server
abbrev pub expire_where : Cluster → Stamp → Ref → List ℕ → Option Job → Served
expire_where s t r v None = refuses s
expire_where s t r v (Some j) = if is_same j.version v then delete s t r j else refuses s

-- what a call is answered and what it leaves, where a write gets this stamp
-- rule: fence-server
abbrev pub served : Cluster → Stamp → Call → Served
served s t (Of.GetCron n) = says s (Is.Cron (find n s.crons))
served s t (Of.CacheCron n) = says s (Is.Cron (find n s.crons))
served s t (Of.GetJob n) = says s (Is.Job (find n s.jobs))
served s t (Of.CacheJob n) = says s (Is.Job (find n s.jobs))
served s t Of.ListJobs = says s (Is.Jobs s.jobs)
served s t (Of.Create n j) = create s t n j (find n s.jobs)
served s t (Of.Claim w) = claim s t w (find w.name s.crons)
served s t (Of.Tidy w) = tidy s t w (find w.name s.crons)
served s t (Of.Start r) = start s t r (look s.jobs r)
served s t (Of.Delete r) = delete_where s t r (look s.jobs r)
served s t (Of.Expire r v now) = expire_where s t r v (look s.jobs r)

-- a CronJob that somebody writes keeps its uid; a new one gets a uid, and no status
abbrev pub put_cron : Stamp → Cron → Option Cron → Cron
put_cron t c None = record c
    { uid = t.uid; version = t.version; last = 0; active = []; success = 0 }
put_cron t c (Some old) = record c { uid = old.uid; version = t.version }

-- a Job that somebody writes keeps its uid and its deletionTimestamp; a new one is made as by POST
abbrev pub put_job : Stamp → Job → Option Job → Job
put_job t j None = made t j
put_job t j (Some old) = record j { uid = old.uid; version = t.version; deleting = old.deleting || j.deleting }

-- what somebody else's write leaves; a Job under an empty name is refused
-- rule: fence-server
abbrev pub written : Cluster → Stamp → Write → Cluster
written s t (By.PutCron n c) = record s { crons = put n (put_cron t c (find n s.crons)) s.crons }
written s t (By.DropCron n) = record s { crons = without n s.crons }
written s t (By.PutJob [] j) = s
written s t (By.PutJob n j) = record s { jobs = put n (put_job t j (find n s.jobs)) s.jobs }
written s t (By.DropJob n) = record s { jobs = without n s.jobs }
