-- A plan as JSON (RFC 8259). The members of an object are in the order of their names.
use Rattle.std.specs.Prelude.{ℕ, List, codes, map, Option, None, Some}
use Rattle.serde_json.specs.Data.{Data, null, string, array, object, member, no_members}
use Rattle.serde_json.specs.View.{items_of}
use Rattle.cj_types.specs.declared.cron.CronStatus.{CronStatus}
use Rattle.cj_types.specs.declared.job.JobDraft.{JobDraft}
use Rattle.cj_types.specs.declared.policy.Reason.{Reason}
use Rattle.cj_types.specs.Printed.{reason_name}
use Rattle.cj_json.specs.Values.{time_data, time_or_null}
use Rattle.cj_status.specs.declared.refs.JobRef.{JobRef}
use Rattle.cj_decide.specs.declared.start.Claim.{Claim}
use Rattle.cj_decide.specs.declared.steps.Steps.{Steps}

-- texts in their order
abbrev pub texts_data : List (List ℕ) → Data
texts_data texts = array (items_of (map string texts))

-- the names of Jobs
abbrev pub jobs_data : List JobRef → Data
jobs_data jobs = array (items_of (map (λ job. string job.key.name) jobs))

abbrev pub reasons_data : List Reason → Data
reasons_data reasons = array (items_of (map (λ reason. string (reason_name reason)) reasons))

-- the claimed time
abbrev pub claim_data : Option Claim → Data
claim_data None = null
claim_data (Some claim) = time_data claim.time

-- the name of the Job that is made
abbrev pub make_data : Option JobDraft → Data
make_data None = null
make_data (Some draft) = string draft.key.name

abbrev pub status_object : Data → Data → Data → Data
status_object active scheduled successful = object (
    member (codes "active") active (
    member (codes "lastScheduleTime") scheduled (
    member (codes "lastSuccessfulTime") successful no_members)))

-- the status that is written at the end, where one is
abbrev pub status_data : Option CronStatus → Data
status_data None = null
status_data (Some s) =
    status_object (texts_data s.active) (time_or_null s.last_schedule_time)
    (time_or_null s.last_successful_time)

abbrev pub plan_object : Data → Data → Data → Data → Data → Data → Data → Data
plan_object claim clean drop make next reasons status = object (
    member (codes "claim") claim (
    member (codes "clean") clean (
    member (codes "drop") drop (
    member (codes "make") make (
    member (codes "next") next (
    member (codes "reasons") reasons (
    member (codes "status") status no_members)))))))

-- the claimed time, the Jobs that go after the one that is made and before it, that one, when to
-- look again, the reasons, and the status at the end
-- rule: plan-json
abbrev pub plan_data : Steps → Data
plan_data p =
    plan_object (claim_data p.claim) (jobs_data p.cleanup) (jobs_data p.drop_first)
    (make_data p.make) (time_or_null p.next)
    (reasons_data p.reasons) (status_data p.status)
