-- What is said of an object, of a plan and of a call, as words `NAME=VALUE`, each after a blank. No
-- value has a blank.
use Rattle.std.specs.Prelude.{ℕ, Bool, true, false, ◌||◌, nat_le, List, [], ◌∷◌, ◌++◌, codes, if◌then◌else◌, is_some, Option, Some, None}
use Rattle.std.specs.Fmt.{decimal}
use Rattle.cj_types.specs.LabelMap.{label_of}
use Rattle.cj_types.specs.Made.{scheduled_annotation}
use Rattle.cj_types.specs.Owners.{controller_of}
use Rattle.cj_types.specs.Printed.{policy_name, reason_name}
use Rattle.cj_types.specs.Uids.{uid_text}
use Rattle.cj_types.specs.declared.cron.CronJob.{CronJob}
use Rattle.cj_types.specs.declared.job.Job.{Job}
use Rattle.cj_types.specs.declared.job.JobDraft.{JobDraft}
use Rattle.cj_types.specs.declared.meta.DraftMeta.{DraftMeta}
use Rattle.cj_types.specs.declared.owners.OwnerRef.{OwnerRef}
use Rattle.cj_types.specs.declared.policy.Outcome.{Outcome}
use Rattle.cj_types.specs.declared.policy.Reason.{Reason}
use Rattle.cj_zone.specs.TimeText.{time_text_of}
use Rattle.cj_status.specs.declared.refs.JobRef.{JobRef}
use Rattle.cj_decide.specs.Decision.{Planned}
use Rattle.cj_calls.specs.declared.call.Call.{Call}
use Rattle.cj_calls.specs.declared.call.Call.TheVariants as Of
use Rattle.cj_calls.specs.declared.end.End.{End}
use Rattle.cj_calls.specs.declared.end.End.TheVariants.{Again, Well}
use Rattle.cj_report.specs.Objects.{moment_text, state_text}

-- ---- words

-- a blank, or a control
abbrev pub is_blank : ℕ → Bool
is_blank c = nat_le c 32

abbrev pub has_blank : List ℕ → Bool
has_blank [] = false
has_blank (c ∷ cs) = is_blank c || has_blank cs

-- a text with a blank in it is no word
abbrev pub word : List ℕ → List ℕ
word text = if has_blank text then codes "-" else text

abbrev pub word_or_none : Option (List ℕ) → List ℕ
word_or_none None = codes "-"
word_or_none (Some text) = word text

abbrev pub yes_or_no : Bool → List ℕ
yes_or_no true = codes "yes"
yes_or_no false = codes "no"

-- ---- lists, with commas

abbrev pub more_names : List (List ℕ) → List ℕ
more_names [] = []
more_names (name ∷ names) = (codes "," ++ name) ++ more_names names

abbrev pub names_word : List (List ℕ) → List ℕ
names_word [] = codes "-"
names_word (name ∷ names) = name ++ more_names names

abbrev pub more_refs : List JobRef → List ℕ
more_refs [] = []
more_refs (job ∷ jobs) = (codes "," ++ job.key.name) ++ more_refs jobs

abbrev pub refs_word : List JobRef → List ℕ
refs_word [] = codes "-"
refs_word (job ∷ jobs) = job.key.name ++ more_refs jobs

abbrev pub more_reasons : List Reason → List ℕ
more_reasons [] = []
more_reasons (reason ∷ reasons) = (codes "," ++ reason_name reason) ++ more_reasons reasons

abbrev pub reasons_word : List Reason → List ℕ
reasons_word [] = codes "-"
reasons_word (reason ∷ reasons) = reason_name reason ++ more_reasons reasons

-- ---- objects

-- the time that a Job is for
-- rule: history-lines
abbrev pub due_word : Job → List ℕ
due_word job = word_or_none (label_of scheduled_annotation job.meta.annotations)

abbrev pub owner_words : Option OwnerRef → List ℕ
owner_words None = codes " owner=- owner-uid=-"
owner_words (Some owner) = codes " owner="
    ++ (word owner.name ++ (codes " owner-uid=" ++ word owner.uid))

-- rule: history-lines
unfoldable pub cron_fields : CronJob → List ℕ
cron_fields cron =
    codes " uid=" ++ (uid_text cron.meta.uid ++ (codes " policy=" ++ (policy_name cron.spec.policy
    ++ (codes " suspend=" ++ (yes_or_no cron.spec.suspend
    ++ (codes " last=" ++ (moment_text cron.status.last_schedule_time
    ++ (codes " active=" ++ names_word cron.status.active))))))))

-- rule: history-lines
unfoldable pub job_fields : Job → List ℕ
job_fields job =
    codes " uid=" ++ (uid_text job.meta.uid
    ++ (owner_words (controller_of job.owners) ++ (codes " due=" ++ (due_word job
    ++ (codes " created=" ++ (time_text_of job.meta.created
    ++ (codes " state=" ++ state_text job.outcome)))))))

-- ---- calls

abbrev pub given : List ℕ → Option (List ℕ) → List ℕ
given name None = []
given name (Some text) = name ++ word text

-- what a draft says of the object that it is for
abbrev pub draft_fields : DraftMeta → List ℕ
draft_fields meta = given (codes " if-uid=") meta.uid ++ given (codes " if-version=") meta.version

abbrev pub seen_words : Option CronJob → List ℕ
seen_words None = codes " of=- seen=- policy=-"
seen_words (Some cron) =
    codes " of=" ++ (uid_text cron.meta.uid
    ++ (codes " seen=" ++ (decimal cron.meta.version
    ++ (codes " policy=" ++ policy_name cron.spec.policy))))

abbrev pub make_word : Option JobDraft → List ℕ
make_word None = codes "-"
make_word (Some draft) = draft.key.name

-- the CronJob that a plan rests on, and its steps
-- rule: history-lines
unfoldable pub plan_fields : Planned → List ℕ
plan_fields p =
    seen_words p.cron ++ (codes " drop=" ++
    (refs_word p.steps.drop_first ++ (codes " make=" ++ (make_word p.steps.make
    ++ (codes " cleanup=" ++ (refs_word p.steps.cleanup
    ++ (codes " status=" ++ (yes_or_no (is_some p.steps.status)
    ++ (codes " next=" ++ moment_text p.steps.next)))))))))

abbrev pub end_words : End → List ℕ
end_words Well = codes " well"
end_words (Again millis) = codes " again ms=" ++ decimal millis

abbrev pub ending : ℕ → Outcome → List ℕ
ending uid outcome = codes " of=" ++ (uid_text uid
    ++ (codes " outcome=" ++ state_text (Some outcome)))

abbrev pub watching : ℕ → ℕ → List ℕ
watching version max = codes " after=" ++ (decimal version ++ (codes " max=" ++ decimal max))

abbrev pub ticking : ℕ → List ℕ
ticking millis = codes " ms=" ++ decimal millis

abbrev pub feeding : ℕ → List ℕ
feeding max = codes " max=" ++ decimal max

abbrev pub finishing : End → List Reason → List ℕ
finishing end reasons = end_words end ++ (codes " reasons=" ++ reasons_word reasons)

-- what a call says beyond the object that it is about
-- rule: history-lines
unfoldable pub asked : Call → List ℕ
asked (Of.CreateCron draft at) = draft_fields draft.meta
asked (Of.UpdateCron draft) = draft_fields draft.meta
asked (Of.CreateJob draft at) = draft_fields draft.meta
asked (Of.UpdateJob draft) = draft_fields draft.meta
asked (Of.EndJob key uid outcome at) = ending uid outcome
asked (Of.Watch version max) = watching version max
asked (Of.Tick millis) = ticking millis
asked (Of.Feed max) = feeding max
asked (Of.Claim plan) = plan_fields plan
asked (Of.Finish end reasons) = finishing end reasons
asked call = []
