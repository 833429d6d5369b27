-- The reasons of a history: each is in the Finish of a worker, for the key that it had taken.
-- Histories are read from the newest entry on.
use Rattle.std.specs.Prelude.{ℕ, ◌==◌, Bool, false, ◌&&◌, ◌||◌, List, [], ◌∷◌, ◌++◌, codes, bytes_eq, filter, if◌then◌else◌, Option, Some, None, Result, Ok, Err}
use Rattle.std.specs.List.{list_any}
use Rattle.cj_base.specs.declared.refusal.Refusal.{Refusal}
use Rattle.cj_types.specs.declared.cron.CronJob.{CronJob}
use Rattle.cj_types.specs.declared.policy.Reason.{Reason}
use Rattle.cj_types.specs.declared.policy.Reason.TheVariants.{FailedCreate, JobAlreadyActive, TooManyMissedTimes, UnknownTimeZone}
use Rattle.cj_types.specs.Keys.{Place}
use Rattle.cj_types.specs.Printed.{reason_name}
use Rattle.cj_calls.specs.declared.call.Call.{Call}
use Rattle.cj_calls.specs.declared.call.Call.TheVariants as Of
use Rattle.cj_calls.specs.declared.reply.Reply.{Reply}
use Rattle.cj_calls.specs.declared.reply.Reply.TheVariants as Is
use Rattle.cj_calls.specs.Rows.{Told}

-- the key that a Take answers
abbrev pub key_in : Reply → Option Place
key_in (Is.Key key) = Some key
key_in other = None

abbrev pub answered_key : Result Reply Refusal → Option Place
answered_key (Ok reply) = key_in reply
answered_key (Err refusal) = None

-- the key that the entry says the worker took
abbrev pub taken : ℕ → Told → Option Place
taken number t = if t.caller.number == number then answered_key t.answer else None

abbrev pub or_before : Option Place → Option Place → Option Place
or_before None before = before
or_before (Some key) before = Some key

-- the key that the worker took last
-- rule: reason-lines
abbrev pub held : ℕ → List Told → Option Place
held number [] = None
held number (t ∷ h) = or_before (taken number t) (held number h)

abbrev pub is_key : Place → Option Place → Bool
is_key key None = false
is_key key (Some other) = bytes_eq other.namespace key.namespace && bytes_eq other.name key.name

-- the reasons of a Finish
abbrev pub reasons_in : Call → List Reason
reasons_in (Of.Finish end reasons) = reasons
reasons_in other = []

abbrev pub is_told : Reason → List Reason → Bool
is_told reason reasons = list_any (λ r. bytes_eq (reason_name r) (reason_name reason)) reasons

-- the entry is an accepted Finish with the reason
abbrev pub tells : Reason → Call → Result Reply Refusal → Bool
tells reason call (Ok reply) = is_told reason (reasons_in call)
tells reason call (Err refusal) = false

-- the key has the reason
-- rule: reason-lines
abbrev pub has_reason : Place → Reason → List Told → Bool
has_reason key reason [] = false
has_reason key reason (t ∷ h) = (tells reason t.call t.answer
    && is_key key (held t.caller.number h)) || has_reason key reason h

-- ---- lines

-- all reasons, by name
abbrev pub by_name : List Reason
by_name = FailedCreate ∷ JobAlreadyActive ∷ TooManyMissedTimes ∷ UnknownTimeZone ∷ []

-- those that the key has
-- rule: reason-lines
abbrev pub told_of : Place → List Told → List Reason → List Reason
told_of key h reasons = filter (λ reason. has_reason key reason h) reasons

-- `reason NAMESPACE/NAME REASON`
unfoldable pub reason_line : Place → List ℕ → List ℕ
reason_line key word = codes "reason " ++
    (key.namespace ++ (codes "/" ++ (key.name ++ (codes " " ++ (word ++ codes "\n")))))

abbrev pub each_line : Place → List Reason → List ℕ
each_line key [] = []
each_line key (reason ∷ reasons) = reason_line key (reason_name reason) ++ each_line key reasons

-- a line for each, or one that says that there is none
abbrev pub lines_or_none : Place → List Reason → List ℕ
lines_or_none key [] = reason_line key (codes "none")
lines_or_none key (reason ∷ reasons) = each_line key (reason ∷ reasons)

-- the lines of a key
-- rule: reason-lines
unfoldable pub key_lines : Place → List Told → List ℕ
key_lines key h = lines_or_none key (told_of key h by_name)

-- the lines of each CronJob
-- rule: reason-lines
abbrev pub reason_lines : List Told → List CronJob → List ℕ
reason_lines h [] = []
reason_lines h (cron ∷ crons) = key_lines cron.key h ++ reason_lines h crons
