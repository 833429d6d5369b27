-- What is said to people of a run in which nothing started.
use Rattle.std.specs.Prelude.{ℕ, Bool, true, false, not, if◌then◌else◌, List, [], ◌∷◌, ◌++◌, codes, Result, Ok}
use Rattle.std.specs.List.{list_any}
use Rattle.cj_base.specs.declared.refusal.Refusal.{Refusal}
use Rattle.cj_calls.specs.Rows.{Told}
use Rattle.cj_calls.specs.declared.call.Call.{Call}
use Rattle.cj_calls.specs.declared.call.Call.TheVariants as Of
use Rattle.cj_calls.specs.declared.reply.Reply.{Reply}
use Rattle.cj_script.specs.simulation.Spans.{SpanView}
use Rattle.cj_zone.specs.TimeText.{time_text_of}
use Rattle.cj_history.specs.declared.gaps.gap.Gap.{Gap}

-- a controller made a Job
abbrev pub makes : Call → Result Reply Refusal → Bool
makes Of.MakeNext (Ok reply) = true
makes call answer = false

-- a CronJob was created
abbrev pub creates : Call → Result Reply Refusal → Bool
creates (Of.CreateCron draft at) (Ok reply) = true
creates call answer = false

-- one was created or updated that isn't suspended
abbrev pub wakes : Call → Result Reply Refusal → Bool
wakes (Of.CreateCron draft at) (Ok reply) = not draft.spec.suspend
wakes (Of.UpdateCron draft) (Ok reply) = not draft.spec.suspend
wakes call answer = false

abbrev pub any_entry : (Call → Result Reply Refusal → Bool) → List Told → Bool
any_entry does entries = list_any (λ e. does e.call e.answer) entries

-- rule: explain-idle
unfoldable pub none_due_line : SpanView → List ℕ
none_due_line s =
    codes "No Job was started: no sync found a time due; cronsim next SCHEDULE --after "
    ++ (time_text_of s.start ++ codes " tells when one is\n")

-- rule: explain-idle
abbrev pub gaps_or_none : SpanView → List Gap → List ℕ
gaps_or_none s [] = none_due_line s
gaps_or_none s (g ∷ gs) = codes "No Job was started; why each due time got none:\n"

-- the first of these that holds: there was no CronJob; each one was suspended all the time; no sync
-- found a time due; else the gaps say why
-- rule: explain-idle
abbrev pub idle_words : SpanView → List Told → List Gap → List ℕ
idle_words s entries gs =
    if any_entry makes entries then []
    else if not (any_entry creates entries) then codes "No Job was started: there was no CronJob\n"
    else if not (any_entry wakes entries) then codes
    "No Job was started: spec.suspend was true of each CronJob all the time\n"
    else gaps_or_none s gs
