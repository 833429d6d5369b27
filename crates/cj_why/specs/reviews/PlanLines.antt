-- The lines of a plan.
use Rattle.std.specs.Prelude.{ℕ, List, [], ◌∷◌, ◌++◌, codes, Option, None, Some, option_map}
use Rattle.cj_types.specs.declared.job.JobDraft.{JobDraft}
use Rattle.cj_types.specs.declared.policy.Reason.{Reason}
use Rattle.cj_types.specs.Printed.{reason_name}
use Rattle.cj_zone.specs.TimeText.{time_text_of}
use Rattle.cj_status.specs.declared.refs.JobRef.{JobRef}
use Rattle.cj_decide.specs.declared.steps.Steps.{Steps}

-- `WORD VALUE`
abbrev pub word_line : List ℕ → List ℕ → List ℕ
word_line word value = word ++ (codes " " ++ (value ++ codes "\n"))

-- a time or `none`
abbrev pub time_value : Option ℕ → List ℕ
time_value None = codes "none"
time_value (Some t) = time_text_of t

-- the name of a Job or `none`
abbrev pub name_value : Option JobDraft → List ℕ
name_value None = codes "none"
name_value (Some draft) = draft.key.name

-- a line for each Job, with its name
abbrev pub job_lines : List ℕ → List JobRef → List ℕ
job_lines word [] = []
job_lines word (job ∷ jobs) = word_line word job.key.name ++ job_lines word jobs

abbrev pub reason_lines : List Reason → List ℕ
reason_lines [] = []
reason_lines (reason ∷ reasons) =
    word_line (codes "reason") (reason_name reason) ++ reason_lines reasons

-- the steps of a plan in their order, then its reasons and when to look again
-- rule: plan-lines
abbrev pub plan_lines : Steps → List ℕ
plan_lines p =
    word_line (codes "claim") (time_value (option_map (λ c. c.time) p.claim))
    ++ job_lines (codes "drop") p.drop_first
    ++ word_line (codes "make") (name_value p.make)
    ++ job_lines (codes "clean") p.cleanup
    ++ reason_lines p.reasons
    ++ word_line (codes "next") (time_value p.next)
