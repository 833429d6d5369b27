-- A mark for each reason of a sync, why it started no Job, or that many times were missed: at the
-- key that its worker held.
use Rattle.std.specs.Prelude.{ℕ, List, [], ◌∷◌, ◌++◌, map, Option, Some, None}
use Rattle.cj_types.specs.declared.policy.Reason.{Reason}
use Rattle.cj_types.specs.Keys.{Place}
use Rattle.cj_calls.specs.Rows.{Told}
use Rattle.cj_report.specs.Reasons.{held}
use Rattle.cj_report.specs.Tellings.{reasons_told}
use Rattle.cj_report.specs.declared.timeline.mark.Mark.{Mark}
use Rattle.cj_report.specs.timeline.Moments.{moment}

abbrev pub mark_of : Place → Option ℕ → Reason → Mark
mark_of key at reason = record { key = key; at = at; reason = reason }

-- one for each of the reasons, at the key, if there is one
abbrev pub marks_of : Option Place → Option ℕ → List Reason → List Mark
marks_of None at reasons = []
marks_of (Some key) at reasons = map (mark_of key at) reasons

-- one for each reason in the entry
-- rule: job-marks
abbrev pub marks_at : List Told → Told → List Told → List Mark
marks_at before e after = marks_of (held e.caller.number before) (moment before e after)
    (reasons_told e.call e.answer)

-- rule: job-marks
abbrev pub marks_after : List Told → List Told → List Mark
marks_after before [] = []
marks_after before (e ∷ after) = marks_at before e after ++ marks_after (e ∷ before) after

-- of a history, its oldest entry first
-- rule: job-marks
abbrev pub marks : List Told → List Mark
marks entries = marks_after [] entries
