-- The time line of a history: a line for each entry that is worth one, in their order, under a
-- heading.
use Rattle.std.specs.Prelude.{◌≡◌, ℕ, List, [], ◌∷◌, ◌++◌, codes, Option, Some, None}
use Rattle.cj_types.specs.Keys.{Place}
use Rattle.cj_calls.specs.Rows.{Told}
use Rattle.cj_report.specs.Called.{about}
use Rattle.cj_report.specs.Columns.{cell, key_word}
use Rattle.cj_report.specs.Objects.{moment_text}
use Rattle.cj_report.specs.Reasons.{held}
use Rattle.cj_report.specs.declared.timeline.what.What.{What}
use Rattle.cj_report.specs.timeline.Happenings.{how_text, what_of, what_word}
use Rattle.cj_report.specs.timeline.Moments.{moment, or_else}
use Rattle.cj_report.specs.timeline.Running.{running}

-- `TIME WHAT NAMESPACE/NAME HOW`, in columns, of which that of the names is so wide
-- rule: timeline
unfoldable pub line_of : ℕ → List ℕ → List ℕ → List ℕ → List ℕ → List ℕ
line_of width time what name how = cell 23 time
    ++ (cell 11 what ++ (cell width name ++ (how ++ codes "\n")))

abbrev pub heading : ℕ → List ℕ
heading width = line_of width (codes "TIME") (codes "WHAT") (codes "NAMESPACE/NAME") (codes "HOW")

-- the object of an entry, or else the key that its caller took last
abbrev pub object_at : List Told → Told → Option Place
object_at before e = or_else (about e.call e.answer) (held e.caller.number before)

abbrev pub line_if : ℕ → List Told → Told → List Told → Option What → List ℕ
line_if width before e after None = []
line_if width before e after (Some what) =
    line_of width (moment_text (moment before e after)) (what_word what)
    (key_word (object_at before e)) (how_text (running before) e.call e.answer)

-- rule: timeline
abbrev pub line_at : ℕ → List Told → Told → List Told → List ℕ
line_at width before e after = line_if width before e after (what_of e.caller.role e.call e.answer)

-- those of the entries after these
-- rule: timeline
abbrev pub lines_after : ℕ → List Told → List Told → List ℕ
lines_after width before [] = []
lines_after width before (e ∷ after) = line_at width before e after
    ++ lines_after width (e ∷ before) after

-- of a history, its oldest entry first; with a column of some width
-- rule: timeline
pub record IsTimeline (entries : List Told) (text : List ℕ) : Type 0 where
  pub width : ℕ
  pub are : text ≡ heading width ++ lines_after width [] entries
