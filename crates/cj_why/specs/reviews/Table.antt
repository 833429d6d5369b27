-- How the rows of CronJobs are laid out, as a client of a cluster has it: columns of blanks behind
-- each cell.
use Rattle.std.specs.Prelude.{◌≡◌, ℕ, ◌-◌, List, [], ◌∷◌, ◌++◌, length, replicate, codes, decimal, Bool, true, false, Option, None, Some, string_bytes}
use Rattle.cj_due.specs.declared.answer.Missed.{Missed}
use Rattle.cj_due.specs.declared.answer.Missed.TheVariants as Kind
use Rattle.cj_zone.specs.TimeText.{time_text_of}
use Rattle.cj_why.specs.declared.reviews.rows.CronRow.{CronRow}
use Rattle.cj_why.specs.declared.reviews.table.Widths.{Widths}
use Rattle.cj_why.specs.declared.reviews.verdict.Verdict.{Verdict}
use Rattle.cj_why.specs.declared.reviews.verdict.Verdict.TheVariants.{NameTaken}
use Rattle.cj_why.specs.reviews.Verdict.{verdict_text}

-- ---- cells

-- `0` to `100`, or `>100`
-- rule: why-table
abbrev pub missed_cell : Missed → List ℕ
missed_cell Kind.None = codes "0"
missed_cell (Kind.Some count latest) = decimal count
missed_cell (Kind.Many latest) = codes ">100"

-- rule: why-table
abbrev pub next_cell : Option ℕ → List ℕ
next_cell None = codes "<none>"
next_cell (Some t) = time_text_of t

-- ---- lines

-- a cell, and blanks behind it
abbrev pub cell : ℕ → List ℕ → List ℕ
cell width text = text ++ replicate (width - length text) 32

-- a line of cells
abbrev pub line_of : Widths → List ℕ → List ℕ → List ℕ → List ℕ → List ℕ → List ℕ
line_of w namespace name missed next why =
    cell w.namespace namespace
    ++ (cell w.name name ++ (cell w.missed missed ++ (cell w.next next ++ (why ++ codes "\n"))))

-- `NAMESPACE NAME MISSED NEXT WHY`
-- rule: why-table
abbrev pub heading : Widths → List ℕ
heading w =
    line_of w (codes "NAMESPACE") (codes "NAME") (codes "MISSED") (codes "NEXT") (codes "WHY")

-- rule: why-table
abbrev pub row_line : Widths → CronRow → List ℕ
row_line w row =
    line_of w row.cron.cron.key.namespace row.cron.cron.key.name (missed_cell row.missed)
    (next_cell row.next)
    (verdict_text row.verdict)

abbrev pub row_lines : Widths → List CronRow → List ℕ
row_lines w [] = []
row_lines w (row ∷ rows) = row_line w row ++ row_lines w rows

-- what all rows share: the moment, and how many of how many CronJobs are shown
-- rule: why-table
abbrev pub caption : ℕ → ℕ → ℕ → List ℕ
caption now shown all =
    codes "At "
    ++ (time_text_of now ++ (codes " (all times in UTC), CronJobs shown: " ++ (decimal shown
    ++ (codes " of " ++ (decimal all ++ codes "\n")))))

-- a heading over lines, where there are some
abbrev pub lines_under : Widths → List CronRow → List ℕ
lines_under w [] = []
lines_under w (row ∷ rows) = heading w ++ row_lines w (row ∷ rows)

-- where the name is taken, nothing comes of what the plan says
-- rule: why-table
abbrev pub taken_words : Verdict → List ℕ
taken_words NameTaken =
    codes "taken: the list has a Job of the name that this one would have, so it can't be made\n"
taken_words v = []

-- the words of each row, after an empty line
abbrev pub all_words : List CronRow → List ℕ
all_words [] = []
all_words (row ∷ rows) =
    (codes "\n" ++ (string_bytes row.words ++ taken_words row.verdict)) ++ all_words rows

-- behind the table, where people ask for them
-- rule: why-table
abbrev pub row_words : Bool → List CronRow → List ℕ
row_words true rows = all_words rows
row_words false rows = []

-- with columns of some widths
-- rule: why-table
pub record IsTable (explain : Bool) (now all : ℕ) (rows : List CronRow) (text : List ℕ)
    : Type 0 where
  pub widths : Widths
  pub are : text ≡ caption now (length rows) all
      ++ (lines_under widths rows ++ row_words explain rows)
