-- What is said to people of the due times that got no Job.
use Rattle.std.specs.Prelude.{ℕ, ◌==◌, nat_le, List, [], ◌∷◌, ◌++◌, codes, decimal, Option, Some, None, if◌then◌else◌}
use Rattle.cj_types.specs.declared.cron.CronJob.{CronJob}
use Rattle.cj_zone.specs.TimeText.{time_text_of}
use Rattle.cj_history.specs.declared.gaps.gap.Gap.{Gap}
use Rattle.cj_history.specs.declared.gaps.gap.Why.{Why}
use Rattle.cj_history.specs.declared.gaps.gap.Why.TheVariants.{Suspended, TooLate, Forbidden, Earlier, NameTaken, NotMade, NeverSynced}
use Rattle.cj_program.specs.declared.remarks.families.Tally.{Tally}
use Rattle.cj_program.specs.remarks.Families.{family, kind_of, tally_of}

-- rule: explain-gaps
unfoldable pub why_words : Why → List ℕ
why_words Suspended = codes "spec.suspend was true"
why_words TooLate = codes "no sync came within spec.startingDeadlineSeconds"
why_words Forbidden = codes "spec.concurrencyPolicy was Forbid and a Job of it ran"
why_words Earlier = codes "a later time was missed too, and only the latest is started"
why_words NameTaken = codes "the name of its Job was taken"
why_words NotMade = codes "it was claimed, and then no Job was made"
why_words NeverSynced = codes "no sync came since"

-- `NAMESPACE/NAME: no Job for TIME, since WHY`
-- rule: explain-gaps
unfoldable pub gap_line : CronJob → ℕ → Why → List ℕ
gap_line cron time why =
    cron.key.namespace ++ (codes "/" ++ (cron.key.name
    ++ (codes ": no Job for " ++ (time_text_of time
    ++ (codes ", since " ++ (why_words why ++ codes "\n"))))))

-- `NAMESPACE/NAME: no Job for COUNT due times from TIME to TIME, since WHY`
-- rule: explain-gaps
unfoldable pub count_line : CronJob → Tally → Why → List ℕ
count_line cron t why =
    cron.key.namespace ++ (codes "/" ++ (cron.key.name ++ (codes ": no Job for " ++ (decimal t.count
    ++ (codes " due times from " ++ (time_text_of t.first ++ (codes " to " ++ (time_text_of t.last
    ++ (codes ", since " ++ (why_words why ++ codes "\n"))))))))))

-- the line of a gap of such a family: its own, or, where the family has more than that many, one
-- for all with the first
-- rule: explain-gaps
abbrev pub line_among : ℕ → Option Tally → Gap → List ℕ
line_among most None g = []
line_among most (Some t) g =
    if nat_le t.count most then gap_line g.cron g.time g.why
    else if g.time == t.first then count_line g.cron t g.why
    else []

-- of each of these, among all
abbrev pub lines_among : ℕ → List Gap → List Gap → List ℕ
lines_among most all [] = []
lines_among most all (g ∷ gs) = line_among most (tally_of (family (kind_of g) all)) g
    ++ lines_among most all gs

-- rule: explain-gaps
abbrev pub gap_lines : ℕ → List Gap → List ℕ
gap_lines most gs = lines_among most gs gs
