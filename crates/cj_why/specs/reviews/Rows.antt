-- The CronJobs of a cluster at a moment, a row each: how many times each missed, what its next sync
-- does, in a word, and when to look again.
use Rattle.std.specs.Prelude.{◌≡◌, ℕ, List, [], ◌∷◌, ◌++◌, ◌||◌, map, not, Bool, true, false, Some, is_some, string_bytes}
use Rattle.cj_zone.specs.declared.zone.Zone.{Zone}
use Rattle.cj_decide.specs.declared.steps.Steps.{Steps}
use Rattle.cj_decide.specs.Decision.{IsPlan}
use Rattle.cj_cluster.specs.Content.{Content}
use Rattle.cj_cluster.specs.declared.cron.ClusterCron.{ClusterCron}
use Rattle.cj_why.specs.declared.reviews.rows.CronRow.{CronRow}
use Rattle.cj_due.specs.declared.answer.Missed.{Missed}
use Rattle.cj_why.specs.reviews.Late.{IsLateOf}
use Rattle.cj_why.specs.reviews.Review.{IsMissedOf}
use Rattle.cj_why.specs.reviews.Seen.{found, listed, unknown}
use Rattle.cj_why.specs.reviews.Verdict.{is_problem, next_of, verdict_of}
use Rattle.cj_why.specs.reviews.Words.{IsAskedWords}
use Rattle.cj_why.specs.reviews.ZoneFor.{zone_for}

-- of one CronJob: the times it missed, the verdict and the next time of its one plan, and why,
-- where people ask for it
-- rules: why-table, why-verdict
pub record IsRow (explain : Bool) (zones : List Zone) (content : Content) (now : ℕ)
    (c : ClusterCron) (row : CronRow) : Type 0 where
  pub cron : row.cron ≡ c
  pub missed : IsMissedOf c.cron (zone_for c.cron.spec.time_zone zones) now row.missed
  pub steps : Steps
  pub planned : IsPlan (Some c.cron) (listed content c) (found content c) now
      (zone_for c.cron.spec.time_zone zones) steps
  pub late : Missed
  pub too_late : IsLateOf c.cron (zone_for c.cron.spec.time_zone zones) now late
  pub verdict : row.verdict ≡ verdict_of c (is_some (zone_for c.cron.spec.time_zone zones))
      (unknown content c) late content steps
  pub next : row.next ≡ next_of c steps
  pub words : IsAskedWords explain zones content now c (string_bytes row.words)

-- the row is shown: all are, or it wants a look
-- rule: why-problems
abbrev pub is_shown : Bool → ℕ → CronRow → Bool
is_shown problems now row = not problems || is_problem row.verdict now row.missed

abbrev pub shown_if : Bool → CronRow → List CronRow
shown_if true row = row ∷ []
shown_if false row = []

-- of CronJobs one after the other, the rows that are shown
-- rules: why-table, why-problems
abbrev pub AreRows : Bool → Bool → List Zone → Content → ℕ → List ClusterCron → List CronRow
    → Type 0
AreRows problems explain zones content now [] rows = rows ≡ []
AreRows problems explain zones content now (c ∷ cs) rows =
    (row : CronRow) × (rest : List CronRow) × IsRow explain zones content now c row
    × AreRows problems explain zones content now cs rest
    × (rows ≡ shown_if (is_shown problems now row) row ++ rest)

abbrev pub crons_of : List CronRow → List ClusterCron
crons_of rows = map (λ row. row.cron) rows

-- the CronJobs that are printed in lines: all of these, or those that want a look
-- rule: why-problems
abbrev pub AreLined : Bool → List Zone → Content → ℕ → List ClusterCron → List ClusterCron → Type 0
AreLined false zones content now crons lined = lined ≡ crons
AreLined true zones content now crons lined =
    (rows : List CronRow) × AreRows true false zones content now crons rows
    × (lined ≡ crons_of rows)
