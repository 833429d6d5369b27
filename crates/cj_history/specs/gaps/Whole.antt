-- Made or told, never both: each time that a sync counted as missed got its one Job or stands once
-- among the gaps (Kubernetes CronJob documentation, "CronJob limitations": a CronJob "creates a Job
-- object approximately once per execution time").
use Rattle.std.specs.Prelude.{◌≡◌, ◌↔◌, ℕ, ◌+◌, ◌≤◌, ◌==◌, ◌&&◌, Bool, true, List, length}
use Rattle.std.specs.List.{filter}
use Rattle.cj_types.specs.Uids.{last_uid}
use Rattle.cj_decide.specs.laws.Laws.{IsIn}
use Rattle.cj_calls.specs.Rows.{Told}
use Rattle.cj_state.specs.Legal.{IsLegal, ArePlanned}
use Rattle.cj_world_laws.specs.once.Once.{makes}
use Rattle.cj_history.specs.declared.gaps.gap.Gap.{Gap}
use Rattle.cj_history.specs.gaps.Marks.{is_told, has_job}
use Rattle.cj_history.specs.gaps.Syncs.{CountedIn}
use Rattle.cj_history.specs.progress.Every.{made_for}
use Rattle.cj_history.specs.progress.Syncs.{is_for}

-- how many Jobs were made for the CronJob with this uid and that time
abbrev pub jobs_for : ℕ → List Told → ℕ → ℕ → ℕ
jobs_for window h u t = length (filter (is_for u t) (makes window h))

abbrev pub is_gap_of : ℕ → ℕ → Gap → Bool
is_gap_of u t g = (g.cron.meta.uid == u) && (g.time == t)

-- how many of these gaps are of it
abbrev pub gaps_for : List Gap → ℕ → ℕ → ℕ
gaps_for gs u t = length (filter (is_gap_of u t) gs)

-- each time that an accepted plan counted has one Job or one gap, and never both, in every legal
-- history, as long as there are uids
-- rule: made-or-told
abbrev pub MadeOrTold : List Told → List Gap → Type 0
MadeOrTold h gs = (window : ℕ) → length h ≤ last_uid → IsLegal window h → ArePlanned h
    → (u t : ℕ) → CountedIn h u t → jobs_for window h u t + gaps_for gs u t ≡ 1

-- what is told of a making is what was made: a time got its Job just where it is one of those for
-- which a Job was made
-- rule: made-or-told
abbrev pub ToldIsMade : Type 0
ToldIsMade = (window : ℕ) (h : List Told) → length h ≤ last_uid → IsLegal window h → ArePlanned h
    → (u t : ℕ) → (has_job (is_told h) u t ≡ true) ↔ IsIn t (made_for window u h)
