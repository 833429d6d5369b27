-- The times of a CronJob that no sync counted: those that a sync at a given instant would be the
-- first to count. Neither its zone nor how late it is stands in the history: both are given.
use Rattle.std.specs.Prelude.{◌≡◌, ◌↔◌, ℕ, false, List, [], ◌∷◌, ◌++◌}
use Rattle.cj_types.specs.declared.cron.CronJob.{CronJob}
use Rattle.cj_zone.specs.declared.zone.Zone.{Zone}
use Rattle.cj_decide.specs.laws.Laws.{IsIn}
use Rattle.cj_calls.specs.Rows.{Told}
use Rattle.cj_history.specs.declared.gaps.gap.Gap.{Gap}
use Rattle.cj_history.specs.declared.gaps.gap.Why.{Why}
use Rattle.cj_history.specs.declared.gaps.gap.Why.TheVariants.{NeverSynced}
use Rattle.cj_history.specs.declared.gaps.late.Standing.{Standing}
use Rattle.cj_history.specs.gaps.Gaps.{AreGaps, Rise}
use Rattle.cj_history.specs.gaps.Marks.{is_told, has_job}
use Rattle.cj_history.specs.gaps.Syncs.{IsMissed, CountedIn}

-- the one cause of all of them
abbrev pub unsynced : ℕ → Why
unsynced t = NeverSynced

-- a time that the CronJob has missed at an instant in the zone, that no sync counted, and that got
-- no Job
-- rule: gaps
pub record IsLate (h : List Told) (cron : CronJob) (z : Zone) (at : ℕ) (g : Gap) : Type 0 where
  pub of : g.cron ≡ cron
  pub missed : IsMissed cron z at g.time
  pub uncounted : CountedIn h cron.meta.uid g.time → ⊥
  pub jobless : has_job (is_told h) cron.meta.uid g.time ≡ false
  pub why : g.why ≡ NeverSynced

-- exactly those of one CronJob, in the order of their times
pub record AreLateOf (h : List Told) (at : ℕ) (s : Standing) (gs : List Gap) : Type 0 where
  pub exact : (g : Gap) → IsIn g gs ↔ IsLate h s.cron s.zone at g
  pub rise : Rise gs

-- of several, one after the other
-- rule: gaps
abbrev pub AreLate : List Told → ℕ → List Standing → List Gap → Type 0
AreLate h at [] gs = gs ≡ []
AreLate h at (s ∷ ss) gs =
    (one rest : List Gap) × AreLateOf h at s one × AreLate h at ss rest × (gs ≡ one ++ rest)

-- the gaps of a history, and after them what is late of these CronJobs at an instant
-- rule: gaps
pub record AreAllGaps (h : List Told) (at : ℕ) (ss : List Standing) (gs : List Gap) : Type 0 where
  pub settled : List Gap
  pub late : List Gap
  pub are : AreGaps h settled
  pub rest : AreLate h at ss late
  pub is : gs ≡ settled ++ late
