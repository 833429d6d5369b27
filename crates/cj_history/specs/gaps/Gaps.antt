-- The gaps of a history: the times that a sync counted as missed and that got no Job (Kubernetes
-- CronJob documentation, "CronJob limitations": a CronJob "creates a Job object approximately once
-- per execution time").
use Rattle.std.specs.Prelude.{◌≡◌, ◌⊎◌, ◌↔◌, ◌<◌, Bool, false, List, [], ◌∷◌, ◌++◌, Some}
use Rattle.std.specs.List.{AllByRecursion}
use Rattle.cj_decide.specs.Decision.{Planned}
use Rattle.cj_decide.specs.laws.Laws.{IsIn}
use Rattle.cj_calls.specs.Rows.{Told}
use Rattle.cj_history.specs.declared.gaps.gap.Gap.{Gap}
use Rattle.cj_history.specs.declared.gaps.mark.Mark.{Mark}
use Rattle.cj_history.specs.gaps.Marks.{is_told, has_job}
use Rattle.cj_history.specs.gaps.Syncs.{plan_in, Counts, CountedIn}
use Rattle.cj_history.specs.gaps.Causes.{cause}

-- a time that the plan of this entry counts, as none of the entries before it did, and that got no
-- Job by all that is told, with the CronJob as the sync saw it
-- rule: gaps
pub record IsGapAt (told : Mark → Bool) (before : List Told) (e : Told) (g : Gap) : Type 0 where
  pub plan : Planned
  pub sync : plan_in e.call e.answer ≡ Some plan
  pub stands : plan.cron ≡ Some g.cron
  pub counts : Counts g.cron plan g.time
  pub first : CountedIn before g.cron.meta.uid g.time → ⊥
  pub jobless : has_job told g.cron.meta.uid g.time ≡ false
  pub why : g.why ≡ cause told g.cron plan g.time

-- by one of these entries
-- rule: gaps
abbrev pub IsGapIn : (Mark → Bool) → List Told → Gap → Type 0
IsGapIn told [] g = ⊥
IsGapIn told (e ∷ h) g = IsGapAt told h e g ⊎ IsGapIn told h g

-- a time of a CronJob that got no Job in the whole history
-- rule: gaps
abbrev pub IsGap : List Told → Gap → Type 0
IsGap h g = IsGapIn (is_told h) h g

-- ---- lists of gaps

-- they aren't of one CronJob and one time
abbrev pub IsApart : Gap → Gap → Type 0
IsApart a b = a.cron.meta.uid ≡ b.cron.meta.uid → a.time ≡ b.time → ⊥

-- no two are of one CronJob and one time
-- rule: gaps
abbrev pub AreApart : List Gap → Type 0
AreApart [] = Unit {0}
AreApart (g ∷ gs) = AllByRecursion (IsApart g) gs × AreApart gs

-- each time is earlier than all that follow
abbrev pub Rise : List Gap → Type 0
Rise [] = Unit {0}
Rise (g ∷ gs) = AllByRecursion (λ b. g.time < b.time) gs × Rise gs

-- gaps at an entry, in the order of their times
pub record AreAt (told : Mark → Bool) (before : List Told) (e : Told) (gs : List Gap) : Type 0 where
  pub are : (g : Gap) → IsIn g gs → IsGapAt told before e g
  pub rise : Rise gs

-- the gaps of earlier syncs come first, and those of one sync in the order of their times
-- rule: gaps
abbrev pub InOrder : (Mark → Bool) → List Told → List Gap → Type 0
InOrder told [] gs = gs ≡ []
InOrder told (e ∷ h) gs =
    (old new : List Gap) × InOrder told h old × AreAt told h e new × (gs ≡ old ++ new)

-- exactly the gaps of a history, each once, in the order in which they were settled
-- rule: gaps
pub record AreGaps (h : List Told) (gs : List Gap) : Type 0 where
  pub exact : (g : Gap) → IsIn g gs ↔ IsGap h g
  pub apart : AreApart gs
  pub order : InOrder (is_told h) h gs
