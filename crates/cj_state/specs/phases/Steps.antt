-- The steps of a plan in their order, and the one that comes next.
use Rattle.std.specs.Prelude.{◌≡◌, ℕ, ◌+◌, Bool, true, false, List, [], ◌∷◌, ◌++◌, map, drop, Option, Some, None}
use Rattle.std.specs.List.{slice_get}
use Rattle.cj_types.specs.declared.cron.CronStatus.{CronStatus}
use Rattle.cj_types.specs.declared.job.JobDraft.{JobDraft}
use Rattle.cj_status.specs.declared.refs.JobRef.{JobRef}
use Rattle.cj_decide.specs.declared.steps.Steps.{Steps}

pub data Step : Type 0 where
  drops : JobRef → Step
  makes : JobDraft → Step
  sets : CronStatus → Step

abbrev pub makings : Option JobDraft → List Step
makings None = []
makings (Some d) = makes d ∷ []

abbrev pub settings : Option CronStatus → List Step
settings None = []
settings (Some s) = sets s ∷ []

-- the drops, the making, the cleanup, the final status
-- rule: plan-steps
abbrev pub all_steps : Steps → List Step
all_steps s = map drops s.drop_first ++ (makings s.make
    ++ (map drops s.cleanup ++ settings s.status))

-- the step after so many, if there is one
-- rule: plan-steps
unfoldable pub step_at : Steps → ℕ → Option Step
step_at s place = slice_get (all_steps s) place

-- what is left after so many steps
abbrev pub left : Steps → ℕ → List Step
left s place = drop place (all_steps s)

abbrev pub as_drop : Option Step → Option JobRef
as_drop (Some (drops r)) = Some r
as_drop _ = None

abbrev pub as_make : Option Step → Option JobDraft
as_make (Some (makes d)) = Some d
as_make _ = None

abbrev pub as_status : Option Step → Option CronStatus
as_status (Some (sets s)) = Some s
as_status _ = None

abbrev pub is_over : Option Step → Bool
is_over None = true
is_over (Some x) = false

abbrev pub count : {X : Type 0} → Option X → ℕ
count None = 0
count (Some x) = 1

-- what is left begins with the next step, and after that step the rest is left
abbrev pub NextIsLeft : Type 0
NextIsLeft = (s : Steps) (place : ℕ) (x : Step) → step_at s place ≡ Some x
    → left s place ≡ x ∷ left s (place + 1)
