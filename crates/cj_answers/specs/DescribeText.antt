-- What is said of a schedule.
use Rattle.std.specs.Prelude.{◌≡◌, ℕ, List, ◌++◌}
use Rattle.cj_schedule.specs.Matches.{Sets}
use Rattle.cj_zone.specs.declared.zone.Zone.{Zone}
use Rattle.cj_upcoming.specs.Coming.{AreComing}
use Rattle.cj_upcoming.specs.Sentence.{sentence}

-- the sentence, then the next times
-- rules: describe-sentence, describe-times
pub record IsDescribed (sets : Sets) (zone : Zone) (start count : ℕ) (text : List ℕ) : Type 0 where
  pub times : List ℕ
  pub coming : AreComing sets zone start start count times
  pub are : text ≡ sentence sets zone.name ++ times
