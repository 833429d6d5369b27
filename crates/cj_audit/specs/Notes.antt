-- What a set of findings gains.
use Rattle.std.specs.Prelude.{◌≡◌, ◌⊎◌, true, List, [], ◌∷◌, Contains}
use Rattle.std.specs.BTreeSet.{BTreeSet, contains}
use Rattle.cj_cluster.specs.declared.cron.ClusterCron.{ClusterCron}
use Rattle.cj_audit.specs.declared.finding.Finding.{Finding}
use Rattle.cj_audit.specs.declared.pairing.Pairing.{Pairing}
use Rattle.cj_audit.specs.declared.run.Run.{Run}
use Rattle.cj_audit.specs.Order.{finding_cmp}
use Rattle.cj_audit.specs.Pairs.{IsPairNote}

-- the new set has what the old has and each finding that P holds of, and no other
pub record Notes (P : Finding → Type 0) (old new : BTreeSet Finding) : Type 0 where
  pub found : (f : Finding) → contains finding_cmp new f ≡ true
      → (contains finding_cmp old f ≡ true) ⊎ P f
  pub kept : (f : Finding) → contains finding_cmp old f ≡ true → contains finding_cmp new f ≡ true
  pub noted : (f : Finding) → P f → contains finding_cmp new f ≡ true

-- P holds of an element of the list and the finding
abbrev pub AnyOf : {A : Type 0} → (A → Finding → Type 0) → List A → Finding → Type 0
AnyOf P [] f = ⊥
AnyOf P (x ∷ xs) f = P x f ⊎ AnyOf P xs f

-- the finding is of two of these Jobs
pub record IsPairIn (p : Pairing) (c : ClusterCron) (runs : List Run) (f : Finding) : Type 0 where
  pub first : Run
  pub second : Run
  pub first_in : Contains runs first
  pub second_in : Contains runs second
  pub note : IsPairNote p c first second f
