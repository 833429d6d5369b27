-- The findings from a moment on.
use Rattle.std.specs.Prelude.{ℕ, ◌||◌, nat_le, Bool, true, false}
use Rattle.cj_audit.specs.declared.finding.Finding.{Finding}
use Rattle.cj_audit.specs.declared.kind.FindingKind.{FindingKind}
use Rattle.cj_audit.specs.declared.kind.FindingKind.TheVariants.{Twice, Beside, Undue, Early, Missing, Stray, Stuck}

abbrev pub is_stuck : FindingKind → Bool
is_stuck Twice = false
is_stuck (Beside e) = false
is_stuck Undue = false
is_stuck Early = false
is_stuck Missing = false
is_stuck Stray = false
is_stuck Stuck = true

-- its time isn't before then, or it is of a CronJob that is stuck, which it is at any time
-- rule: audit-since
abbrev pub is_since : ℕ → Finding → Bool
is_since first f = is_stuck f.kind || nat_le first f.time
