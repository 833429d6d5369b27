-- Equality of values as a truth value. Every type of values has a code, which differs where the
-- values do.
use Rattle.std.specs.Prelude.{Bool, true, false, ◌&&◌, ◌==◌}
use Rattle.std.specs.Coded.{Coded, coded_list, coded_ℕ}
use base.Stored.{Gv, gnil, gnum, gcons}
use Rattle.cj_types.specs.declared.cron.CronSpec.{CronSpec}
use Rattle.cj_types.specs.contracts.cron.CronSpec.{the_row as cron_spec}
use Rattle.cj_types.specs.declared.owners.OwnerRef.{OwnerRef}
use Rattle.cj_types.specs.contracts.owners.OwnerRef.{the_row as owner_ref}
use Rattle.std.specs.Prelude.{ℕ, List}

abbrev pub same_code : Gv → Gv → Bool
same_code gnil gnil = true
same_code (gnum m) (gnum n) = m == n
same_code (gcons a b) (gcons c d) = same_code a c && same_code b d
same_code _ _ = false

-- the values are equal
unfoldable pub is_same : {X : Type 0} → Coded X → X → X → Bool
is_same c x y = same_code (c.code x) (c.code y)

-- equality of CronJobs' specs, of Jobs' specs, and of owner references in their order
abbrev pub same_cron_spec : CronSpec → CronSpec → Bool
same_cron_spec = is_same cron_spec.coded

abbrev pub same_job_spec : List ℕ → List ℕ → Bool
same_job_spec = is_same (coded_list coded_ℕ)

abbrev pub same_owners : List OwnerRef → List OwnerRef → Bool
same_owners = is_same (coded_list owner_ref.coded)
