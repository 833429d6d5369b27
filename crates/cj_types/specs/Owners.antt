-- Owners of objects: Kubernetes, "Owners and Dependents", and the reference of `OwnerReference`.
use Rattle.std.specs.Prelude.{ℕ, Bool, ◌&&◌, List, Option, Some, None, codes, find, if◌then◌else◌}
use Rattle.std.specs.Str.{bytes_eq}
use Rattle.cj_types.specs.declared.owners.OwnerRef.{OwnerRef}

-- the controller reference: the first that has `controller` set
-- rule: controller
abbrev pub controller_of : List OwnerRef → Option OwnerRef
controller_of owners = find (λ o. o.controller) owners

-- a reference to a CronJob of batch/v1
unfoldable pub is_cron_reference : OwnerRef → Bool
is_cron_reference o = bytes_eq o.api_version (codes "batch/v1") && bytes_eq o.kind (codes "CronJob")

-- the name in a reference to a CronJob of batch/v1
abbrev pub cron_in : Option OwnerRef → Option (List ℕ)
cron_in None = None
cron_in (Some o) = if is_cron_reference o then Some o.name else None

-- the name of the CronJob that the controller reference names, if it names one
-- rule: controller
abbrev pub cron_name_of : List OwnerRef → Option (List ℕ)
cron_name_of owners = cron_in (controller_of owners)
