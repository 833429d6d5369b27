-- What a controller keeps of a cluster's objects (Kubernetes API reference: CronJob, Job,
-- ObjectMeta, OwnerReference; Kubernetes, "Owners and Dependents").
use Rattle.std.specs.Prelude.{ℕ, ◌&&◌, List, codes, bytes_eq, Bool, true, false, if◌then◌else◌, Option, Some, None, nat_eq, option_and_then, option_map}
use Rattle.std.specs.Result.{result_ok}
use Rattle.std.specs.FinMap as map
use Rattle.std.specs.List.{starts_with}
use Rattle.serde_json.specs.Data.{Data, Items, item, no_items}
use Rattle.serde_json.specs.Find.{as_array, as_str}
use Rattle.cj_types.specs.Keys.{Place, new_key, place_cmp}
use Rattle.cj_types.specs.Names.{longest}
use Rattle.cj_manifest.specs.Owners.{text_at}
use Rattle.cj_control.specs.Api.{api_text}
use Rattle.cj_control.specs.Objects.{is_controller, list_or_none, meta}
use Rattle.cj_control.specs.declared.api.ApiVersion.{ApiVersion}
use Rattle.cj_machine.specs.declared.mirror.entry.Entry.{Entry}
use Rattle.cj_machine.specs.declared.source.Source.{Source}
use Rattle.cj_machine.specs.declared.source.Source.TheVariants.{Crons, Jobs}

-- ---- the two resources

abbrev pub kind : Source → List ℕ
kind Crons = codes "CronJob"
kind Jobs = codes "Job"

-- Jobs are of batch/v1 where CronJobs are of batch/v1beta1, too
abbrev pub version : ApiVersion → Source → List ℕ
version api Crons = api_text api
version api Jobs = codes "batch/v1"

abbrev pub resource : Source → List ℕ
resource Crons = codes "cronjobs"
resource Jobs = codes "jobs"

-- ---- the key of an object, and the CronJob that it touches

-- the key of a namespace and a name that are well formed
abbrev pub key_of : List ℕ → List ℕ → Option Place
key_of namespace name = result_ok (new_key longest namespace name)

abbrev pub meta_text : List ℕ → Data → Option (List ℕ)
meta_text name d = option_and_then as_str (meta name d)

abbrev pub named : Option (List ℕ) → Option (List ℕ) → Option Place
named None name = None
named (Some namespace) None = None
named (Some namespace) (Some name) = key_of namespace name

abbrev pub key_in : Data → Option Place
key_in d = named (meta_text (codes "namespace") d) (meta_text (codes "name") d)

-- the owner that says to be the controller
abbrev pub controller : Items → Option Data
controller no_items = None
controller (item d ds) = if is_controller d then Some d else controller ds

abbrev pub is_of_batch : List ℕ → List ℕ → Bool
is_of_batch kind version =
    bytes_eq kind (codes "CronJob") && starts_with nat_eq version (codes "batch/")

abbrev pub name_if : Bool → List ℕ → Option (List ℕ)
name_if true name = Some name
name_if false name = None

-- the name that a reference to a CronJob has, in any version of the group batch
abbrev pub cron_name : Data → Option (List ℕ)
cron_name d =
    option_and_then (λ kind.
    option_and_then (λ version.
    option_and_then (λ name. name_if (is_of_batch kind version) name)
    (text_at (codes "name") d)) (text_at (codes "apiVersion") d)) (text_at (codes "kind") d)

abbrev pub controller_name : Data → Option (List ℕ)
controller_name d = option_and_then cron_name
    (controller (list_or_none (option_and_then as_array (meta (codes "ownerReferences") d))))

abbrev pub cron_of_job : Place → Data → Option Place
cron_of_job key d = option_and_then (key_of key.namespace) (controller_name d)

-- a CronJob touches itself, a Job the CronJob of its namespace that its controller names
abbrev pub cron_of : Source → Place → Data → Option Place
cron_of Crons key d = Some key
cron_of Jobs key d = cron_of_job key d

-- ---- objects by key

abbrev pub Rows : Type 0
Rows = map.FinMap place_cmp Entry

-- no object
abbrev pub no_rows : Rows
no_rows = map.empty

abbrev pub text_of : Rows → Place → Option (List ℕ)
text_of rows key = option_map (λ (e : Entry). e.text) (map.get rows key)

-- the CronJob of the object at a key
abbrev pub cron_at : Rows → Place → Option Place
cron_at rows key = option_and_then (λ (e : Entry). e.cron) (map.get rows key)
