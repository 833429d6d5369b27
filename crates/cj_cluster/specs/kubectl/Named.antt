-- The CronJob that an item is of, as far as its value says: Kubernetes, "Objects In Kubernetes",
-- "Names and IDs".
use Rattle.std.specs.Prelude.{ℕ, ◌&&◌, List, ◌++◌, codes, bytes_eq, Bool, true, false, Option, Some, None, option_and_then, unwrap_or}
use Rattle.std.specs.List.{list_any}
use Rattle.serde_json.specs.Data.{Data}
use Rattle.serde_json.specs.Find.{as_str}
use Rattle.cj_types.specs.Objects.{cron_of}
use Rattle.cj_types.specs.Owners.{controller_of}
use Rattle.cj_types.specs.declared.job.Job.{Job}
use Rattle.cj_types.specs.declared.owners.OwnerRef.{OwnerRef}
use Rattle.cj_manifest.specs.Owners.{text_at}
use Rattle.cj_table.specs.jobs.Owners.{names}
use Rattle.cj_cluster.specs.Content.{has_uid}
use Rattle.cj_cluster.specs.declared.kubectl.named.CronName.{CronName}
use Rattle.cj_cluster.specs.declared.kubectl.object.ObjectNamed.{ObjectNamed}
use Rattle.cj_cluster.specs.declared.kubectl.notes.ItemNote.{ItemNote}
use Rattle.cj_cluster.specs.kubectl.Rows.{member_of, metadata_of}

-- a text of the metadata
abbrev pub meta_text : List ℕ → Data → Option (List ℕ)
meta_text id d = option_and_then as_str (member_of id (metadata_of d))

-- `NAMESPACE/NAME`
abbrev pub key_text : List ℕ → List ℕ → List ℕ
key_text namespace name = namespace ++ (codes "/" ++ name)

-- in the namespace that is written, else in `default`
abbrev pub name_with : Data → Option (List ℕ) → Option CronName
name_with d None = None
name_with d (Some name) = Some (record {
  namespace = unwrap_or (meta_text (codes "namespace") d) (codes "default");
  name = name;
  key = key_text (unwrap_or (meta_text (codes "namespace") d) (codes "default")) name;
  uid = meta_text (codes "uid") d;
})

abbrev pub name_where : Bool → Data → Option CronName
name_where false d = None
name_where true d = name_with d (meta_text (codes "name") d)

-- an object of that kind, where its name is a text
abbrev pub object_with : Data → List ℕ → Option (List ℕ) → Option ObjectNamed
object_with d kind None = None
object_with d kind (Some name) = Some (record {
  kind = kind;
  namespace = unwrap_or (meta_text (codes "namespace") d) (codes "default");
  name = name;
})

abbrev pub object_of : Data → Option (List ℕ) → Option ObjectNamed
object_of d None = None
object_of d (Some kind) = object_with d kind (meta_text (codes "name") d)

-- kind, namespace and name of an object, as far as its value says them
-- rule: cluster-faults
abbrev pub object_named : Data → Option ObjectNamed
object_named d = object_of d (text_at (codes "kind") d)

abbrev pub is_cron : Option (List ℕ) → Bool
is_cron None = false
is_cron (Some kind) = bytes_eq kind (codes "CronJob")

-- namespace, name and uid of an object of kind CronJob, where its name is a text
-- rule: cluster-faults
abbrev pub cron_named : Data → Option CronName
cron_named d = name_where (is_cron (text_at (codes "kind") d)) d

-- ---- whose Job is whose

-- a uid that isn't written may be any
abbrev pub may_have_uid : Option (List ℕ) → Option OwnerRef → Bool
may_have_uid None owner = true
may_have_uid (Some uid) owner = has_uid uid owner

-- the controller of the Job is that CronJob: by its name in the Job's namespace, and by its uid
-- where that is written
-- rule: audit-stray
abbrev pub is_named_by : CronName → Job → Bool
is_named_by n job =
    (bytes_eq job.key.namespace n.namespace && names n.name (cron_of job))
    && may_have_uid n.uid (controller_of job.owners)

abbrev pub is_of_noted : Option CronName → Job → Bool
is_of_noted None job = false
is_of_noted (Some n) job = is_named_by n job

-- the Job is of a CronJob whose item is in the list, and can't be used
-- rule: audit-stray
abbrev pub is_of_refused : List ItemNote → Job → Bool
is_of_refused notes job = list_any (λ note. is_of_noted note.cron job) notes
