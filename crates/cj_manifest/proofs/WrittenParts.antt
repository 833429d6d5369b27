-- What stands at each name of a written object.
use Rattle.std.proofs.Common.{◌≡◌, ℕ, List, [], ◌∷◌, codes, Some, refl}
use Rattle.std.specs.Fmt.{decimal}
use Rattle.serde_json.specs.Data.{Data, string, object, Members, no_members, member}
use Rattle.cj_types.specs.declared.meta.Meta.{Meta}
use Rattle.cj_types.specs.Keys.{Place}
use Rattle.cj_types.specs.Uids.{uid_text}
use Rattle.cj_json.specs.Parts.{put_some_list, put_labels}
use Rattle.cj_json.specs.Objects.{identity, object_data}
use Rattle.cj_manifest.specs.declared.level.Level.TheVariants as In
use Rattle.cj_manifest.specs.Members.{present, unless_null}
use Rattle.cj_manifest.specs.Warnings.{dropped, version_warnings}
use Rattle.cj_manifest.proofs.LabelTrips.{Entries, labels_data}
use Rattle.cj_manifest.proofs.OwnerTrips.{list_data}

-- ---- the whole

pub record WholeIs (k : List ℕ) (m : Members) (s : Data) (w : Data) : Type 0 where
  pub api_version : present (codes "apiVersion") w ≡ Some (string (codes "batch/v1"))
  pub kind : present (codes "kind") w ≡ Some (string k)
  pub metadata : present (codes "metadata") w ≡ Some (object m)
  pub spec : present (codes "spec") w ≡ unless_null s
  pub current : version_warnings w ≡ []
  pub known : dropped In.Top (Some w) ≡ []

-- A written object has version, kind, metadata and spec at their names, and nothing to warn of.
pub whole_is : (kind : List ℕ) (metadata : Members) (spec : Data) (status : Members)
    → WholeIs kind metadata spec (object_data kind metadata spec status)
whole_is kind metadata spec no_members = record {
  api_version = refl;
  kind = refl;
  metadata = refl;
  spec = refl;
  current = refl;
  known = refl;
}
whole_is kind metadata spec (member k d ms) = record {
  api_version = refl;
  kind = refl;
  metadata = refl;
  spec = refl;
  current = refl;
  known = refl;
}

-- ---- metadata

abbrev pub with_lists : List Data → Entries → Entries → Members → Members
with_lists owners labels annotations ms = put_some_list (codes "ownerReferences") owners
    (put_labels (codes "labels") labels (put_labels (codes "annotations") annotations ms))

pub record MetaIs (key : Place) (meta : Meta) (os : List Data) (ls more : Entries) (m : Data) : Type 0 where
  pub name : present (codes "name") m ≡ Some (string key.name)
  pub namespace : present (codes "namespace") m ≡ Some (string key.namespace)
  pub uid : present (codes "uid") m ≡ Some (string (uid_text meta.uid))
  pub version : present (codes "resourceVersion") m ≡ Some (string (decimal meta.version))
  pub labels : present (codes "labels") m ≡ labels_data ls
  pub annotations : present (codes "annotations") m ≡ labels_data more
  pub owners : present (codes "ownerReferences") m ≡ list_data os
  pub known : dropped In.JobMetadata (Some m) ≡ []

-- Written metadata has each part at its name, owners, labels and annotations where there are any.
pub meta_is : (key : Place) (meta : Meta) (owners : List Data) (labels annotations : Entries)
    → MetaIs key meta owners labels annotations (object (with_lists owners labels annotations (identity key meta)))
meta_is key meta [] [] [] = record {
  name = refl;
  namespace = refl;
  uid = refl;
  version = refl;
  labels = refl;
  annotations = refl;
  owners = refl;
  known = refl;
}
meta_is key meta [] [] (a ∷ more) = record {
  name = refl;
  namespace = refl;
  uid = refl;
  version = refl;
  labels = refl;
  annotations = refl;
  owners = refl;
  known = refl;
}
meta_is key meta [] (l ∷ ls) [] = record {
  name = refl;
  namespace = refl;
  uid = refl;
  version = refl;
  labels = refl;
  annotations = refl;
  owners = refl;
  known = refl;
}
meta_is key meta [] (l ∷ ls) (a ∷ more) = record {
  name = refl;
  namespace = refl;
  uid = refl;
  version = refl;
  labels = refl;
  annotations = refl;
  owners = refl;
  known = refl;
}
meta_is key meta (o ∷ os) [] [] = record {
  name = refl;
  namespace = refl;
  uid = refl;
  version = refl;
  labels = refl;
  annotations = refl;
  owners = refl;
  known = refl;
}
meta_is key meta (o ∷ os) [] (a ∷ more) = record {
  name = refl;
  namespace = refl;
  uid = refl;
  version = refl;
  labels = refl;
  annotations = refl;
  owners = refl;
  known = refl;
}
meta_is key meta (o ∷ os) (l ∷ ls) [] = record {
  name = refl;
  namespace = refl;
  uid = refl;
  version = refl;
  labels = refl;
  annotations = refl;
  owners = refl;
  known = refl;
}
meta_is key meta (o ∷ os) (l ∷ ls) (a ∷ more) = record {
  name = refl;
  namespace = refl;
  uid = refl;
  version = refl;
  labels = refl;
  annotations = refl;
  owners = refl;
  known = refl;
}

-- a CronJob's has no owners
pub cron_meta_known : (key : Place) (meta : Meta) (labels annotations : Entries)
    → dropped In.CronMetadata (Some (object (with_lists [] labels annotations (identity key meta)))) ≡ []
cron_meta_known key meta [] [] = refl
cron_meta_known key meta [] (a ∷ more) = refl
cron_meta_known key meta (l ∷ ls) [] = refl
cron_meta_known key meta (l ∷ ls) (a ∷ more) = refl
