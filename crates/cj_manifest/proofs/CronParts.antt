-- What stands at each name of the spec of a written CronJob, and of the template in it.
use Rattle.std.proofs.Common.{◌≡◌, ℕ, List, [], ◌∷◌, codes, Option, Some, None, option_map, refl}
use Rattle.serde_json.specs.Data.{Data, boolean, number, string, object, unsigned, Members, no_members, put}
use Rattle.cj_types.specs.declared.cron.CronSpec.{CronSpec}
use Rattle.cj_types.specs.Printed.{policy_name}
use Rattle.cj_json.specs.Parts.{put_some_text, put_some_number, put_some_object, put_labels}
use Rattle.cj_json.specs.Objects.{spec_head}
use Rattle.cj_manifest.specs.declared.level.Level.TheVariants as In
use Rattle.cj_manifest.specs.Members.{present, unless_null}
use Rattle.cj_manifest.specs.Warnings.{dropped}
use Rattle.cj_manifest.proofs.LabelTrips.{Entries, labels_data}

-- ---- the spec

abbrev pub number_data : ℕ → Data
number_data n = number (unsigned n)

pub record SpecIs (spec : CronSpec) (zone : Option (List ℕ)) (seconds : Option ℕ) (t : Data) (s : Data) : Type 0 where
  pub schedule : present (codes "schedule") s ≡ Some (string spec.schedule)
  pub time_zone : present (codes "timeZone") s ≡ option_map string zone
  pub policy : present (codes "concurrencyPolicy") s ≡ Some (string (policy_name spec.policy))
  pub suspend : present (codes "suspend") s ≡ Some (boolean spec.suspend)
  pub deadline : present (codes "startingDeadlineSeconds") s ≡ option_map number_data seconds
  pub successful : present (codes "successfulJobsHistoryLimit") s ≡ Some (number_data spec.successful_limit)
  pub failed : present (codes "failedJobsHistoryLimit") s ≡ Some (number_data spec.failed_limit)
  pub template : present (codes "jobTemplate") s ≡ unless_null t
  pub known : dropped In.CronSpec (Some s) ≡ []

abbrev pub spec_members : CronSpec → Option (List ℕ) → Option ℕ → Data → Members
spec_members spec zone seconds template =
    put_some_text (codes "timeZone") zone (
    put_some_number (codes "startingDeadlineSeconds") seconds (
    put (codes "suspend") (boolean spec.suspend) (
    put (codes "successfulJobsHistoryLimit") (number_data spec.successful_limit) (
    spec_head spec template))))

-- Each field of a written CronJob's spec stands at its name, and no name there is unknown.
pub spec_is : (spec : CronSpec) (zone : Option (List ℕ)) (seconds : Option ℕ) (t : Data)
    → SpecIs spec zone seconds t (object (spec_members spec zone seconds t))
spec_is spec None None t = record {
  schedule = refl;
  time_zone = refl;
  policy = refl;
  suspend = refl;
  deadline = refl;
  successful = refl;
  failed = refl;
  template = refl;
  known = refl;
}
spec_is spec None (Some n) t = record {
  schedule = refl;
  time_zone = refl;
  policy = refl;
  suspend = refl;
  deadline = refl;
  successful = refl;
  failed = refl;
  template = refl;
  known = refl;
}
spec_is spec (Some z) None t = record {
  schedule = refl;
  time_zone = refl;
  policy = refl;
  suspend = refl;
  deadline = refl;
  successful = refl;
  failed = refl;
  template = refl;
  known = refl;
}
spec_is spec (Some z) (Some n) t = record {
  schedule = refl;
  time_zone = refl;
  policy = refl;
  suspend = refl;
  deadline = refl;
  successful = refl;
  failed = refl;
  template = refl;
  known = refl;
}

-- ---- the template

abbrev pub inner_members : Entries → Entries → Members
inner_members labels annotations = put_labels (codes "labels") labels
    (put_labels (codes "annotations") annotations no_members)

-- the template's metadata, where it has labels or annotations
abbrev pub inner_data : Entries → Entries → Option Data
inner_data [] [] = None
inner_data [] (a ∷ others) = Some (object (inner_members [] (a ∷ others)))
inner_data (l ∷ ls) more = Some (object (inner_members (l ∷ ls) more))

pub record TemplateIs (ls more : Entries) (job t : Data) : Type 0 where
  pub metadata : present (codes "metadata") t ≡ inner_data ls more
  pub spec : present (codes "spec") t ≡ unless_null job
  pub known : dropped In.Template (Some t) ≡ []

abbrev pub template_members : Entries → Entries → Data → Members
template_members labels annotations job = put_some_object (codes "metadata") (inner_members labels annotations)
    (put (codes "spec") job no_members)

-- A written template has the Job's spec, and its metadata where there are labels or annotations.
pub template_is : (ls more : Entries) (job : Data) → TemplateIs ls more job (object (template_members ls more job))
template_is [] [] job = record { metadata = refl; spec = refl; known = refl }
template_is [] (a ∷ others) job = record { metadata = refl; spec = refl; known = refl }
template_is (l ∷ ls) [] job = record { metadata = refl; spec = refl; known = refl }
template_is (l ∷ ls) (a ∷ others) job = record { metadata = refl; spec = refl; known = refl }

pub record InnerIs (ls more : Entries) (m : Data) : Type 0 where
  pub labels : present (codes "labels") m ≡ labels_data ls
  pub annotations : present (codes "annotations") m ≡ labels_data more
  pub known : dropped In.TemplateMetadata (Some m) ≡ []

-- The written metadata of a template has its labels and its annotations, where there are any.
pub inner_is : (ls more : Entries) → InnerIs ls more (object (inner_members ls more))
inner_is [] [] = record { labels = refl; annotations = refl; known = refl }
inner_is [] (a ∷ others) = record { labels = refl; annotations = refl; known = refl }
inner_is (l ∷ ls) [] = record { labels = refl; annotations = refl; known = refl }
inner_is (l ∷ ls) (a ∷ others) = record { labels = refl; annotations = refl; known = refl }
