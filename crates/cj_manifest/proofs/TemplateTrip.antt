-- The template of a written CronJob has no fault, and says what the CronJob has.
use Rattle.std.proofs.Common.{◌≡◌, [], ◌∷◌, Option, Some, None, Result, Ok, refl, ap, ◌∙◌}
use Rattle.std.specs.Result.{result_err}
use Rattle.serde_json.specs.Data.{Data, object, Members}
use Rattle.cj_base.specs.declared.cause.Cause.{Cause}
use Rattle.cj_base.specs.declared.field.Field.TheVariants as At
use Rattle.cj_manifest.specs.declared.level.Level.TheVariants as In
use Rattle.cj_manifest.specs.Drafts.{given, label_map, template_labels, template_annotations}
use Rattle.cj_manifest.specs.Faults.{with_fields, with_optional_fields, template_metadata_faults, template_faults, template_fields, job_spec_faults}
use Rattle.cj_manifest.specs.Values.{required, optional, an_object, texts}
use Rattle.cj_manifest.specs.Table as fields
use Rattle.cj_manifest.specs.Warnings.{dropped}
use Rattle.cj_manifest.proofs.CronParts.{TemplateIs, inner_is, inner_data, inner_members}
use Rattle.cj_manifest.proofs.LabelTrips.{Entries, in_order, labels_sound, labels_said}
use Rattle.cj_manifest.proofs.MetaTrip.{no_faults, no_fault}
use Rattle.cj_manifest.proofs.Rising.{rises}

-- ---- the metadata in it, as the row gives it

record InnerSays (ls more : Entries) (r : Result (Option Data) Cause) : Type 0 where
  pub sound : with_optional_fields At.JobTemplateMetadata template_metadata_faults r ≡ []
  pub labels : template_labels (given r) ≡ ls
  pub annotations : template_annotations (given r) ≡ more
  pub known : dropped In.TemplateMetadata (given r) ≡ []

-- For inner_says: a template's written metadata has no fault, and says its labels and annotations.
some_inner : (ls more : Entries) → rises ls → rises more
    → InnerSays ls more (Ok (Some (object (inner_members ls more))))
some_inner ls more h k =
    let m = object (inner_members ls more) in
    let is = inner_is ls more in
    record {
      sound =
          no_faults _ _
          (no_fault At.JobTemplateLabels (fields.labels m) (ap (λ o. result_err (optional texts o)) is.labels
          ∙ labels_sound ls h))
          (no_fault At.JobTemplateAnnotations (fields.annotations m)
          (ap (λ o. result_err (optional texts o)) is.annotations ∙ labels_sound more k));
      labels = ap (λ o. label_map (given (optional texts o))) is.labels ∙ labels_said ls h;
      annotations = ap (λ o. label_map (given (optional texts o))) is.annotations ∙ labels_said more k;
      known = is.known;
    }

-- A template's metadata, written or left out as empty, has no fault and says what the template has.
inner_says : (ls more : Entries) → rises ls → rises more → InnerSays ls more (optional an_object (inner_data ls more))
inner_says [] [] h k = record { sound = refl; labels = refl; annotations = refl; known = refl }
inner_says [] (a ∷ others) h k = some_inner [] (a ∷ others) h k
inner_says (l ∷ ls) more h k = some_inner (l ∷ ls) more h k

-- ---- the whole

pub record TemplateSays (ls more : Entries) (j t : Data) : Type 0 where
  pub sound : template_faults t ≡ []
  pub labels : template_labels (given (fields.template_metadata t)) ≡ ls
  pub annotations : template_annotations (given (fields.template_metadata t)) ≡ more
  pub job : fields.job_spec t ≡ Ok j
  pub known : dropped In.Template (Some t) ≡ []
  pub inner : dropped In.TemplateMetadata (given (fields.template_metadata t)) ≡ []

-- A written template has no fault, and says its labels, its annotations and the Job's spec.
pub template_says : (ls more : Entries) (ms : Members) (t : Data) → TemplateIs ls more (object ms) t → rises ls
    → rises more → job_spec_faults template_fields (object ms) ≡ []
    → TemplateSays ls more (object ms) t
template_says ls more ms t is h k sound =
    let inner = inner_says ls more h k in
    let same : fields.template_metadata t ≡ optional an_object (inner_data ls more) =
    ap (optional an_object) is.metadata in
    let job : fields.job_spec t ≡ Ok (object ms) = ap (required an_object) is.spec in
    record {
      sound =
          no_faults _ _
          (ap (with_optional_fields At.JobTemplateMetadata template_metadata_faults) same ∙ inner.sound)
          (ap (with_fields At.JobTemplateSpec (job_spec_faults template_fields)) job ∙ sound);
      labels = ap (λ r. template_labels (given r)) same ∙ inner.labels;
      annotations = ap (λ r. template_annotations (given r)) same ∙ inner.annotations;
      job = job;
      known = is.known;
      inner = ap (λ r. dropped In.TemplateMetadata (given r)) same ∙ inner.known;
    }

-- ---- of a manifest

-- The labels that a manifest gives the template are in order.
pub labels_rise : (m : Option Data) → rises (template_labels m)
labels_rise None = tt
labels_rise (Some m) = in_order (given (fields.labels m))

-- The annotations that a manifest gives the template are in order.
pub annotations_rise : (m : Option Data) → rises (template_annotations m)
annotations_rise None = tt
annotations_rise (Some m) = in_order (given (fields.annotations m))
