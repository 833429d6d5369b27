-- What is written of a CronJob that has what a draft says reads back as that draft.
use Rattle.std.proofs.Common.{◌≡◌, ◌<◌, ◌≤◌, ◌^◌, arith, List, [], codes, Option, Some, option_map, sym, ap, ◌∙◌, subst}
use Rattle.std.specs.Result.{result_ok}
use Rattle.serde_json.specs.Data.{object, Members}
use Rattle.serde_json.specs.Read.{max_depth}
use Rattle.serde_json.specs.Written.{compact_text}
use Rattle.serde_json.proofs.Nesting.{depth-read}
use Rattle.cj_base.specs.declared.field.Field.TheVariants as At
use Rattle.cj_types.specs.declared.cron.CronJob.{CronJob}
use Rattle.cj_types.specs.declared.cron.CronJobDraft.{CronJobDraft}
use Rattle.cj_types.specs.declared.cron.CronSpec.{CronSpec}
use Rattle.cj_types.specs.declared.meta.DraftMeta.{DraftMeta}
use Rattle.cj_types.specs.Keys.{Place}
use Rattle.cj_json.specs.Parts.{kept_value}
use Rattle.cj_json.specs.Objects.{metadata_members, cron_status_members, cron_spec_data, template_data, cron_data, cron_written}
use Rattle.cj_json.proofs.Plain.{cron_written_plain}
use Rattle.cj_zone.specs.declared.zone.Zone.{Zone}
use Rattle.cj_manifest.specs.declared.kind.ObjectKind.TheVariants as Of
use Rattle.cj_manifest.specs.declared.level.Level.TheVariants as In
use Rattle.cj_manifest.specs.Drafts.{given, cron_draft}
use Rattle.cj_manifest.specs.Faults.{object_faults, cron_faults, cron_spec_faults, template_faults, job_spec_faults, template_fields}
use Rattle.cj_manifest.specs.Laws.{ReadsBack, CronReadsBack, identified}
use Rattle.cj_manifest.specs.Owners.{then_do}
use Rattle.cj_manifest.specs.Table as fields
use Rattle.cj_manifest.specs.Warnings.{dropped, template_in, template_metadata_in, cron_warnings}
use Rattle.cj_manifest.proofs.CronParts.{spec_members}
use Rattle.cj_manifest.proofs.FloatLemmas.{no_float-object}
use Rattle.cj_manifest.proofs.DepthLemmas.{depth-one_less, depth-most}
use Rattle.cj_manifest.proofs.LabelTrips.{in_order}
use Rattle.cj_manifest.proofs.MetaTrip.{no_faults, IsNamedWell, named_well, meta_draft, meta_says}
use Rattle.cj_manifest.proofs.Rising.{rises}
use Rattle.cj_manifest.proofs.Sound.{nil_left, nil_right, plain, clear_fields, metadata_clear, named, step}
use Rattle.cj_manifest.proofs.SpecTrip.{IsFineSpec, fine_spec, spec_says}
use Rattle.cj_manifest.proofs.TextTrips.{was_read, object_back, reads_again, kept_as_read}
use Rattle.cj_manifest.proofs.WrittenBack.{IsFlat, metadata, whole_flat}
use Rattle.cj_manifest.proofs.CronBack.{cron_status, cron_spec_flat}
use Rattle.cj_manifest.proofs.WholeTrip.{object_is, same_some, whole_says, whole_sound}
use Rattle.cj_manifest.proofs.WrittenParts.{whole_is, meta_is, cron_meta_known}

-- a CronJob as its manifest says it
abbrev draft_of : CronJob → CronJobDraft
draft_of o = record { key = o.key; meta = meta_draft o.meta; spec = o.spec }

-- what its manifest leaves of a CronJob
record IsWellFormed (zones : List Zone) (o : CronJob) (ms : Members) : Type 0 where
  pub named : IsNamedWell Of.Cron o.key
  pub labels : rises o.meta.labels
  pub annotations : rises o.meta.annotations
  pub spec : IsFineSpec zones o.spec
  pub kept : kept_value o.spec.template.spec ≡ Some (object ms)
  pub text : compact_text (object ms) ≡ o.spec.template.spec
  pub sound : job_spec_faults template_fields (object ms) ≡ []
  pub flat : IsFlat 124 (object ms)
  pub generation : o.meta.generation < 2 ^ 64

abbrev some_draft : Place → DraftMeta → CronSpec → Option CronJobDraft
some_draft key meta spec = Some (record { key = key; meta = meta; spec = spec })

-- Drafts of CronJobs with the same key, metadata and spec are the same.
made : (k l : Place) (m n : DraftMeta) (s t : CronSpec) → k ≡ l → m ≡ n → s ≡ t → some_draft k m s ≡ some_draft l n t
made k l m n s t hk hm hs = λ i. some_draft (hk i) (hm i) (hs i)

-- A well formed CronJob can be written, and what is written reads back as the draft that it is.
reads_back : (zones : List Zone) (o : CronJob) (ms : Members) → IsWellFormed zones o ms
    → ReadsBack CronJobDraft (cron_faults zones) cron_draft cron_warnings (cron_written o) (draft_of o)
reads_back zones o ms h =
    let w = cron_data o (object ms) in
    let members = metadata_members o.key o.meta [] in
    let s = cron_spec_data o.spec (object ms) in
    let t = template_data o.spec.template (object ms) in
    let status = cron_status_members o.key.namespace o.status in
    let written : cron_written o ≡ Some w = ap (option_map (cron_data o)) h.kept in
    let parts = whole_is (codes "CronJob") members s status in
    let whole = whole_says Of.Cron members (spec_members o.spec o.spec.time_zone o.spec.starting_deadline_seconds t)
    status (cron_written_plain o w written) parts in
    let meta = meta_is o.key o.meta [] o.meta.labels o.meta.annotations in
    let back : IsFlat max_depth w =
    whole_flat 125 (codes "CronJob") (metadata 123 o.key o.meta [] h.generation) s
    (cron_status 123 o.key.namespace o.status) (cron_spec_flat zones 122 o.spec (object ms) h.spec h.flat) in
    let says = meta_says Of.Cron o.key o.meta [] (object members) h.named h.labels h.annotations meta in
    let spec = spec_says zones o.spec ms h.spec h.text h.sound in
    let template : template_in w ≡ Some t = ap (λ r. then_do (result_ok r) (λ x. result_ok (fields.job_template x)))
    whole.spec ∙ ap result_ok spec.template in
    let inner : template_metadata_in w ≡ given (fields.template_metadata t) =
    ap (λ x. then_do x (λ y. given (fields.template_metadata y))) template in
    record {
      value = w;
      written = written;
      reads = reads_again w back.back (cron_written_plain o w written) back.flat;
      says = record {
        sound = whole_sound Of.Cron (object members) s w (cron_spec_faults zones) whole says.sound spec.sound;
        drafted =
            step (fields.metadata w) (object members) _ whole.metadata ∙ step (fields.spec w) s _ whole.spec
            ∙ step (fields.job_template s) t _ spec.template ∙ step (fields.job_spec t) (object ms) _ spec.job
            ∙ made _ _ _ _ _ _ says.key_is says.meta_is spec.said;
        warned = sym (
            no_faults _ _ (no_faults _ _ (no_faults _ _ (no_faults _ _ (no_faults _ _ parts.current parts.known)
            (ap (λ r. dropped In.CronMetadata (result_ok r)) whole.metadata
            ∙ cron_meta_known o.key o.meta o.meta.labels o.meta.annotations))
            (ap (λ r. dropped In.CronSpec (result_ok r)) whole.spec ∙ spec.known))
            (ap (dropped In.Template) template ∙ spec.template_known))
            (ap (dropped In.TemplateMetadata) inner ∙ spec.inner_known));
      };
    }

-- ---- from the manifest on

-- A Job's spec that nests as deep as a CronJob's manifest lets it is not too deep to be read.
below : 124 ≤ max_depth
below = omega arith

-- For manifest_laws: a CronJob that has what a manifest says reads back as that manifest's draft.
pub cron_reads_back : CronReadsBack
cron_reads_back zones bytes draft warnings o reading is =
    let d = reading.value in
    let rows = plain (object_faults Of.Cron (cron_spec_faults zones)) d reading.sound in
    let m = metadata_clear Of.Cron d (nil_left _ _ rows.1) in
    let s = clear_fields At.Spec (cron_spec_faults zones) (fields.spec d) (nil_right _ _ rows.1) in
    let t = clear_fields At.JobTemplate template_faults (fields.job_template s.object) (nil_right _ _ s.clear) in
    let j = clear_fields At.JobTemplateSpec (job_spec_faults template_fields) (fields.job_spec t.object)
    (nil_right _ _ t.clear) in
    let spec_found = sym (ap result_ok s.there) in
    let template_found = sym (ap result_ok t.there) in
    let job_found = sym (ap result_ok j.there) in
    let body = object_is _ j.object j.there in
    let source = same_some draft _ (sym reading.drafted ∙ step (fields.metadata d) m.object _ m.there
    ∙ step (fields.spec d) s.object _ s.there ∙ step (fields.job_template s.object) t.object _ t.there
    ∙ step (fields.job_spec t.object) j.object _ j.there) in
    let key = is.key ∙ ap (λ r. r.key) source in
    let spec = is.spec ∙ ap (λ r. r.spec) source in
    let text = ap (λ r. r.template.spec) spec in
    let plain_spec = no_float-object (codes "spec") d s.object rows.0 spec_found in
    let plain_template = no_float-object (codes "jobTemplate") s.object t.object plain_spec template_found in
    let plain_job = no_float-object (codes "spec") t.object j.object plain_template job_found in
    let flat_spec = depth-one_less (codes "spec") d s.object 126 (depth-read bytes d reading.reads.1) spec_found in
    let flat_template = depth-one_less (codes "jobTemplate") s.object t.object 125 flat_spec template_found in
    let flat_job = depth-one_less (codes "spec") t.object j.object 124 flat_template job_found in
    let back_spec = object_back (codes "spec") d s.object (was_read bytes d reading.reads.1) spec_found in
    let back_template = object_back (codes "jobTemplate") s.object t.object back_spec template_found in
    let back_job = object_back (codes "spec") t.object j.object back_template job_found in
    let kept = kept_as_read j.object back_job plain_job (depth-most j.object 124 max_depth flat_job below) in
    let same : draft_of o ≡ record draft { meta = identified draft.meta o.meta } =
    λ i. record {
      key = is.key i;
      meta = record (meta_draft o.meta) {
        labels = is.meta.labels i;
        annotations = is.meta.annotations i;
      };
      spec = is.spec i;
    } in
    subst (ReadsBack CronJobDraft (cron_faults zones) cron_draft cron_warnings (cron_written o)) same
    (reads_back zones o body.0 (record {
      named = subst (IsNamedWell Of.Cron) (sym key) (named_well Of.Cron m.object (named Of.Cron m.object m.clear));
      labels = subst (λ l. rises l) (sym (is.meta.labels ∙ ap (λ r. r.meta.labels) source))
          (in_order (given (fields.labels m.object)));
      annotations = subst (λ l. rises l) (sym (is.meta.annotations ∙ ap (λ r. r.meta.annotations) source))
          (in_order (given (fields.annotations m.object)));
      spec = subst (IsFineSpec zones) (sym spec) (fine_spec zones s.object t.object j.object s.clear);
      kept = ap kept_value text ∙ kept ∙ ap Some body.1;
      text = ap compact_text (sym body.1) ∙ sym text;
      sound = subst (λ x. job_spec_faults template_fields x ≡ []) body.1 j.clear;
      flat = subst (IsFlat 124) body.1 (record { back = back_job; flat = flat_job });
      generation = is.meta.generation;
    }))
