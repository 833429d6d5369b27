-- What is written of a Job that has what a draft says reads back as that draft.
use Rattle.std.proofs.Common.{◌≡◌, ◌<◌, ◌≤◌, ◌^◌, arith, ℕ, List, [], map, codes, Option, Some, option_map, sym, ap, ◌∙◌, subst}
use Rattle.std.specs.Result.{result_ok}
use Rattle.serde_json.specs.Data.{object, Members}
use Rattle.serde_json.specs.Read.{max_depth}
use Rattle.serde_json.specs.Written.{compact_text}
use Rattle.serde_json.proofs.Nesting.{depth-read}
use Rattle.cj_base.specs.declared.field.Field.TheVariants as At
use Rattle.cj_types.specs.declared.job.Job.{Job}
use Rattle.cj_types.specs.declared.job.JobDraft.{JobDraft}
use Rattle.cj_types.specs.declared.meta.DraftMeta.{DraftMeta}
use Rattle.cj_types.specs.declared.owners.OwnerRef.{OwnerRef}
use Rattle.cj_types.specs.Keys.{Place}
use Rattle.cj_json.specs.Parts.{owner_data, kept_value}
use Rattle.cj_json.specs.Objects.{metadata_members, job_status_members, job_data, job_written}
use Rattle.cj_json.proofs.Plain.{job_written_plain}
use Rattle.cj_manifest.specs.declared.kind.ObjectKind.TheVariants as Of
use Rattle.cj_manifest.specs.declared.level.Level.TheVariants as In
use Rattle.cj_manifest.specs.Drafts.{given, job_draft}
use Rattle.cj_manifest.specs.Faults.{object_faults, job_faults, job_spec_faults, job_fields}
use Rattle.cj_manifest.specs.Laws.{ReadsBack, JobReadsBack, identified}
use Rattle.cj_manifest.specs.Table as fields
use Rattle.cj_manifest.specs.Warnings.{dropped, job_warnings}
use Rattle.cj_manifest.proofs.FloatLemmas.{no_float-object}
use Rattle.cj_manifest.proofs.DepthLemmas.{depth-one_less, depth-most}
use Rattle.cj_manifest.proofs.LabelTrips.{in_order}
use Rattle.cj_manifest.proofs.MetaTrip.{no_faults, IsNamedWell, named_well, meta_draft, meta_says}
use Rattle.cj_manifest.proofs.Rising.{rises}
use Rattle.cj_manifest.proofs.Sound.{nil_left, nil_right, plain, clear_fields, metadata_clear, named, step}
use Rattle.cj_manifest.proofs.TextTrips.{was_read, object_back, reads_again, kept_as_read}
use Rattle.cj_manifest.proofs.WrittenBack.{IsFlat, metadata, whole_flat, job_status}
use Rattle.cj_manifest.proofs.WholeTrip.{object_is, same_some, whole_says, whole_sound}
use Rattle.cj_manifest.proofs.WrittenParts.{whole_is, meta_is}

-- a Job as its manifest says it
abbrev draft_of : Job → JobDraft
draft_of o = record { key = o.key; meta = meta_draft o.meta; owners = o.owners; spec = o.spec }

-- what its manifest leaves of a Job
record IsWellFormed (o : Job) (ms : Members) : Type 0 where
  pub named : IsNamedWell Of.Job o.key
  pub labels : rises o.meta.labels
  pub annotations : rises o.meta.annotations
  pub kept : kept_value o.spec ≡ Some (object ms)
  pub text : compact_text (object ms) ≡ o.spec
  pub sound : job_spec_faults job_fields (object ms) ≡ []
  pub flat : IsFlat 126 (object ms)
  pub generation : o.meta.generation < 2 ^ 64

abbrev some_draft : Place → DraftMeta → List OwnerRef → List ℕ → Option JobDraft
some_draft key meta owners spec = Some (record { key = key; meta = meta; owners = owners; spec = spec })

-- Drafts of Jobs with the same key, metadata, owners and spec are the same.
made : (k l : Place) (m n : DraftMeta) (os ps : List OwnerRef) (s t : List ℕ) → k ≡ l → m ≡ n → os ≡ ps → s ≡ t
    → some_draft k m os s ≡ some_draft l n ps t
made k l m n os ps s t hk hm ho hs = λ i. some_draft (hk i) (hm i) (ho i) (hs i)

-- A well formed Job can be written, and what is written reads back as the draft that it is.
reads_back : (o : Job) (ms : Members) → IsWellFormed o ms
    → ReadsBack JobDraft job_faults job_draft job_warnings (job_written o) (draft_of o)
reads_back o ms h =
    let w = job_data o (object ms) in
    let members = metadata_members o.key o.meta o.owners in
    let written : job_written o ≡ Some w = ap (option_map (job_data o)) h.kept in
    let parts = whole_is (codes "Job") members (object ms) (job_status_members o.outcome) in
    let whole = whole_says Of.Job members ms (job_status_members o.outcome) (job_written_plain o w written) parts in
    let meta = meta_is o.key o.meta (map owner_data o.owners) o.meta.labels o.meta.annotations in
    let back : IsFlat max_depth w = whole_flat 125 (codes "Job") (metadata 123 o.key o.meta o.owners h.generation)
    (object ms) (job_status 123 o.outcome) h.flat in
    let says = meta_says Of.Job o.key o.meta o.owners (object members) h.named h.labels h.annotations meta in
    record {
      value = w;
      written = written;
      reads = reads_again w back.back (job_written_plain o w written) back.flat;
      says = record {
        sound = whole_sound Of.Job (object members) (object ms) w (job_spec_faults job_fields) whole says.sound h.sound;
        drafted =
            step (fields.metadata w) (object members) _ whole.metadata ∙ step (fields.spec w) (object ms) _ whole.spec
            ∙ made _ _ _ _ _ _ _ _ says.key_is says.meta_is says.owners_are h.text;
        warned = sym (no_faults _ _ parts.known (ap (λ r. dropped In.JobMetadata (result_ok r)) whole.metadata
            ∙ meta.known));
      };
    }

-- ---- from the manifest on

-- A Job's spec that nests as deep as a Job's manifest lets it is not too deep to be read.
below : 126 ≤ max_depth
below = omega arith

-- For manifest_laws: a Job that has what a manifest says reads back as that manifest's draft.
pub job_reads_back : JobReadsBack
job_reads_back bytes draft warnings o reading is =
    let d = reading.value in
    let rows = plain (object_faults Of.Job (job_spec_faults job_fields)) d reading.sound in
    let top = nil_left _ _ rows.1 in
    let m = metadata_clear Of.Job d top in
    let s = clear_fields At.Spec (job_spec_faults job_fields) (fields.spec d) (nil_right _ _ rows.1) in
    let found = sym (ap result_ok s.there) in
    let body = object_is _ s.object s.there in
    let source = same_some draft _ (sym reading.drafted ∙ step (fields.metadata d) m.object _ m.there
    ∙ step (fields.spec d) s.object _ s.there) in
    let key = is.key ∙ ap (λ r. r.key) source in
    let text = is.spec ∙ ap (λ r. r.spec) source in
    let plain_spec = no_float-object (codes "spec") d s.object rows.0 found in
    let flat = depth-one_less (codes "spec") d s.object 126 (depth-read bytes d reading.reads.1) found in
    let back = object_back (codes "spec") d s.object (was_read bytes d reading.reads.1) found in
    let kept = kept_as_read s.object back plain_spec (depth-most s.object 126 max_depth flat below) in
    let same : draft_of o ≡ record draft { meta = identified draft.meta o.meta } =
    λ i. record {
      key = is.key i;
      meta = record (meta_draft o.meta) {
        labels = is.meta.labels i;
        annotations = is.meta.annotations i;
      };
      owners = is.owners i;
      spec = is.spec i;
    } in
    subst (ReadsBack JobDraft job_faults job_draft job_warnings (job_written o)) same (reads_back o body.0 (record {
      named = subst (IsNamedWell Of.Job) (sym key) (named_well Of.Job m.object (named Of.Job m.object m.clear));
      labels = subst (λ l. rises l) (sym (is.meta.labels ∙ ap (λ r. r.meta.labels) source))
          (in_order (given (fields.labels m.object)));
      annotations = subst (λ l. rises l) (sym (is.meta.annotations ∙ ap (λ r. r.meta.annotations) source))
          (in_order (given (fields.annotations m.object)));
      kept = ap kept_value text ∙ kept ∙ ap Some body.1;
      text = ap compact_text (sym body.1) ∙ sym text;
      sound = subst (λ x. job_spec_faults job_fields x ≡ []) body.1 s.clear;
      flat = subst (IsFlat 126) body.1 (record { back = back; flat = flat });
      generation = is.meta.generation;
    }))
