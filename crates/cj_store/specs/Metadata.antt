-- Metadata that a write leaves: Kubernetes API conventions, "Metadata".
use Rattle.std.specs.Prelude.{ℕ, ◌+◌, Bool, [], ◌∷◌, if◌then◌else◌}
use Rattle.cj_base.specs.declared.cause.Cause.TheVariants.{NotAllowed}
use Rattle.cj_base.specs.declared.field.Field.TheVariants.{ResourceVersion}
use Rattle.cj_base.specs.declared.refusal.Refusal.{Refusal}
use Rattle.cj_base.specs.declared.refusal.Refusal.TheVariants.{Invalid}
use Rattle.cj_types.specs.declared.meta.Meta.{Meta}
use Rattle.cj_types.specs.declared.meta.DraftMeta.{DraftMeta}
use Rattle.cj_store.specs.Content.{Content}

-- the metadata of a new object: a uid that no object had, the version of this write, generation 1
-- rules: create, uid-never-returns
abbrev pub new_meta : Content → DraftMeta → ℕ → Meta
new_meta s draft now = record {
  uid = s.uids + 1;
  version = s.version + 1;
  generation = 1;
  created = now;
  labels = draft.labels;
  annotations = draft.annotations;
}

-- the metadata after a write that leaves labels, annotations and spec alone
abbrev pub touched : Content → Meta → Meta
touched s meta = record meta { version = s.version + 1 }

-- the metadata after an update: the draft's labels and annotations; the generation grows by 1 if
-- the spec changes
-- rule: update
abbrev pub updated : Content → DraftMeta → Bool → Meta → Meta
updated s draft is_same meta = record meta {
  version = s.version + 1;
  generation = if is_same then meta.generation else meta.generation + 1;
  labels = draft.labels;
  annotations = draft.annotations;
}

-- the refusal of a create whose draft gives a version: `metadata.resourceVersion NotAllowed`
abbrev pub version_not_allowed : Refusal
version_not_allowed = Invalid (record { field = ResourceVersion; cause = NotAllowed } ∷ [])
