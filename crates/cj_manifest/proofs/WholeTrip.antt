-- A written object of either kind: its rows at the top.
use Rattle.std.proofs.Common.{◌≡◌, List, [], false, codes, Option, Some, None, Ok, ap, ◌∙◌}
use Rattle.std.specs.Prelude.{not}
use Rattle.std.specs.Result.{result_err}
use Rattle.serde_json.specs.Data.{Data, null, boolean, number, string, array, object, Members}
use Rattle.serde_json.specs.Written.{has_float}
use Rattle.cj_base.specs.declared.cause.Cause.TheVariants as Why
use Rattle.cj_base.specs.declared.field.Field.TheVariants as At
use Rattle.cj_base.specs.declared.faults.FieldFault.{FieldFault}
use Rattle.cj_json.specs.Objects.{object_data}
use Rattle.cj_manifest.specs.declared.kind.ObjectKind.{ObjectKind}
use Rattle.cj_manifest.specs.declared.kind.ObjectKind.TheVariants as Of
use Rattle.cj_manifest.specs.Faults.{with_fields, metadata_faults, object_faults}
use Rattle.cj_manifest.specs.Values.{when, required, an_object, choice}
use Rattle.cj_manifest.specs.Table as fields
use Rattle.cj_manifest.proofs.MetaTrip.{no_faults, no_fault}
use Rattle.cj_manifest.proofs.WrittenParts.{WholeIs}

-- Two things that are the same once found are the same.
pub same_some : {A : Type 0} (x y : A) → Some x ≡ Some y → x ≡ y
same_some x y h = cc h

-- an object that is found
pub object_is : (o : Option Data) (d : Data) → required an_object o ≡ Ok d → (ms : Members) × (d ≡ object ms)
object_is None d h = absurd (cc h)
object_is (Some null) d h = absurd (cc h)
object_is (Some (boolean b)) d h = absurd (cc h)
object_is (Some (number n)) d h = absurd (cc h)
object_is (Some (string s)) d h = absurd (cc h)
object_is (Some (array ds)) d h = absurd (cc h)
object_is (Some (object ms)) d h = (ms, cc h)

-- an object without a float, whose rows at the top are these
pub record WholeSays (k : ObjectKind) (m s : Data) (w : Data) : Type 0 where
  pub whole : fields.whole w ≡ Ok w
  pub api_version : result_err (fields.api_version k w) ≡ None
  pub kind : result_err (fields.kind k w) ≡ None
  pub metadata : fields.metadata w ≡ Ok m
  pub spec : fields.spec w ≡ Ok s

-- The row of the API version has no cause where batch/v1 is written, for either kind.
version_row : (k : ObjectKind) (o : Option Data) → o ≡ Some (string (codes "batch/v1"))
    → result_err (required (fields.supported k) o) ≡ None
version_row Of.Cron o h = ap (λ x. result_err (required (fields.supported Of.Cron) x)) h
version_row Of.Job o h = ap (λ x. result_err (required (fields.supported Of.Job) x)) h

-- The row of the kind has no cause where the name of the kind is written.
kind_field : (k : ObjectKind) (o : Option Data) → o ≡ Some (string (fields.kind_name k))
    → result_err (required (choice (fields.kind_name k)) o) ≡ None
kind_field Of.Cron o h = ap (λ x. result_err (required (choice (codes "CronJob")) x)) h
kind_field Of.Job o h = ap (λ x. result_err (required (choice (codes "Job")) x)) h

-- A written object without a float has the rows of its top: version, kind, metadata and spec.
pub whole_says : (k : ObjectKind) (metadata ms status : Members)
    → has_float (object_data (fields.kind_name k) metadata (object ms) status) ≡ false
    → WholeIs (fields.kind_name k) metadata (object ms) (object_data (fields.kind_name k) metadata (object ms) status)
    → WholeSays k (object metadata) (object ms) (object_data (fields.kind_name k) metadata (object ms) status)
whole_says k metadata ms status plain is =
    let w = object_data (fields.kind_name k) metadata (object ms) status in
    record {
      whole = ap (λ b. when (not b) Why.Fraction w) plain;
      api_version = version_row k _ is.api_version;
      kind = kind_field k _ is.kind;
      metadata = ap (required an_object) is.metadata;
      spec = ap (required an_object) is.spec;
    }

-- no fault stands in it where none stands in its metadata and its spec
pub whole_sound : (k : ObjectKind) (metadata spec w : Data) (spec_faults : Data → List FieldFault)
    → WholeSays k metadata spec w → metadata_faults k metadata ≡ [] → spec_faults spec ≡ []
    → with_fields At.Whole (object_faults k spec_faults) (fields.whole w) ≡ []
whole_sound k metadata spec w spec_faults says in_metadata in_spec =
    ap (with_fields At.Whole (object_faults k spec_faults)) says.whole
    ∙ no_faults _ _
    (no_faults _ _ (no_faults _ _ (no_fault At.ApiVersion (fields.api_version k w) says.api_version)
    (no_fault At.Kind (fields.kind k w) says.kind))
    (ap (with_fields At.Metadata (metadata_faults k)) says.metadata ∙ in_metadata))
    (ap (with_fields At.Spec spec_faults) says.spec ∙ in_spec)
