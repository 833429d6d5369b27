-- What follows where a manifest has no fault: each object is there, no number is a float, and the names are
-- well formed.
use Rattle.std.proofs.Common.{◌≡◌, ◌++◌, List, [], ◌∷◌, Bool, true, false, Option, Some, None, Result, Ok, Err, refl, sym, ap, subst, ◌∙◌}
use Rattle.std.specs.Prelude.{not}
use Rattle.std.specs.Result.{result_ok, result_err}
use Rattle.serde_json.specs.Data.{Data, null, boolean, number, string, array, object}
use Rattle.serde_json.specs.Written.{has_float}
use Rattle.cj_base.specs.declared.cause.Cause.{Cause}
use Rattle.cj_base.specs.declared.field.Field.{Field}
use Rattle.cj_base.specs.declared.field.Field.TheVariants as At
use Rattle.cj_base.specs.declared.faults.FieldFault.{FieldFault}
use Rattle.cj_types.specs.Keys.{fault_of}
use Rattle.cj_types.specs.declared.cron.CronJobDraft.{CronJobDraft}
use Rattle.cj_types.specs.declared.job.JobDraft.{JobDraft}
use Rattle.cj_zone.specs.declared.zone.Zone.{Zone}
use Rattle.cj_manifest.specs.declared.kind.ObjectKind.{ObjectKind}
use Rattle.cj_manifest.specs.declared.kind.ObjectKind.TheVariants as Of
use Rattle.cj_manifest.specs.Values.{when}
use Rattle.cj_manifest.specs.Faults.{with_fields, metadata_faults, cron_faults, head_faults, job_faults, top_faults, object_faults, cron_spec_faults, template_faults, job_spec_faults, template_fields, job_fields}
use Rattle.cj_manifest.specs.Drafts.{then_do, cron_draft, job_draft}
use Rattle.cj_manifest.specs.Reading.{IsNamed, HasNames}
use Rattle.cj_manifest.specs.Table as fields

-- Where two lists together are empty, the first is.
pub nil_left : {A : Type 0} (xs ys : List A) → xs ++ ys ≡ [] → xs ≡ []
nil_left [] ys h = refl
nil_left (x ∷ xs) ys h = absurd (cc h)

-- Where two lists together are empty, the second is.
pub nil_right : {A : Type 0} (xs ys : List A) → xs ++ ys ≡ [] → ys ≡ []
nil_right [] ys h = h
nil_right (x ∷ xs) ys h = absurd (cc h)

-- an object that has no fault, nor any row in it
pub record IsClear (rows : Data → List FieldFault) (r : Result Data Cause) : Type 0 where
  pub object : Data
  pub there : r ≡ Ok object
  pub clear : rows object ≡ []

-- Where an object with its rows has no fault, the object is there and its rows have none.
pub clear_fields : (f : Field) (rows : Data → List FieldFault) (r : Result Data Cause) → with_fields f rows r ≡ []
    → IsClear rows r
clear_fields f rows (Ok d) h = record { object = d; there = refl; clear = h }
clear_fields f rows (Err c) h = absurd (cc h)

-- Where no fault is made of a cause, there was no cause.
pub no_cause : (f : Field) (o : Option Cause) → fault_of f o ≡ [] → o ≡ None
no_cause f None h = refl
no_cause f (Some c) h = absurd (cc h)

-- ---- the whole

-- For whole_ok: a value that is let through where a test is false is itself, and the test is.
when_ok : (b : Bool) (c : Cause) (d x : Data) → when (not b) c d ≡ Ok x → (d ≡ x) × (b ≡ false)
when_ok true c d x h = absurd (cc h)
when_ok false c d x h = (cc h, refl)

-- What is let through as a whole manifest is the value itself, and that has no float.
whole_ok : (d x : Data) → fields.whole d ≡ Ok x → (d ≡ x) × (has_float d ≡ false)
whole_ok null x h = absurd (cc h)
whole_ok (boolean b) x h = absurd (cc h)
whole_ok (number n) x h = absurd (cc h)
whole_ok (string s) x h = absurd (cc h)
whole_ok (array ds) x h = absurd (cc h)
whole_ok (object ms) x h = when_ok (has_float (object ms)) _ (object ms) x h

-- Where a manifest as a whole has no fault, no number in it is a float and its rows have no fault.
pub plain : (rows : Data → List FieldFault) (d : Data) → with_fields At.Whole rows (fields.whole d) ≡ []
    → (has_float d ≡ false) × (rows d ≡ [])
plain rows d h =
    let w = clear_fields At.Whole rows (fields.whole d) h in
    let same = whole_ok d w.object w.there in
    (same.1, subst (λ x. rows x ≡ []) (sym same.0) w.clear)

-- ---- names

-- In metadata without a fault, the rows of the name and the namespace have no cause.
pub named : (k : ObjectKind) (m : Data) → metadata_faults k m ≡ [] → IsNamed k m
named k m h =
    let two = nil_left _ _ (nil_left _ _ (nil_left _ _ (nil_left _ _ (nil_left _ _ h)))) in
    (no_cause At.Name _ (nil_left _ _ two), no_cause At.Namespace _ (nil_right _ _ two))

-- Where the top of a manifest has no fault, its metadata is there and has none.
pub metadata_clear : (k : ObjectKind) (d : Data) → top_faults k d ≡ [] → IsClear (metadata_faults k) (fields.metadata d)
metadata_clear k d h = clear_fields At.Metadata (metadata_faults k) (fields.metadata d) (nil_right _ _ h)

-- For has_names: an object that a row gives is the one that is found by it.
same_object : (r : Result Data Cause) (x m : Data) → r ≡ Ok x → result_ok r ≡ Some m → x ≡ m
same_object (Ok y) x m h is = cc (h, is)
same_object (Err e) x m h is = absurd (cc h)

-- Where the top of a manifest has no fault, its name and its namespace have no cause.
pub has_names : (k : ObjectKind) (d : Data) → top_faults k d ≡ [] → HasNames k d
has_names k d h m is =
    let c = metadata_clear k d h in
    let same : c.object ≡ m = same_object (fields.metadata d) c.object m c.there is in
    named k m (subst (λ x. metadata_faults k x ≡ []) same c.clear)

-- ---- drafts

-- Where a row gives an object, the draft goes on with that object.
pub step : {A B : Type 0} (r : Result A Cause) (x : A) (f : A → Option B) → r ≡ Ok x → then_do (result_ok r) f ≡ f x
step r x f h = ap (λ q. then_do (result_ok q) f) h

-- A CronJob's manifest without a fault has a draft.
pub cron_drafted : (zones : List Zone) (d : Data) → cron_faults zones d ≡ []
    → (r : CronJobDraft) × (cron_draft d ≡ Some r)
cron_drafted zones d h =
    let rows = (plain (object_faults Of.Cron (cron_spec_faults zones)) d h).1 in
    let m = metadata_clear Of.Cron d (nil_left _ _ rows) in
    let s = clear_fields At.Spec (cron_spec_faults zones) (fields.spec d) (nil_right _ _ rows) in
    let t = clear_fields At.JobTemplate template_faults (fields.job_template s.object) (nil_right _ _ s.clear) in
    let j = clear_fields At.JobTemplateSpec (job_spec_faults template_fields) (fields.job_spec t.object)
    (nil_right _ _ t.clear) in (
      _,
      step (fields.metadata d) m.object _ m.there ∙ step (fields.spec d) s.object _ s.there
          ∙ step (fields.job_template s.object) t.object _ t.there ∙ step (fields.job_spec t.object) j.object _ j.there,
    )

-- A Job's manifest without a fault has a draft.
pub job_drafted : (d : Data) → job_faults d ≡ [] → (r : JobDraft) × (job_draft d ≡ Some r)
job_drafted d h =
    let rows = (plain (object_faults Of.Job (job_spec_faults job_fields)) d h).1 in
    let m = metadata_clear Of.Job d (nil_left _ _ rows) in
    let s = clear_fields At.Spec (job_spec_faults job_fields) (fields.spec d) (nil_right _ _ rows) in
    (_, step (fields.metadata d) m.object _ m.there ∙ step (fields.spec d) s.object _ s.there)

-- ---- what the reading of a manifest needs

-- What is there isn't absent.
some_is_there : {X : Type 0} (o : Option X) (x : X) → o ≡ Some x → o ≡ None → ⊥
some_is_there None x h n = cc h
some_is_there (Some y) x h n = cc n

-- For cron_of: no number in a CronJob's manifest without a fault is a float.
pub cron_plain : (zones : List Zone) (d : Data) → cron_faults zones d ≡ [] → has_float d ≡ false
cron_plain zones d h = (plain (object_faults Of.Cron (cron_spec_faults zones)) d h).0

-- For cron_of: name and namespace in a CronJob's manifest without a fault have no cause.
pub cron_named : (zones : List Zone) (d : Data) → cron_faults zones d ≡ [] → HasNames Of.Cron d
cron_named zones d h = has_names Of.Cron d (nil_left _ _ (plain (object_faults Of.Cron (cron_spec_faults zones)) d h).1)

-- For cron_of: the draft of a CronJob's manifest without a fault isn't absent.
pub cron_there : (zones : List Zone) (d : Data) → cron_faults zones d ≡ [] → cron_draft d ≡ None → ⊥
cron_there zones d h none = let r = cron_drafted zones d h in some_is_there (cron_draft d) r.0 r.1 none

-- For job_of: no number in a Job's manifest without a fault is a float.
pub job_plain : (d : Data) → job_faults d ≡ [] → has_float d ≡ false
job_plain d h = (plain (object_faults Of.Job (job_spec_faults job_fields)) d h).0

-- For job_of: name and namespace in a Job's manifest without a fault have no cause.
pub job_named : (d : Data) → job_faults d ≡ [] → HasNames Of.Job d
job_named d h = has_names Of.Job d (nil_left _ _ (plain (object_faults Of.Job (job_spec_faults job_fields)) d h).1)

-- For job_of: the draft of a Job's manifest without a fault isn't absent.
pub job_there : (d : Data) → job_faults d ≡ [] → job_draft d ≡ None → ⊥
job_there d h none = let r = job_drafted d h in some_is_there (job_draft d) r.0 r.1 none

-- For head_of: name and namespace in a Job without a fault in its head have no cause.
pub head_named : (d : Data) → head_faults d ≡ [] → HasNames Of.Job d
head_named d h = has_names Of.Job d (plain (top_faults Of.Job) d h).1

-- For head_there: what a row gives isn't absent.
given_there : {A : Type 0} (r : Result A Cause) (x : A) (c : Cause) → r ≡ Ok x → result_err r ≡ Some c → ⊥
given_there (Ok y) x c h e = cc e
given_there (Err y) x c h e = cc h

-- For head_of: the metadata of a Job without a fault in its head is there.
pub head_there : (d : Data) → head_faults d ≡ [] → (c : Cause) → result_err (fields.metadata d) ≡ Some c → ⊥
head_there d h c e =
    let m = metadata_clear Of.Job d (plain (top_faults Of.Job) d h).1 in
    given_there (fields.metadata d) m.object c m.there e
