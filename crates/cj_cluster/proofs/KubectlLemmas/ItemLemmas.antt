-- What is read of an item, with or without faults.
use Rattle.std.proofs.Common.{◌≡◌, ◌∙◌, ◌==◌, ℕ, suc, Bool, true, List, [], ◌∷◌, length, Result, refl, sym, ap, arith}
use Rattle.std.proofs.lemmas.Bool.Decides.{nat_tests}
use Rattle.std.specs.Prelude.{unwrap_or}
use Rattle.serde_json.specs.Data.{Data}
use Rattle.cj_base.specs.declared.cause.Cause.{Cause}
use Rattle.cj_base.specs.declared.faults.FieldFault.{FieldFault}
use Rattle.cj_types.specs.declared.cron.CronJobDraft.{CronJobDraft}
use Rattle.cj_cluster.specs.declared.cron.ClusterCron.{ClusterCron}
use Rattle.cj_cluster.specs.declared.cron.CronMarks.{CronMarks}
use Rattle.cj_manifest.specs.Drafts.{given, value_or}
use Rattle.cj_cluster.specs.declared.kubectl.item.Item.{Item}
use Rattle.cj_cluster.specs.declared.kubectl.item.Item.TheVariants as Read
use Rattle.cj_cluster.specs.declared.kubectl.times.CronTimes.{CronTimes}
use Rattle.cj_cluster.specs.kubectl.Objects.{cron_made}
use Rattle.cj_cluster.specs.kubectl.Reading.{Unless, cron_at, marks_of}
use Rattle.cj_cluster.specs.kubectl.Rows.{active_of}

-- An item with faults is refused with just these.
pub unless_faulty : (faults fs : List FieldFault) (Further : Type 0) → fs ≡ faults → (fs ≡ [] → ⊥)
    → Unless faults (Read.Faulty fs) Further
unless_faulty [] fs Further is some = absurd (some is)
unless_faulty (f ∷ rest) fs Further is some = ap Read.Faulty is

-- An item without faults is read further.
pub unless_clear : (faults : List FieldFault) (r : Item) (Further : Type 0) → faults ≡ [] → Further
    → Unless faults r Further
unless_clear [] r Further is further = further
unless_clear (f ∷ rest) r Further is further = absurd (cc is)

-- For sound_cron: what is made of the draft, the times and the names that were read is the CronJob of the value.
pub cron_is : (place : ℕ) (d : Data) (draft same : CronJobDraft) (times : CronTimes) (names : List (List ℕ))
    (active : Result (List (List ℕ)) Cause) (marks : CronMarks) (cron : ClusterCron)
    → cron ≡ cron_made place same (unwrap_or same.meta.uid []) (value_or 0 times.created) names (given times.last)
    (given times.success) marks
    → same ≡ draft → names ≡ value_or [] active → active ≡ active_of d → marks ≡ marks_of d
    → cron ≡ cron_at place d draft times
cron_is place d draft same times names active marks cron is draft_is names_are active_is marks_are =
    is
    ∙ ap (λ m. cron_made place same (unwrap_or same.meta.uid []) (value_or 0 times.created) names (given times.last)
    (given times.success) m) marks_are
    ∙ ap (λ x. cron_made place x (unwrap_or x.meta.uid []) (value_or 0 times.created) names (given times.last)
    (given times.success) (marks_of d)) draft_is
    ∙ ap (λ x. cron_made place draft (unwrap_or draft.meta.uid []) (value_or 0 times.created) x (given times.last)
    (given times.success) (marks_of d)) (names_are ∙ ap (value_or []) active_is)

-- A list whose length tests as 0 is empty.
is_nil : (seen : List FieldFault) → (length seen == 0) ≡ true → seen ≡ []
is_nil [] h = refl
is_nil (f ∷ rest) h = absurd (no_length (length rest) h)
  where
    no_length : (n : ℕ) → (suc n == 0) ≡ true → ⊥
    no_length n h = grind (arith, nat_tests, h)

-- For sound_cron: where the slice of the faults tests as empty, there are none.
pub none_seen : (faults seen : List FieldFault) (test : Bool) → test ≡ (length seen == 0) → test ≡ true
    → seen ≡ faults → faults ≡ []
none_seen faults seen test is holds same = sym same ∙ is_nil seen (sym is ∙ holds)
