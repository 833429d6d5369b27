-- What a manifest with these faults says.
use Rattle.std.proofs.Common.{◌≡◌, ◌≢◌, ◌∙◌, List, [], Option, Some, Result, Ok, Err, refl, sym, ap, subst, rules}
use Rattle.std.specs.Prelude.{IfErr}
use Rattle.std.specs.Result.{IsErrAnd}
use Rattle.serde_json.specs.Data.{Data}
use Rattle.cj_base.specs.declared.faults.FieldFault.{FieldFault}
use Rattle.cj_types.specs.declared.cron.CronJobDraft.{CronJobDraft}
use Rattle.cj_types.specs.declared.job.JobDraft.{JobDraft}
use Rattle.cj_zone.specs.declared.zone.Zone.{Zone}
use Rattle.cj_manifest.specs.Drafts.{cron_draft, job_draft}
use Rattle.cj_manifest.specs.Faults.{cron_faults, job_faults}
use Rattle.cj_scenario.specs.declared.fault.SceneFault.{SceneFault}
use Rattle.cj_scenario.specs.declared.fault.SceneFault.TheVariants.{Form, Manifest, Memory, Syntax}
use Rattle.cj_scenario.specs.Made.{IsFirst}
use Rattle.cj_script.specs.Drafts.{cron_said, drafted, job_said, needed}

-- A manifest that has no fault and has a draft says this draft.
drafted_fine : {A : Type 0} (faults : List FieldFault) (draft : Option A) (x : A) → faults ≡ [] → draft ≡ Some x
    → drafted faults draft ≡ Ok x
drafted_fine faults draft x sound is = ap (λ fs. drafted fs draft) sound ∙ ap (λ o. needed o) is

-- A manifest that has faults is refused by the first of them.
drafted_faulty : {A : Type 0} (faults : List FieldFault) (draft : Option A) (e : SceneFault) → IsFirst faults e
    → e ≢ Memory → drafted faults draft ≡ Err e
drafted_faulty faults draft Syntax h ne = absurd h
drafted_faulty faults draft Form h ne = absurd h
drafted_faulty faults draft (Manifest fault) (others, is) ne = ap (λ fs. drafted fs draft) is
drafted_faulty faults draft Memory h ne = absurd (ne refl)

-- For cron_said: a CronJob's manifest that has no fault and has a draft says this draft.
pub cron_fine : (zones : List Zone) (m : Data) (x : CronJobDraft) → cron_faults zones m ≡ [] → cron_draft m ≡ Some x
    → cron_said zones m ≡ Ok x
unfolding cron_said
cron_fine zones m x sound is = drafted_fine (cron_faults zones m) (cron_draft m) x sound is

-- For cron_said: a CronJob's manifest that has faults is refused by the first of them.
pub cron_faulty : (zones : List Zone) (m : Data) (e : SceneFault) → IsFirst (cron_faults zones m) e → e ≢ Memory
    → cron_said zones m ≡ Err e
unfolding cron_said
cron_faulty zones m e h ne = drafted_faulty (cron_faults zones m) (cron_draft m) e h ne

-- For job_draft: a Job's manifest that has no fault and has a draft says this draft.
pub job_fine : (m : Data) (x : JobDraft) → job_faults m ≡ [] → job_draft m ≡ Some x → job_said m ≡ Ok x
unfolding job_said
job_fine m x sound is = drafted_fine (job_faults m) (job_draft m) x sound is

-- For job_draft: a Job's manifest that has faults is refused by the first of them.
pub job_faulty : (m : Data) (e : SceneFault) → IsFirst (job_faults m) e → e ≢ Memory → job_said m ≡ Err e
unfolding job_said
job_faulty m e h ne = drafted_faulty (job_faults m) (job_draft m) e h ne

-- a refusal that is handed on
pub moved : {T : Type 0} (r : Result T SceneFault) (e : SceneFault) (P : SceneFault → Type 0) → IsErrAnd r (λ x. x ≡ e)
    → P e → IfErr r P
moved (Ok x) e P is h = search rules
moved (Err x) e P is h = subst P (sym is) h
