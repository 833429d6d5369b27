-- Why a value is refused: never as no JSON.
use Rattle.std.proofs.Common.{◌≡◌, ◌≢◌, ◌++◌, List, [], ◌∷◌, codes, Option, Some, None, option_and_then, Result, Ok, Err, refl, inl, inr}
use Rattle.serde_json.specs.Data.{Data, Items, no_items, item}
use Rattle.serde_json.specs.Find.{as_array}
use Rattle.cj_base.specs.declared.faults.FieldFault.{FieldFault}
use Rattle.cj_zone.specs.declared.zone.Zone.{Zone}
use Rattle.cj_io.specs.declared.zone_files.given.GivenZones.{GivenZones}
use Rattle.cj_scenario.specs.declared.fault.SceneFault.{SceneFault}
use Rattle.cj_scenario.specs.declared.fault.SceneFault.TheVariants.{Form, Manifest, Memory, Syntax}
use Rattle.cj_types.specs.declared.cron.CronJobDraft.{CronJobDraft}
use Rattle.cj_types.specs.declared.job.JobDraft.{JobDraft}
use Rattle.cj_types.specs.WorldLimits.{Kept}
use Rattle.cj_calls.specs.declared.call.Call.{Call}
use Rattle.cj_calls.specs.declared.call.Call.TheVariants as Of
use Rattle.cj_manifest.specs.Drafts.{cron_draft, job_draft}
use Rattle.cj_manifest.specs.Faults.{cron_faults, job_faults}
use Rattle.cj_manifest.specs.Members.{present}
use Rattle.cj_scenario.specs.Scenes.{AreZones, Refuses}
use Rattle.cj_script.specs.operations.Operations.{moment_in}
use Rattle.cj_script.specs.operations.Plain.{plain_operation}
use Rattle.cj_script.specs.declared.operations.operation.Operation.{Operation}
use Rattle.cj_script.specs.declared.operations.operation.Operation.TheVariants.{Calls}
use Rattle.cj_script.specs.declared.operations.verb.Verb.{Verb}
use Rattle.cj_script.specs.declared.operations.verb.Verb.TheVariants.{Does, Writes}
use Rattle.cj_script.specs.declared.operations.verb.Write.{Write}
use Rattle.cj_script.specs.declared.operations.verb.Write.TheVariants as Kind
use Rattle.cj_script.specs.declared.callers.Named.{Named}
use Rattle.cj_script.specs.declared.step.Action.{Action}
use Rattle.cj_script.specs.declared.step.Step.{Step}
use Rattle.cj_script.specs.Drafts.{cron_said, drafted, job_said, needed, then}
use Rattle.cj_script.specs.Callers.{callers_in}
use Rattle.cj_script.specs.Limits.{limits_in}
use Rattle.cj_script.specs.Scripts.{IsRefusedValue, told_in}
use Rattle.cj_script.specs.Lists.{after_fault, all_of, before, both}
use Rattle.cj_script.specs.Steps.{operation_of, action_in, step_of, steps_of, verb_in, who_in}
use Rattle.cj_script.specs.Writes.{cron_operation, job_operation, object_in, write_operation}

pub record IsOther {A : Type 0} (r : Result A SceneFault) : Type 0 where
  pub differs : r ≡ Err Syntax → ⊥

-- What is read isn't refused as no JSON.
pub other_fine : {A : Type 0} (x : A) → IsOther (Ok x)
other_fine x = record { differs = λ e. absurd (cc e) }

-- A refusal for the form isn't one as no JSON.
pub other_form : {A : Type 0} → IsOther {A = A} (Err Form)
other_form = record { differs = λ e. absurd (cc e) }

-- A refusal for a manifest's fault isn't one as no JSON.
pub other_manifest : {A : Type 0} (fault : FieldFault) → IsOther {A = A} (Err (Manifest fault))
other_manifest fault = record { differs = λ e. absurd (cc e) }

-- A refusal for lack of memory isn't one as no JSON.
pub other_memory : {A : Type 0} → IsOther {A = A} (Err Memory)
other_memory = record { differs = λ e. absurd (cc e) }

-- A refusal as no JSON can't be another one; if it were, it would be so whatever was to be read.
pub lost : {A B : Type 0} → IsOther {A = A} (Err Syntax) → IsOther {A = B} (Err Syntax)
lost h = record { differs = λ e. h.differs refl }

-- What must be there isn't refused as no JSON, whether it is there or not.
pub other_needed : {A : Type 0} (o : Option A) → IsOther (needed o)
other_needed None = other_form
other_needed (Some x) = other_fine x

-- Where neither a part nor what follows it is refused as no JSON, both together aren't.
pub other_then : {A B : Type 0} (r : Result A SceneFault) (f : A → Result B SceneFault) → IsOther r
    → ((x : A) → IsOther (f x)) → IsOther (then r f)
other_then (Ok x) f h k = k x
other_then (Err Syntax) f h k = lost h
other_then (Err Form) f h k = other_form
other_then (Err (Manifest fault)) f h k = other_manifest fault
other_then (Err Memory) f h k = other_memory

-- What a manifest with these faults and this draft says isn't refused as no JSON.
other_drafted : {A : Type 0} (faults : List FieldFault) (o : Option A) → IsOther (drafted faults o)
other_drafted [] o = other_needed o
other_drafted (fault ∷ others) o = other_manifest fault

-- What a CronJob's manifest says isn't refused as no JSON.
pub other_cron : (zones : List Zone) (m : Data) → IsOther (cron_said zones m)
unfolding cron_said
other_cron zones m = other_drafted (cron_faults zones m) (cron_draft m)

-- What a Job's manifest says isn't refused as no JSON.
other_job : (m : Data) → IsOther (job_said m)
unfolding job_said
other_job m = other_drafted (job_faults m) (job_draft m)

-- A step that makes a call of a CronJob's manifest isn't refused as no JSON.
other_cron_operation : (zones : List Zone) (call : CronJobDraft → Call) (d : Data)
    → IsOther (cron_operation zones call d)
other_cron_operation zones call d =
    other_then (object_in d) (λ m. then (cron_said zones m) (λ draft. Ok (Calls (call draft))))
    (other_needed (present (codes "object") d))
    (λ m. other_then (cron_said zones m) (λ draft. Ok (Calls (call draft))) (other_cron zones m)
    (λ draft. other_fine (Calls (call draft))))

-- A step that makes a call of a Job's manifest isn't refused as no JSON.
other_job_operation : (call : JobDraft → Call) (d : Data) → IsOther (job_operation call d)
other_job_operation call d =
    other_then (object_in d) (λ m. then (job_said m) (λ draft. Ok (Calls (call draft))))
    (other_needed (present (codes "object") d))
    (λ m. other_then (job_said m) (λ draft. Ok (Calls (call draft))) (other_job m)
    (λ draft. other_fine (Calls (call draft))))

-- A step whose verb takes a manifest isn't refused as no JSON, whichever the verb.
other_write : (zones : List Zone) (verb : Write) (d : Data) → IsOther (write_operation zones verb d)
other_write zones Kind.CreateCron d =
    other_then (needed (moment_in d)) (λ at. cron_operation zones (λ draft. Of.CreateCron draft at) d)
    (other_needed (moment_in d))
    (λ at. other_cron_operation zones (λ draft. Of.CreateCron draft at) d)
other_write zones Kind.UpdateCron d = other_cron_operation zones (λ draft. Of.UpdateCron draft) d
other_write zones Kind.CreateJob d =
    other_then (needed (moment_in d)) (λ at. job_operation (λ draft. Of.CreateJob draft at) d)
    (other_needed (moment_in d))
    (λ at. other_job_operation (λ draft. Of.CreateJob draft at) d)
other_write zones Kind.UpdateJob d = other_job_operation (λ draft. Of.UpdateJob draft) d

-- What a step does isn't refused as no JSON, whether its verb takes a manifest or not.
other_operation : (zones : List Zone) (verb : Verb) (d : Data) → IsOther (operation_of zones verb d)
other_operation zones (Writes verb) d = other_write zones verb d
other_operation zones (Does verb) d = other_needed (plain_operation verb d)

-- A action, its verb with what it does, isn't refused as no JSON.
pub other_action : (zones : List Zone) (d : Data) → IsOther (action_in zones d)
unfolding action_in
other_action zones d =
    let made : Verb → Operation
    → Result Action SceneFault = λ verb operation. Ok (record { verb = verb; operation = operation }) in
    let acted : Verb → Result Action SceneFault = λ verb. then (operation_of zones verb d) (made verb) in
    other_then (needed (verb_in d)) acted (other_needed (verb_in d))
    (λ verb. other_then (operation_of zones verb d) (made verb) (other_operation zones verb d)
    (λ operation. record { differs = λ e. absurd (cc e) }))

-- A step, its caller with the action, isn't refused as no JSON.
other_step : (zones : List Zone) (callers : List Named) (d : Data) → IsOther (step_of zones callers d)
unfolding step_of
other_step zones callers d =
    let made : Named → Action → Result Step SceneFault =
    λ named action. Ok (record { who = named.name; caller = named.caller; verb = action.verb; operation = action.operation }) in
    let done : Named → Result Step SceneFault = λ named. then (action_in zones d) (made named) in
    other_then (needed (who_in callers d)) done (other_needed (who_in callers d))
    (λ named. other_then (action_in zones d) (made named) (other_action zones d)
    (λ action. record { differs = λ e. absurd (cc e) }))

-- A manifest's fault before a rest that isn't refused as no JSON isn't refused so either.
pub other_after : {A B : Type 0} (fault : FieldFault) (rest : Result A SceneFault) → IsOther rest
    → IsOther {A = B} (after_fault fault rest)
other_after fault (Ok x) h = other_manifest fault
other_after fault (Err Syntax) h = lost h
other_after fault (Err Form) h = other_form
other_after fault (Err (Manifest g)) h = other_manifest fault
other_after fault (Err Memory) h = other_memory

-- Items before a rest that isn't refused as no JSON aren't refused so either.
other_before : {A : Type 0} (items : List A) (rest : Result (List A) SceneFault) → IsOther rest
    → IsOther (before items rest)
other_before items (Ok others) h = other_fine (items ++ others)
other_before items (Err e) h = h

-- An answer and a rest of which neither is refused as no JSON aren't refused so together.
other_both : {A : Type 0} (r : Result A SceneFault) (rest : Result (List A) SceneFault) → IsOther r → IsOther rest
    → IsOther (both r rest)
other_both (Ok x) rest h k = other_before (x ∷ []) rest k
other_both (Err Syntax) rest h k = lost h
other_both (Err Form) rest h k = other_form
other_both (Err (Manifest fault)) rest h k = other_after fault rest k
other_both (Err Memory) rest h k = other_memory

-- A list of values isn't refused as no JSON where none of its values is.
pub other_all : {A : Type 0} (said : Data → Result A SceneFault) (ds : Items) → ((d : Data) → IsOther (said d))
    → IsOther (all_of said ds)
other_all said no_items h = other_fine []
other_all said (item d ds) h = other_both (said d) (all_of said ds) (h d) (other_all said ds h)

-- The steps of a script aren't refused as no JSON.
other_steps : (zones : List Zone) (callers : List Named) (ds : Items) → IsOther (steps_of zones callers ds)
other_steps zones callers ds = other_all (step_of zones callers) ds (other_step zones callers)

-- The limits and the steps that a value says under its zones aren't refused as no JSON.
other_told : (zones : List Zone) (d : Data) → IsOther (told_in zones d)
other_told zones d =
    let list : Option Items = option_and_then as_array (present (codes "steps") d) in
    let last : Kept → List Step → Result (Kept × List Step) SceneFault = λ limits steps. Ok (limits, steps) in
    let stepped : Kept → List Named → Items → Result (Kept × List Step) SceneFault =
    λ limits callers items. then (steps_of zones callers items) (last limits) in
    let called : Kept → List Named → Result (Kept × List Step) SceneFault =
    λ limits callers. then (needed list) (stepped limits callers) in
    let limited : Kept → Result (Kept × List Step) SceneFault = λ limits. then (needed (callers_in d)) (called limits)
    in
    other_then (needed (limits_in d)) limited (other_needed (limits_in d))
    (λ limits. other_then (needed (callers_in d)) (called limits) (other_needed (callers_in d))
    (λ callers. other_then (needed list) (stepped limits callers) (other_needed list)
    (λ items. other_then (steps_of zones callers items) (last limits) (other_steps zones callers items)
    (λ steps. other_fine (limits, steps)))))

-- why a value is refused that has these zones
pub refused_under : (given : GivenZones) (d : Data) (zones : List Zone) (e : SceneFault)
    → AreZones given (present (codes "zones") d) zones
    → (e ≢ Memory → told_in zones d ≡ Err e) → IsRefusedValue given d e
refused_under given d zones Syntax are h = absurd ((other_told zones d).differs (h (λ q. absurd (cc q))))
refused_under given d zones Form are h = inr (record { zones = zones; are = are; told = h (λ q. absurd (cc q)) })
refused_under given d zones (Manifest fault) are h = record { zones = zones; are = are; told = h (λ q. absurd (cc q)) }
refused_under given d zones Memory are h = tt

-- why a value is refused that has no zones
pub refused_zones : (given : GivenZones) (d : Data) (e : SceneFault)
    → Refuses e ((zones : List Zone) → AreZones given (present (codes "zones") d) zones → ⊥)
    → IsRefusedValue given d e
refused_zones given d e (inl memory) = rw memory tt
refused_zones given d e (inr (form, none)) = rw form (inl none)
