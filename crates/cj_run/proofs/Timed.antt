-- What an edit of a scenario creates, once the scenario was read, it creates at its own moment.
use Rattle.std.proofs.Common.{◌≡◌, ◌∙◌, ◌*◌, ℕ, Bool, true, false, cond, List, [], Option, Some, None, refl, sym, ap, subst}
use Rattle.std.specs.Prelude.{All, Result, Ok, Err, option_and_then, option_map, codes}
use Rattle.std.proofs.lemmas.List.Elements.{All-cons, All-nil}
use Rattle.serde_json.specs.Data.{Data, Items, no_items, item}
use Rattle.serde_json.specs.Find.{as_array}
use Rattle.cj_types.specs.Keys.{Place}
use Rattle.cj_types.specs.declared.cron.CronJobDraft.{CronJobDraft}
use Rattle.cj_types.specs.declared.job.JobDraft.{JobDraft}
use Rattle.cj_types.specs.declared.policy.Outcome.{Outcome}
use Rattle.cj_types.specs.declared.policy.Reason.{Reason}
use Rattle.cj_zone.specs.Table.{zones_of}
use Rattle.cj_zone.specs.declared.zone.Zone.{Zone}
use Rattle.cj_calls.specs.declared.call.Call.{Call}
use Rattle.cj_calls.specs.declared.call.Call.TheVariants as Of
use Rattle.cj_calls.specs.declared.end.End.{End}
use Rattle.cj_manifest.specs.Members.{present}
use Rattle.cj_scenario.specs.declared.fault.SceneFault.{SceneFault}
use Rattle.cj_scenario.specs.declared.fault.SceneFault.TheVariants.{Form, Manifest, Memory, Syntax}
use Rattle.cj_script.specs.Drafts.{cron_said, job_said, needed, then}
use Rattle.cj_script.specs.Lists.{all_of, both}
use Rattle.cj_script.specs.Steps.{action_in, operation_of, verb_in}
use Rattle.cj_script.specs.Writes.{cron_operation, job_operation, object_in}
use Rattle.cj_script.specs.operations.Finishes.{end_in, finish, finish_with, with_reasons}
use Rattle.cj_script.specs.operations.Operations.{key_in, max_in, moment_in, number_in, outcome_in}
use Rattle.cj_script.specs.operations.Plain.{plain_operation}
use Rattle.cj_script.specs.declared.operations.operation.Operation.{Operation}
use Rattle.cj_script.specs.declared.operations.operation.Operation.TheVariants.{Calls, Claims, Closes, Ends}
use Rattle.cj_script.specs.declared.operations.verb.Plain.{Plain}
use Rattle.cj_script.specs.declared.operations.verb.Plain.TheVariants as Kind
use Rattle.cj_script.specs.declared.operations.verb.Verb.{Verb}
use Rattle.cj_script.specs.declared.operations.verb.Verb.TheVariants.{Does, Writes}
use Rattle.cj_script.specs.declared.operations.verb.Write.TheVariants as Written
use Rattle.cj_script.specs.declared.simulation.scenario.Edit.{Edit}
use Rattle.cj_script.specs.simulation.Edits.{edit_of, edits_in, instant_in, items_in}
use Rattle.cj_script.specs.simulation.RunLists.{runs_in}
use Rattle.cj_script.specs.simulation.Runs.{RunTable}
use Rattle.cj_script.specs.simulation.Seeds.{crons_in}
use Rattle.cj_script.specs.simulation.Simulations.{Told, beside, lists_in, told}
use Rattle.cj_script.specs.simulation.Spans.{SpanView, clocked, is_instant}
use Rattle.cj_script.specs.simulation.Times.{span_in}
use Rattle.cj_run.specs.Simulations.{IsTimed, ReadEditsAreTimed}

-- ---- what was read, part by part

-- Where the next part was read, so was the one before it.
then_ok : {A B : Type 0} (r : Result A SceneFault) (f : A → Result B SceneFault) (y : B) → then r f ≡ Ok y
    → (x : A) × (r ≡ Ok x) × (f x ≡ Ok y)
then_ok (Ok x) f y is = (x, refl, is)
then_ok (Err e) f y is = absurd (cc is)

-- The same, with what was read given first.
read_then : {A B : Type 0} (y : B) (r : Result A SceneFault) (f : A → Result B SceneFault) → then r f ≡ Ok y
    → (x : A) × (r ≡ Ok x) × (f x ≡ Ok y)
read_then y r f is = then_ok r f y is

-- What is needed is there.
needed_ok : {A : Type 0} (o : Option A) (x : A) → needed o ≡ Ok x → o ≡ Some x
needed_ok None x is = absurd (cc is)
needed_ok (Some y) x is = cc is

-- Where two answers are the same, so are their values.
ok_same : {A : Type 0} {x y : A} → ◌≡◌ {A = Result A SceneFault} (Ok x) (Ok y) → x ≡ y
ok_same is = cc is

-- And so is each part of them.
on_ok : {A B : Type 0} {x y : A} → ◌≡◌ {A = Result A SceneFault} (Ok x) (Ok y) → (f : A → B) → f x ≡ f y
on_ok is f = ap f (ok_same is)

-- So it is with options,
and_then_some : {A B : Type 0} (f : A → Option B) (o : Option A) (y : B) → option_and_then f o ≡ Some y
    → (x : A) × (o ≡ Some x) × (f x ≡ Some y)
and_then_some f None y is = absurd (cc is)
and_then_some f (Some x) y is = (x, refl, is)

-- and with what is made of them.
map_some : {A B : Type 0} (f : A → B) (o : Option A) (y : B) → option_map f o ≡ Some y
    → (x : A) × (o ≡ Some x) × (f x ≡ y)
map_some f None y is = absurd (cc is)
map_some f (Some x) y is = (x, refl, cc is)

-- ---- an operation

-- the operation creates no CronJob
abbrev IsElse : Operation → Type 0
IsElse operation = (draft : CronJobDraft) (now : ℕ) → operation ≡ Calls (Of.CreateCron draft now) → ⊥

-- For finish_else: by what is said of its reasons.
end_else : (end : End) (o : Option Data) (operation : Operation) → finish_with end o ≡ Some operation → IsElse operation
end_else end None operation is =
    λ draft now same. (let closes : Closes end ≡ operation = cc is in absurd (cc (closes ∙ same)))
end_else end (Some list) operation is =
    let a = map_some (λ (rs : List Reason). Calls (Of.Finish end rs))
    (option_and_then (with_reasons []) (as_array list)) operation is in
    λ draft now same. absurd (cc (a.2 ∙ same))

-- What ends a sync creates none.
finish_else : (d : Data) (operation : Operation) → finish d ≡ Some operation → IsElse operation
finish_else d operation is =
    let a = and_then_some (λ (end : End). finish_with end (present (codes "reasons") d)) (end_in d) operation is in
    end_else a.0 (present (codes "reasons") d) operation a.2

-- What has one part only,
part_else : {A : Type 0} (f : A → Operation) (o : Option A) (operation : Operation) → ((x : A) → IsElse (f x))
    → option_map f o ≡ Some operation → IsElse operation
part_else f o operation each is =
    let a = map_some f o operation is in λ draft now same. each a.0 draft now (a.2 ∙ same)

-- and what has several, creates none, where none of them makes it do so.
parts_else : {A : Type 0} (f : A → Option Operation) (o : Option A) (operation : Operation)
    → ((x : A) → f x ≡ Some operation → IsElse operation) → option_and_then f o ≡ Some operation → IsElse operation
parts_else f o operation each is = let a = and_then_some f o operation is in each a.0 a.2

-- A verb that takes no manifest creates none.
plain_else : (verb : Plain) (d : Data) (operation : Operation) → plain_operation verb d ≡ Some operation
    → IsElse operation
plain_else Kind.DeleteCron d operation is =
    part_else (λ (k : Place). Calls (Of.DeleteCron k)) (key_in d) operation (λ k draft now same. cc same) is
plain_else Kind.DeleteJob d operation is =
    part_else (λ (k : Place). Calls (Of.DeleteJob k)) (key_in d) operation (λ k draft now same. cc same) is
plain_else Kind.EndJob d operation is =
    parts_else (λ (at : ℕ). option_and_then (λ (outcome : Outcome). option_map (λ (k : Place). Ends k outcome at)
    (key_in d)) (outcome_in at d)) (moment_in d) operation
    (λ at ends.
    parts_else (λ (outcome : Outcome). option_map (λ (k : Place). Ends k outcome at) (key_in d)) (outcome_in at d)
    operation
    (λ outcome key. part_else (λ (k : Place). Ends k outcome at) (key_in d) operation (λ k draft now same. cc same) key)
    ends) is
plain_else Kind.Watch d operation is =
    parts_else (λ (version : ℕ). option_map (λ (max : ℕ). Calls (Of.Watch version max)) (max_in d))
    (number_in (present (codes "version") d)) operation
    (λ version one.
    part_else (λ (max : ℕ). Calls (Of.Watch version max)) (max_in d) operation (λ max draft now same. cc same) one) is
plain_else Kind.Add d operation is =
    part_else (λ (k : Place). Calls (Of.Add k)) (key_in d) operation (λ k draft now same. cc same) is
plain_else Kind.Tick d operation is =
    part_else (λ (at : ℕ). Calls (Of.Tick (at * 1000))) (moment_in d) operation (λ at draft now same. cc same) is
plain_else Kind.Shut d operation is =
    λ draft now same. absurd (cc (is ∙ ap (λ (o : Operation). Some o) same))
plain_else Kind.Feed d operation is =
    part_else (λ (max : ℕ). Calls (Of.Feed max)) (max_in d) operation (λ max draft now same. cc same) is
plain_else Kind.Take d operation is =
    λ draft now same. absurd (cc (is ∙ ap (λ (o : Operation). Some o) same))
plain_else Kind.SeeCron d operation is =
    λ draft now same. absurd (cc (is ∙ ap (λ (o : Operation). Some o) same))
plain_else Kind.SeeJobs d operation is =
    λ draft now same. absurd (cc (is ∙ ap (λ (o : Operation). Some o) same))
plain_else Kind.SeeActive d operation is =
    λ draft now same. absurd (cc (is ∙ ap (λ (o : Operation). Some o) same))
plain_else Kind.Claim d operation is =
    part_else (λ (at : ℕ). Claims at) (moment_in d) operation (λ at draft now same. cc same) is
plain_else Kind.Drops d operation is =
    λ draft now same. absurd (cc (is ∙ ap (λ (o : Operation). Some o) same))
plain_else Kind.Make d operation is =
    λ draft now same. absurd (cc (is ∙ ap (λ (o : Operation). Some o) same))
plain_else Kind.SetStatus d operation is =
    λ draft now same. absurd (cc (is ∙ ap (λ (o : Operation). Some o) same))
plain_else Kind.Finish d operation is = finish_else d operation is

-- A verb with the manifest of a CronJob makes a call of its draft,
cron_call : (zones : List Zone) (call : CronJobDraft → Call) (d : Data) (operation : Operation)
    → cron_operation zones call d ≡ Ok operation → (draft : CronJobDraft) × (Calls (call draft) ≡ operation)
cron_call zones call d operation is =
    let a = then_ok (object_in d) (λ (m : Data). then (cron_said zones m)
    (λ (draft : CronJobDraft). Ok (Calls (call draft)))) operation is in
    let b = then_ok (cron_said zones a.0) (λ (draft : CronJobDraft). Ok (Calls (call draft))) operation a.2 in
    (b.0, cc b.2)

-- and one with a Job's of that.
job_call : (call : JobDraft → Call) (d : Data) (operation : Operation) → job_operation call d ≡ Ok operation
    → (draft : JobDraft) × (Calls (call draft) ≡ operation)
job_call call d operation is =
    let a = then_ok (object_in d) (λ (m : Data). then (job_said m) (λ (draft : JobDraft). Ok (Calls (call draft))))
    operation is in
    let b = then_ok (job_said a.0) (λ (draft : JobDraft). Ok (Calls (call draft))) operation a.2 in
    (b.0, cc b.2)

-- What creates a CronJob does so at the step's time.
operation_timed : (zones : List Zone) (verb : Verb) (d : Data) (operation : Operation)
    → operation_of zones verb d ≡ Ok operation → (draft : CronJobDraft) (now : ℕ)
    → operation ≡ Calls (Of.CreateCron draft now) → moment_in d ≡ Some now
operation_timed zones (Writes Written.CreateCron) d operation is draft now same =
    let a = then_ok (needed (moment_in d)) (λ (at : ℕ). cron_operation zones
    (λ (x : CronJobDraft). Of.CreateCron x at) d) operation is in
    let b = cron_call zones (λ (x : CronJobDraft). Of.CreateCron x a.0) d operation a.2 in
    let at : a.0 ≡ now = cc (b.1 ∙ same) in
    needed_ok (moment_in d) a.0 a.1 ∙ ap (λ (n : ℕ). Some n) at
operation_timed zones (Writes Written.UpdateCron) d operation is draft now same =
    let b = cron_call zones (λ (x : CronJobDraft). Of.UpdateCron x) d operation is in absurd (cc (b.1 ∙ same))
operation_timed zones (Writes Written.CreateJob) d operation is draft now same =
    let a = then_ok (needed (moment_in d)) (λ (at : ℕ). job_operation (λ (x : JobDraft). Of.CreateJob x at) d) operation
    is in
    let b = job_call (λ (x : JobDraft). Of.CreateJob x a.0) d operation a.2 in absurd (cc (b.1 ∙ same))
operation_timed zones (Writes Written.UpdateJob) d operation is draft now same =
    let b = job_call (λ (x : JobDraft). Of.UpdateJob x) d operation is in absurd (cc (b.1 ∙ same))
operation_timed zones (Does verb) d operation is draft now same =
    absurd (plain_else verb d operation (needed_ok (plain_operation verb d) operation is) draft now same)

-- ---- an edit

-- Where the clock has a moment, it is that one.
clocked_same : (b : Bool) (t at : ℕ) → cond b (Some t) None ≡ Some at → t ≡ at
clocked_same true t at is = cc is
clocked_same false t at is = absurd (cc is)

-- An edit creates at its own moment.
edit_timed : (zones : List Zone) (span : SpanView) (d : Data) (e : Edit) → edit_of zones span d ≡ Ok e → IsTimed e
unfolding edit_of action_in
edit_timed zones span d e is =
    let a = read_then e (needed (instant_in span d)) (λ (at : ℕ). then (action_in zones d)
    (λ action. Ok (record { at = at; operation = action.operation }))) is in
    let b = read_then e (action_in zones d) (λ action. Ok (record { at = a.0; operation = action.operation })) a.2 in
    let v = read_then b.0 (needed (verb_in d)) (λ (verb : Verb). then (operation_of zones verb d)
    (λ (operation : Operation). Ok (record { verb = verb; operation = operation }))) b.1 in
    let o = read_then b.0 (operation_of zones v.0 d)
    (λ (operation : Operation). Ok (record { verb = v.0; operation = operation })) v.2 in
    let made : o.0 ≡ b.0.operation = on_ok {B = Operation} o.2 (λ x. x.operation) in
    let done : b.0.operation ≡ e.operation = on_ok {B = Operation} b.2 (λ (x : Edit). x.operation) in
    let at : a.0 ≡ e.at = on_ok {B = ℕ} b.2 (λ (x : Edit). x.at) in
    let t = and_then_some (clocked span) (moment_in d) a.0 (needed_ok (instant_in span d) a.0 a.1) in
    λ draft now same.
    (let moment : moment_in d ≡ Some now = operation_timed zones v.0 d o.0 o.1 draft now (made ∙ done ∙ same) in
    let told : t.0 ≡ now = cc (sym t.1 ∙ moment) in
    sym told ∙ clocked_same (is_instant span t.0) t.0 a.0 t.2 ∙ at)

-- ---- all edits

-- For all_timed: with one more.
timed_more : (r : Result Edit SceneFault) (rest : Result (List Edit) SceneFault) (xs : List Edit)
    → ((e : Edit) → r ≡ Ok e → IsTimed e) → ((es : List Edit) → rest ≡ Ok es → All IsTimed es) → both r rest ≡ Ok xs
    → All IsTimed xs
timed_more (Ok e) (Ok es) xs one more is =
    subst (All IsTimed) (ok_same is) (All-cons IsTimed e es (one e refl) (more es refl))
timed_more (Ok e) (Err f) xs one more is = absurd (cc is)
timed_more (Err Syntax) rest xs one more is = absurd (cc is)
timed_more (Err Form) rest xs one more is = absurd (cc is)
timed_more (Err (Manifest f)) rest xs one more is = absurd (cc is)
timed_more (Err Memory) rest xs one more is = absurd (cc is)

-- So do all that were read.
all_timed : (zones : List Zone) (span : SpanView) (ds : Items) (xs : List Edit)
    → all_of (edit_of zones span) ds ≡ Ok xs → All IsTimed xs
all_timed zones span no_items xs is = subst (All IsTimed) (ok_same is) (All-nil IsTimed)
all_timed zones span (item d ds) xs is =
    timed_more (edit_of zones span d) (all_of (edit_of zones span) ds) xs (edit_timed zones span d)
    (all_timed zones span ds) is

-- For lists_timed: what comes beside the edits.
beside_ok : (r : Result (List CronJobDraft) SceneFault) (rest : Result (List Edit) SceneFault)
    (xs : List CronJobDraft × List Edit) → beside r rest ≡ Ok xs → rest ≡ Ok xs.1
beside_ok (Ok drafts) rest xs is =
    let a = then_ok rest (λ (es : List Edit). Ok (drafts, es)) xs is in
    subst (λ (es : List Edit). rest ≡ Ok es) (ap (λ (lists : List CronJobDraft × List Edit). lists.1) (ok_same a.2)) a.1
beside_ok (Err Syntax) rest xs is = absurd (cc is)
beside_ok (Err Form) rest xs is = absurd (cc is)
beside_ok (Err (Manifest f)) rest xs is = absurd (cc is)
beside_ok (Err Memory) rest xs is = absurd (cc is)

-- For run_times_law: so do those of each scenario that was read.
pub read_edits_timed : ReadEditsAreTimed
read_edits_timed given bytes c (d, read, says) =
    let zones : List Zone = zones_of c.zones in
    let a = then_ok (needed (span_in d)) (λ (span : SpanView). then (needed (runs_in d))
    (λ (runs : RunTable). then (lists_in zones span d)
    (λ (lists : List CronJobDraft × List Edit). Ok (told span runs lists))))
    (told c.span c.runs (c.crons.items, c.edits.items)) says.told in
    let b = then_ok (needed (runs_in d)) (λ (runs : RunTable). then (lists_in zones a.0 d)
    (λ (lists : List CronJobDraft × List Edit). Ok (told a.0 runs lists)))
    (told c.span c.runs (c.crons.items, c.edits.items)) a.2 in
    let l = then_ok (lists_in zones a.0 d)
    (λ (lists : List CronJobDraft × List Edit). Ok (told a.0 b.0 lists))
    (told c.span c.runs (c.crons.items, c.edits.items)) b.2 in
    let same : l.0.1 ≡ c.edits.items = ap (λ (t : Told). t.edits) (ok_same l.2) in
    let edits = beside_ok (crons_in zones d) (edits_in zones a.0 d) l.0 l.1 in
    let e = then_ok (needed (items_in (present (codes "edits") d))) (all_of (edit_of zones a.0)) l.0.1 edits in
    subst (All IsTimed) same (all_timed zones a.0 e.0 l.0.1 e.2)
