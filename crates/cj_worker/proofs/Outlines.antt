-- The steps of a plan, by their kinds.
use Rattle.std.proofs.Common.{◌≡◌, ◌∙◌, ◌<◌, ◌+◌, ℕ, List, [], ◌∷◌, ◌++◌, Bool, Option, Some, None, is_some, map, take, length, refl, ap, sym, append_assoc, add-one}
use Rattle.std.proofs.Math.Seq.{take-suc}
use Rattle.std.proofs.lemmas.List.{map_push, map-append}
use Rattle.cj_decide.specs.declared.steps.Steps.{Steps}
use Rattle.cj_state.specs.phases.Steps.{Step, drops, makes, sets, makings, settings, all_steps}
use Rattle.cj_status.specs.declared.refs.JobRef.{JobRef}
use Rattle.cj_types.specs.declared.cron.CronStatus.{CronStatus}
use Rattle.cj_types.specs.declared.job.JobDraft.{JobDraft}
use Rattle.cj_worker.specs.declared.outline.Next.{Next}
use Rattle.cj_worker.specs.declared.outline.Next.TheVariants as Kind
use Rattle.cj_worker.specs.Outlines.{call_of, call_by, next_of, drops_of, one_if, step_calls}

-- For push_drops: a Drop pushed behind those of the first i Jobs gives those of the first i + 1.
pub drops_more : (xs ys zs : List Next) (js : List JobRef) (i : ℕ) (j : JobRef) → i < length js
    → ys ≡ xs ++ drops_of (take i js) → zs ≡ ys ++ Kind.Drop ∷ [] → zs ≡ xs ++ drops_of (take (i + 1) js)
drops_more xs ys zs js i j lt one two =
    let more : drops_of (take (i + 1) js) ≡ drops_of (take i js) ++ Kind.Drop ∷ [] =
    rw (add-one, take-suc js i j lt, map_push (λ (_ : JobRef). Kind.Drop)) refl in
    two ∙ ap (λ s. s ++ Kind.Drop ∷ []) one ∙ append_assoc xs (drops_of (take i js)) (Kind.Drop ∷ [])
    ∙ ap (λ s. xs ++ s) (sym more)

-- The kinds of the drops of some Jobs are as many Drops.
drops_are : (js : List JobRef) → map next_of (map drops js) ≡ drops_of js
drops_are [] = refl
drops_are (j ∷ js) = ap (λ ns. Kind.Drop ∷ ns) (drops_are js)

-- The kind of the making of a Job that a plan may ask for is one Make, or none.
making_is : (d : Option JobDraft) → map next_of (makings d) ≡ one_if (is_some d) Kind.Make
making_is None = refl
making_is (Some d) = refl

-- The kind of the setting of a status that a plan may ask for is one Status, or none.
setting_is : (s : Option CronStatus) → map next_of (settings s) ≡ one_if (is_some s) Kind.Status
setting_is None = refl
setting_is (Some s) = refl

-- The kinds of a plan's steps are those of the drops, the making, the cleanup and the status, in
-- this order.
kinds : (s : Steps) → map next_of (all_steps s) ≡ drops_of s.drop_first
    ++ (one_if (is_some s.make) Kind.Make ++ (drops_of s.cleanup ++ one_if (is_some s.status) Kind.Status))
kinds s =
    map-append next_of (map drops s.drop_first) (makings s.make ++ (map drops s.cleanup ++ settings s.status))
    ∙ ap (λ x. x ++ map next_of (makings s.make ++ (map drops s.cleanup ++ settings s.status))) (drops_are s.drop_first)
    ∙ ap (λ x. drops_of s.drop_first ++ x) (map-append next_of (makings s.make)
    (map drops s.cleanup ++ settings s.status)
    ∙ ap (λ x. x ++ map next_of (map drops s.cleanup ++ settings s.status)) (making_is s.make)
    ∙ ap (λ x. one_if (is_some s.make) Kind.Make ++ x) (map-append next_of (map drops s.cleanup) (settings s.status)
    ∙ ap (λ x. x ++ map next_of (settings s.status)) (drops_are s.cleanup)
    ∙ ap (λ x. drops_of s.cleanup ++ x) (setting_is s.status)))

-- Four lists joined one by one from the left are the same as joined from the right.
joined : (a b d e : List Next) → ((a ++ b) ++ d) ++ e ≡ a ++ (b ++ (d ++ e))
joined a b d e = append_assoc (a ++ b) d e ∙ append_assoc a b (d ++ e)

-- For steps_of: what its four pushes leave behind each other is the kinds of all steps of the plan.
pub steps_are : (s : Steps) (v0 v1 v2 v3 v4 : List Next) (m n : Bool) → v0 ≡ [] → v1 ≡ v0 ++ drops_of s.drop_first
    → m ≡ is_some s.make → v2 ≡ v1 ++ one_if m Kind.Make
    → v3 ≡ v2 ++ drops_of s.cleanup → n ≡ is_some s.status → v4 ≡ v3 ++ one_if n Kind.Status
    → v4 ≡ map next_of (all_steps s)
steps_are s v0 v1 v2 v3 v4 m n e0 e1 em e2 e3 en e4 =
    let f1 : v1 ≡ drops_of s.drop_first = e1 ∙ ap (λ x. x ++ drops_of s.drop_first) e0 in
    let f2 : v2 ≡ drops_of s.drop_first ++ one_if (is_some s.make) Kind.Make =
    e2 ∙ ap (λ x. x ++ one_if m Kind.Make) f1 ∙ ap (λ x. drops_of s.drop_first ++ one_if x Kind.Make) em in
    let f3 : v3 ≡ (drops_of s.drop_first ++ one_if (is_some s.make) Kind.Make) ++ drops_of s.cleanup =
    e3 ∙ ap (λ x. x ++ drops_of s.cleanup) f2 in
    e4 ∙ ap (λ x. x ++ one_if n Kind.Status) f3 ∙ ap
    (λ x. ((drops_of s.drop_first ++ one_if (is_some s.make) Kind.Make) ++ drops_of s.cleanup)
    ++ one_if x Kind.Status) en
    ∙ joined (drops_of s.drop_first) (one_if (is_some s.make) Kind.Make) (drops_of s.cleanup)
    (one_if (is_some s.status) Kind.Status) ∙ sym (kinds s)

-- The call by which a step's kind is made is the call of the step.
call_by_kind : (x : Step) → call_by (next_of x) ≡ call_of x
call_by_kind (drops r) = refl
call_by_kind (makes d) = refl
call_by_kind (sets s) = refl

-- The calls by the kinds of some steps are the calls of these steps.
calls_are : (xs : List Step) → map call_by (map next_of xs) ≡ map call_of xs
calls_are [] = refl
calls_are (x ∷ xs) = ap (λ c. c ∷ map call_by (map next_of xs)) (call_by_kind x)
    ∙ ap (λ cs. call_of x ∷ cs) (calls_are xs)

-- For Outline::of: a list of the kinds of all steps of a plan stands for the calls of the plan's
-- steps.
pub steps_called : (s : Steps) (ns : List Next) → ns ≡ map next_of (all_steps s) → map call_by ns ≡ step_calls s
steps_called s ns is = ap (map call_by) is ∙ calls_are (all_steps s)
