-- The Jobs of a list, one after another.
use Rattle.std.proofs.Common.{◌≡◌, ◌+◌, ◌/◌, ◌<◌, ◌==◌, ◌||◌, ◌∙◌, ℕ, Bool, true, false, suc, List, [], ◌∷◌, ◌++◌, length, drop, get_or, Result, Ok, Err, refl, sym, ap, subst, inl, inr, rules, arith}
use Rattle.std.proofs.Math.Seq.{drop-cons}
use Rattle.std.specs.Prelude.{IfErr}
use Rattle.std.specs.Result.{IsErrAnd}
use Rattle.serde_json.specs.View.{items_view, view}
use Rattle.serde_json.specs.declared.value.Value.{Value}
use Rattle.cj_scenario.specs.declared.fault.SceneFault.{SceneFault}
use Rattle.serde_json.specs.Data.{Data, Items, no_items, item}
use Rattle.cj_scenario.specs.declared.given.GivenJob.{GivenJob}
use Rattle.cj_scenario.specs.Minutes.{AddsMinute, AreMinutesOf}
use Rattle.cj_scenario.specs.Scenes.{IsGiven, AddsItem, AddsItems, Refuses, has_minute}
use Rattle.std.proofs.lemmas.List.Folds.{list_any-append}
use Rattle.std.specs.BTreeSet.{BTreeSet, contains}
use Rattle.std.specs.Ordering.{nat_cmp}

-- what goes on from these Jobs is what goes on from none
pub record Leads (ds : Items) (jobs : List GivenJob) (rest : Items) : Type 0 where
  pub whole : (all : List GivenJob) → AddsItems jobs rest all → AddsItems [] ds all
  pub back : (all : List GivenJob) → AddsItems [] ds all → AddsItems jobs rest all

-- Before its first item a list leads to no Job yet, and to all its items.
pub leads_start : (ds : Items) → Leads ds [] ds
leads_start ds = record { whole = λ all h. h; back = λ all h. h }

-- Where an item can only give these Jobs, what goes on from the item goes on from these Jobs.
goes_on : (more : List GivenJob) (d : Data) (jobs : List GivenJob) (rest : Items) (all : List GivenJob)
    → ((other : List GivenJob) → AddsItem jobs d other → other ≡ more) → AddsItems jobs (item d rest) all
    → AddsItems more rest all
goes_on more d jobs rest all only (other, adds, h) = subst (λ x. AddsItems x rest all) (only other adds) h

-- Where a list leads to an item that adds its Job in just one way, it leads on to what is behind
-- it.
pub leads_item : (ds : Items) (jobs more : List GivenJob) (d : Data) (rest : Items) → Leads ds jobs (item d rest)
    → AddsItem jobs d more → ((other : List GivenJob) → AddsItem jobs d other → other ≡ more) → Leads ds more rest
leads_item ds jobs more d rest leads adds only = record {
  whole = λ all h. leads.whole all (more, adds, h);
  back = λ all h. goes_on more d jobs rest all only (leads.back all h);
}

-- Where a list leads to its end, the Jobs so far are those of the list.
pub leads_done : (ds : Items) (jobs : List GivenJob) → Leads ds jobs no_items → AddsItems [] ds jobs
leads_done ds jobs leads = leads.whole jobs refl

-- Where an item can't be added to the Jobs so far, neither can it be with others behind it.
ends : (d : Data) (jobs : List GivenJob) (rest : Items) (all : List GivenJob)
    → ((more : List GivenJob) → AddsItem jobs d more → ⊥) → AddsItems jobs (item d rest) all → ⊥
ends d jobs rest all none (more, adds, h) = none more adds

-- Where a list leads to an item that can't be added, there are no Jobs of the list.
pub leads_nowhere : (ds : Items) (jobs : List GivenJob) (d : Data) (rest : Items) → Leads ds jobs (item d rest)
    → ((more : List GivenJob) → AddsItem jobs d more → ⊥) → (all : List GivenJob) → AddsItems [] ds all → ⊥
leads_nowhere ds jobs d rest leads none all h = ends d jobs rest all none (leads.back all h)

-- ---- the minutes of the Jobs

-- For minutes_more: that one of two tests holds is the same in either order.
last_or : (a b : Bool) → (a || b) ≡ (b || (a || false))
last_or true true = refl
last_or true false = refl
last_or false true = refl
last_or false false = refl

-- With one Job more, its minute added to the minutes so far gives those of all the Jobs.
pub minutes_more : (jobs : List GivenJob) (job : GivenJob) (minutes more : BTreeSet ℕ) → AreMinutesOf jobs minutes
    → AddsMinute minutes (job.time / 60) more
    → AreMinutesOf (jobs ++ job ∷ []) more
minutes_more jobs job minutes more are adds minute =
    adds minute ∙ ap (λ b. (job.time / 60 == minute) || b) (are minute) ∙ last_or (job.time / 60 == minute)
    (has_minute minute jobs)
    ∙ sym (list_any-append (λ j. j.time / 60 == minute) jobs (job ∷ []))

-- a Job that is given, and none of its minute
pub adds_new : (jobs : List GivenJob) (d : Data) (job : GivenJob) (minutes : BTreeSet ℕ) → AreMinutesOf jobs minutes
    → IsGiven d job
    → contains nat_cmp minutes (job.time / 60) ≡ false → AddsItem jobs d (jobs ++ job ∷ [])
adds_new jobs d job minutes are given free =
    record { job = job; given = given; free = sym (are (job.time / 60)) ∙ free; more_are = refl }

-- An item that can only give this one Job adds just this Job.
pub adds_only : (jobs : List GivenJob) (d : Data) (job : GivenJob)
    → ((other : GivenJob) → IsGiven d other → other ≡ job)
    → (more : List GivenJob) → AddsItem jobs d more → more ≡ jobs ++ job ∷ []
adds_only jobs d job only more adds = adds.more_are ∙ ap (λ j. jobs ++ j ∷ []) (only adds.job adds.given)

-- An item that gives no Job of a free minute can't be added.
pub adds_none : (jobs : List GivenJob) (d : Data) (minutes : BTreeSet ℕ) → AreMinutesOf jobs minutes
    → ((job : GivenJob) → IsGiven d job → contains nat_cmp minutes (job.time / 60) ≡ false → ⊥) → (more : List GivenJob)
    → AddsItem jobs d more → ⊥
adds_none jobs d minutes are none more adds = none adds.job adds.given (are (adds.job.time / 60) ∙ adds.free)

-- the rest of a list from one of its places
rest_at : (values : List Value) (i : ℕ) (x : Value) → i < length values → x ≡ get_or values i x
    → drop i values ≡ x ∷ drop (i + 1) values
rest_at values i x inside at =
    let next : suc i ≡ i + 1 = omega arith in
    drop-cons values i x inside ∙ ap (λ y. y ∷ drop (suc i) values) (sym at) ∙ ap (λ n. x ∷ drop n values) next

-- one value more of a list
pub leads_value : (values : List Value) (i : ℕ) (x : Value) (jobs more : List GivenJob) → i < length values
    → x ≡ get_or values i x
    → Leads (items_view values) jobs (items_view (drop i values)) → AddsItem jobs (view x) more
    → ((other : List GivenJob) → AddsItem jobs (view x) other → other ≡ more)
    → Leads (items_view values) more (items_view (drop (i + 1) values))
leads_value values i x jobs more inside at leads adds only =
    leads_item (items_view values) jobs more (view x) (items_view (drop (i + 1) values))
    (subst (λ vs. Leads (items_view values) jobs (items_view vs)) (rest_at values i x inside at) leads) adds only

-- what has come as far as a value, with the minutes so far
abbrev pub HasCome : List Value → ℕ → List GivenJob → BTreeSet ℕ → Type 0
HasCome values i jobs minutes = Leads (items_view values) jobs (items_view (drop i values)) × AreMinutesOf jobs minutes

-- one Job more of a list
pub comes_on : (values : List Value) (i : ℕ) (x : Value) (jobs more : List GivenJob) (job : GivenJob)
    (minutes others : BTreeSet ℕ) → i < length values → x ≡ get_or values i x
    → HasCome values i jobs minutes → IsGiven (view x) job → ((other : GivenJob) → IsGiven (view x) other → other ≡ job)
    → contains nat_cmp minutes (job.time / 60) ≡ false → AddsMinute minutes (job.time / 60) others
    → more ≡ jobs ++ job ∷ [] → HasCome values (i + 1) more others
comes_on values i x jobs more job minutes others inside at come given only free adds is =
    rw is (
      leads_value values i x jobs (jobs ++ job ∷ []) inside at come.0
          (adds_new jobs (view x) job minutes come.1 given free) (adds_only jobs (view x) job only),
      minutes_more jobs job minutes others come.1 adds,
    )

-- one that can't be added, of a list that is seen in another way
pub no_value : (items values : List Value) (i : ℕ) (x : Value) (jobs : List GivenJob) → values ≡ items
    → i < length values → x ≡ get_or values i x
    → Leads (items_view values) jobs (items_view (drop i values))
    → ((more : List GivenJob) → AddsItem jobs (view x) more → ⊥)
    → (all : List GivenJob) → AddsItems [] (items_view items) all → ⊥
no_value items values i x jobs same inside at leads none all h =
    leads_nowhere (items_view values) jobs (view x) (items_view (drop (i + 1) values))
    (subst (λ vs. Leads (items_view values) jobs (items_view vs)) (rest_at values i x inside at) leads) none all
    (subst (λ vs. AddsItems [] (items_view vs) all) (sym same) h)

-- A refusal for some reason is one for whatever follows from that reason.
refuses_for : (r e : SceneFault) (P Q : Type 0) → (P → Q) → r ≡ e → Refuses e P → Refuses r Q
refuses_for r e P Q f is (inl memory) = inl (is ∙ memory)
refuses_for r e P Q f is (inr (form, p)) = inr (is ∙ form, f p)

-- a refusal that is handed on, for another reason
pub handed_on : {T : Type 0} (result : Result T SceneFault) (e : SceneFault) (P Q : Type 0) → (P → Q)
    → IsErrAnd result (λ r. r ≡ e) → Refuses e P → IfErr result (λ r. Refuses r Q)
handed_on (Ok x) e P Q f is h = search rules
handed_on (Err r) e P Q f is h = refuses_for r e P Q f is h
