-- Elements of lists, steps that are left, and unfinished Jobs of an owner.
use Rattle.std.proofs.Common.{◌≡◌, ◌⊎◌, inl, inr, ℕ, ◌≤◌, Bool, true, false, ◌&&◌, List, [], ◌∷◌, ◌++◌, map, Option, Some, None, refl, sym, ap, ◌∙◌, arith}
use Rattle.std.specs.List.{AllByRecursion}
use Rattle.std.specs.Str.{bytes_eq}
use Rattle.std.proofs.lemmas.Slice.Eq.{bytes_eq-Decides}
use Rattle.std.specs.FinMap as fin
use Rattle.cj_types.specs.Keys.{Place, place_cmp}
use Rattle.cj_types.specs.Uids.{uid_text, last_uid}
use Rattle.cj_types.specs.Owners.{controller_of}
use Rattle.cj_types.specs.Objects.{is_unfinished}
use Rattle.cj_types.specs.declared.owners.OwnerRef.{OwnerRef}
use Rattle.cj_types.specs.declared.job.Job.{Job}
use Rattle.cj_types.specs.declared.job.JobDraft.{JobDraft}
use Rattle.cj_types.specs.declared.cron.CronStatus.{CronStatus}
use Rattle.cj_status.specs.declared.refs.JobRef.{JobRef}
use Rattle.cj_decide.specs.declared.steps.Steps.{Steps}
use Rattle.cj_status.specs.Mine.{is_mine, has_uid}
use Rattle.cj_state.specs.phases.Steps.{Step, drops, makes, sets, makings, settings, all_steps}
use Rattle.cj_decide.specs.laws.Fits.{IsAmong, runs}
use Rattle.cj_world_laws.proofs.OnceLemmas.Uids.{uid_same}

-- one of these
abbrev pub IsIn : {X : Type 0} → X → List X → Type 0
IsIn x [] = ⊥
IsIn x (y ∷ ys) = (y ≡ x) ⊎ IsIn x ys

-- Where one fact gives another and the one holds of all elements, so does the other.
pub weaker : {X : Type 0} (P Q : X → Type 0) → ((x : X) → P x → Q x) → (xs : List X) → AllByRecursion P xs
    → AllByRecursion Q xs
weaker P Q f [] a = tt
weaker P Q f (x ∷ xs) a = (f x a.0, weaker P Q f xs a.1)

-- ---- steps that are left

-- a Job that is dropped before anything else is done
abbrev pub Before : List Step → Place → ℕ → Type 0
Before [] q i = ⊥
Before (drops r ∷ rs) q i = ((r.key ≡ q) × (r.uid ≡ i)) ⊎ Before rs q i
Before (makes d ∷ rs) q i = ⊥
Before (sets f ∷ rs) q i = ⊥

abbrev pub NoMakes : List Step → Type 0
NoMakes [] = Unit {0}
NoMakes (drops r ∷ rs) = NoMakes rs
NoMakes (makes d ∷ rs) = ⊥
NoMakes (sets f ∷ rs) = NoMakes rs

-- at most one making, and a status at the end
abbrev pub Ordered : List Step → Type 0
Ordered [] = Unit {0}
Ordered (drops r ∷ rs) = Ordered rs
Ordered (makes d ∷ rs) = NoMakes rs × Ordered rs
Ordered (sets f ∷ rs) = rs ≡ []

-- Among steps that make nothing there is no making.
pub none_made : (rs : List Step) (d : JobDraft) → NoMakes rs → IsIn (makes d) rs → ⊥
none_made [] d n h = h
none_made (drops r ∷ rs) d n (inl e) = absurd (cc e)
none_made (drops r ∷ rs) d n (inr h) = none_made rs d n h
none_made (makes x ∷ rs) d n h = n
none_made (sets f ∷ rs) d n (inl e) = absurd (cc e)
none_made (sets f ∷ rs) d n (inr h) = none_made rs d n h

-- A Job among the drops that come first is dropped before anything else is done.
pub before_all : (rs : List JobRef) (ys : List Step) (q : Place) (i : ℕ) → IsAmong rs q i
    → Before (map drops rs ++ ys) q i
before_all [] ys q i h = absurd h
before_all (r ∷ rs) ys q i (inl e) = inl e
before_all (r ∷ rs) ys q i (inr h) = inr (before_all rs ys q i h)

-- A step other than a drop that is among drops and steps behind them is among the latter.
in_drops : (x : Step) (rs : List JobRef) (ys : List Step) → ((r : JobRef) → drops r ≡ x → ⊥)
    → IsIn x (map drops rs ++ ys) → IsIn x ys
in_drops x [] ys n h = h
in_drops x (r ∷ rs) ys n (inl e) = absurd (n r e)
in_drops x (r ∷ rs) ys n (inr h) = in_drops x rs ys n h

-- Where at most a status is set, there is no making.
in_settings : (d : JobDraft) (o : Option CronStatus) → IsIn (makes d) (settings o) → ⊥
in_settings d None h = h
in_settings d (Some f) (inl e) = absurd (cc e)
in_settings d (Some f) (inr h) = h

-- A making that isn't among the later steps is the one before them.
in_makings : (d : JobDraft) (o : Option JobDraft) (ys : List Step) → (IsIn (makes d) ys → ⊥)
    → IsIn (makes d) (makings o ++ ys) → o ≡ Some d
in_makings d None ys n h = absurd (n h)
in_makings d (Some x) ys n (inl e) = cc e
in_makings d (Some x) ys n (inr h) = absurd (n h)

-- A making among all steps of a plan is of the draft that the plan makes.
pub in_all_makes : (s : Steps) (d : JobDraft) → IsIn (makes d) (all_steps s) → s.make ≡ Some d
in_all_makes s d h = in_makings d s.make _ (λ x. in_settings d s.status
    (in_drops (makes d) s.cleanup (settings s.status) (λ r e. absurd (cc e)) x))
    (in_drops (makes d) s.drop_first _ (λ r e. absurd (cc e)) h)

-- A status that is set by a making, if any, and later steps is set by the later ones.
past_makings : (f : CronStatus) (o : Option JobDraft) (ys : List Step) → IsIn (sets f) (makings o ++ ys)
    → IsIn (sets f) ys
past_makings f None ys h = h
past_makings f (Some x) ys (inl e) = absurd (cc e)
past_makings f (Some x) ys (inr h) = h

-- A status that is set where at most one is set is that one.
set_is : (f : CronStatus) (o : Option CronStatus) → IsIn (sets f) (settings o) → o ≡ Some f
set_is f None h = absurd h
set_is f (Some x) (inl e) = cc e
set_is f (Some x) (inr h) = absurd h

-- A status that is set among all steps of a plan is the final status of the plan.
pub in_all_sets : (s : Steps) (f : CronStatus) → IsIn (sets f) (all_steps s) → s.status ≡ Some f
in_all_sets s f h = set_is f s.status (in_drops (sets f) s.cleanup (settings s.status) (λ r e. absurd (cc e))
    (past_makings f s.make _ (in_drops (sets f) s.drop_first _ (λ r e. absurd (cc e)) h)))

-- Ordered steps are ordered with drops before them too.
drops_ordered : (rs : List JobRef) (ys : List Step) → Ordered ys → Ordered (map drops rs ++ ys)
drops_ordered [] ys h = h
drops_ordered (r ∷ rs) ys h = drops_ordered rs ys h

-- Steps that make nothing make nothing with drops before them either.
drops_make_none : (rs : List JobRef) (ys : List Step) → NoMakes ys → NoMakes (map drops rs ++ ys)
drops_make_none [] ys h = h
drops_make_none (r ∷ rs) ys h = drops_make_none rs ys h

-- The setting of a status, or of none, makes nothing.
settings_none : (o : Option CronStatus) → NoMakes (settings o)
settings_none None = tt
settings_none (Some f) = tt

-- The setting of a status, or of none, is ordered.
settings_ordered : (o : Option CronStatus) → Ordered (settings o)
settings_ordered None = tt
settings_ordered (Some f) = refl

-- A making, or none, before ordered steps that make nothing is ordered with them.
makings_ordered : (o : Option JobDraft) (ys : List Step) → NoMakes ys → Ordered ys → Ordered (makings o ++ ys)
makings_ordered None ys n h = h
makings_ordered (Some d) ys n h = (n, h)

-- All steps of a plan are ordered: at most one making, and a status only at the end.
pub all_ordered : (s : Steps) → Ordered (all_steps s)
all_ordered s = drops_ordered s.drop_first _ (makings_ordered s.make _
    (drops_make_none s.cleanup (settings s.status) (settings_none s.status))
    (drops_ordered s.cleanup (settings s.status) (settings_ordered s.status)))

-- ---- Jobs of an owner

-- Where two tests are true together, each of them is true.
pub both_true : (a b : Bool) → (a && b) ≡ true → (a ≡ true) × (b ≡ true)
both_true true true e = (refl, refl)
both_true true false e = absurd (cc e)
both_true false b e = absurd (cc e)

-- Where each of two tests is true, they are true together.
true_both : (a b : Bool) → a ≡ true → b ≡ true → (a && b) ≡ true
true_both true b p q = q
true_both false b p q = absurd (cc p)

-- A Job that runs for an owner has its uid in the controller reference.
pub runs_mine : (u : ℕ) (j : Job) → runs u j ≡ true → is_mine (uid_text u) j ≡ true
unfolding runs
runs_mine u j h = (both_true (is_mine (uid_text u) j) (is_unfinished j) h).0

-- A Job that runs for an owner is unfinished.
pub runs_unfinished : (u : ℕ) (j : Job) → runs u j ≡ true → is_unfinished j ≡ true
unfolding runs
runs_unfinished u j h = (both_true (is_mine (uid_text u) j) (is_unfinished j) h).1

-- An unfinished Job with an owner's uid in the controller reference runs for the owner.
runs_both : (u : ℕ) (j : Job) → is_mine (uid_text u) j ≡ true → is_unfinished j ≡ true → runs u j ≡ true
unfolding runs
runs_both u j p q = true_both (is_mine (uid_text u) j) (is_unfinished j) p q

-- A Job that runs for an owner did so before, if it had the same owners and was unfinished too.
pub runs_was : (u : ℕ) (j i : Job) → j.owners ≡ i.owners → (is_unfinished j ≡ true → is_unfinished i ≡ true)
    → runs u j ≡ true → runs u i ≡ true
runs_was u j i e f h = runs_both u i (ap (λ o. has_uid (uid_text u) (controller_of o)) (sym e) ∙ runs_mine u j h)
    (f (runs_unfinished u j h))

-- A Job without a controller runs for no owner.
pub runs_free : (u : ℕ) (j : Job) → controller_of j.owners ≡ None → runs u j ≡ true → ⊥
runs_free u j e h = absurd (cc (sym (runs_mine u j h) ∙ ap (has_uid (uid_text u)) e))

-- Texts that the test takes for equal are equal.
text_same : (a b : List ℕ) → bytes_eq a b ≡ true → a ≡ b
text_same a b h = grind (arith, bytes_eq-Decides, h)

-- A Job runs only for the owner of whose uid its controller reference has the text.
pub runs_owned : (u v : ℕ) (j : Job) (o : OwnerRef) → controller_of j.owners ≡ Some o → o.uid ≡ uid_text v
    → runs u j ≡ true → u ≤ last_uid → v ≤ last_uid → u ≡ v
runs_owned u v j o e t h a b = uid_same u v a b (sym
    (text_same o.uid (uid_text u) (ap (has_uid (uid_text u)) (sym e) ∙ runs_mine u j h)) ∙ t)

-- each unfinished Job of an owner has a key and a uid of which P holds
abbrev pub Rest : ℕ → (Place → ℕ → Type 0) → fin.FinMap place_cmp Job → Type 0
Rest u P jobs = (q : Place) (j : Job) → fin.get jobs q ≡ Some j → runs u j ≡ true → P q j.meta.uid
