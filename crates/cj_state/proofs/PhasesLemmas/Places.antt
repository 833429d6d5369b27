-- Where in its list a step stands.
use Rattle.std.proofs.Common.{◌≡◌, ◌≢◌, ℕ, zero, suc, ◌+◌, ◌-◌, ◌<◌, ◌≤◌, nat_lt, true, false, ◌&&◌, List, [], ◌∷◌, ◌++◌, length, map, drop, Option, Some, None, refl, ap, ◌∙◌, arith}
use Rattle.std.specs.Prelude.{option_map, is_none}
use Rattle.std.specs.List.{slice_get}
use Rattle.std.proofs.lemmas.Option.{slice_get-map}
use Rattle.std.proofs.lemmas.Bool.Decides.{nat_tests}
use Rattle.cj_types.specs.declared.cron.CronStatus.{CronStatus}
use Rattle.cj_types.specs.declared.job.JobDraft.{JobDraft}
use Rattle.cj_status.specs.declared.refs.JobRef.{JobRef}
use Rattle.cj_decide.specs.declared.steps.Steps.{Steps}
use Rattle.cj_state.specs.phases.Steps.{Step, drops, makes, sets, makings, settings, all_steps, step_at, left, as_drop, as_make, as_status, is_over, count}

-- A place in the first of two joined lists has what stands there in that list.
pub at_left : {X : Type 0} (xs ys : List X) (i : ℕ) → i < length xs → slice_get (xs ++ ys) i ≡ slice_get xs i
at_left [] ys i b = absurd (omega arith)
at_left (x ∷ xs) ys zero b = refl
at_left (x ∷ xs) ys (suc i) b = at_left xs ys i (omega arith)

-- A place past the first of two joined lists has what stands so far into the second.
pub at_right : {X : Type 0} (xs ys : List X) (i j : ℕ) → i ≡ length xs + j → slice_get (xs ++ ys) i ≡ slice_get ys j
at_right [] ys i j e = let h : i ≡ j = omega arith in ap (slice_get ys) h
at_right (x ∷ xs) ys zero j e = absurd (omega arith)
at_right (x ∷ xs) ys (suc i) j e = at_right xs ys i j (omega arith)

-- The step that drops a Job, if there is one, drops that Job.
drop_of_drops : (o : Option JobRef) → as_drop (option_map drops o) ≡ o
drop_of_drops None = refl
drop_of_drops (Some r) = refl

-- The step that drops a Job, if there is one, makes none.
make_of_drops : (o : Option JobRef) → as_make (option_map drops o) ≡ None
make_of_drops None = refl
make_of_drops (Some r) = refl

-- The step that drops a Job, if there is one, sets no status.
status_of_drops : (o : Option JobRef) → as_status (option_map drops o) ≡ None
status_of_drops None = refl
status_of_drops (Some r) = refl

-- Among the drops of some Jobs, the step at a place drops the Job at that place.
drop_in : (rs : List JobRef) (i : ℕ) → as_drop (slice_get (map drops rs) i) ≡ slice_get rs i
drop_in rs i = ap as_drop (slice_get-map drops rs i) ∙ drop_of_drops (slice_get rs i)

-- Among the drops of some Jobs, no step makes a Job.
make_in : (rs : List JobRef) (i : ℕ) → as_make (slice_get (map drops rs) i) ≡ None
make_in rs i = ap as_make (slice_get-map drops rs i) ∙ make_of_drops (slice_get rs i)

-- Among the drops of some Jobs, no step sets a status.
status_in : (rs : List JobRef) (i : ℕ) → as_status (slice_get (map drops rs) i) ≡ None
status_in rs i = ap as_status (slice_get-map drops rs i) ∙ status_of_drops (slice_get rs i)

-- There are as many drops as Jobs to drop.
many : (rs : List JobRef) → length (map drops rs) ≡ length rs
many [] = refl
many (r ∷ rs) = ap suc (many rs)

-- There is one making if there is a Job to make, else none.
once : (d : Option JobDraft) → length (makings d) ≡ count d
once None = refl
once (Some d) = refl

-- the three parts of the list
-- A step within the first drops is the one at that place among them.
in_first : (s : Steps) (i : ℕ) → i < length s.drop_first → step_at s i ≡ slice_get (map drops s.drop_first) i
unfolding step_at
in_first s i b = at_left (map drops s.drop_first) _ i (let e = many s.drop_first in omega arith)

-- A step past the first drops is one of the making, the cleanup and the status.
in_later : (s : Steps) (i j : ℕ) → i ≡ length s.drop_first + j → step_at s i
    ≡ slice_get (makings s.make ++ (map drops s.cleanup ++ settings s.status)) j
unfolding step_at
in_later s i j e = at_right (map drops s.drop_first) _ i j (let m = many s.drop_first in omega arith)

-- A step past the first drops and the making is one of the cleanup and the status.
in_rest : (s : Steps) (i j : ℕ) → i ≡ length s.drop_first + count s.make + j
    → step_at s i ≡ slice_get (map drops s.cleanup ++ settings s.status) j
in_rest s i j e = in_later s i (count s.make + j) (omega arith) ∙ at_right (makings s.make) _ (count s.make + j) j
    (let m = once s.make in omega arith)

-- ---- drops
-- For drop_at: a step within the first drops drops the Job at that place among them.
pub drop_first : (s : Steps) (i : ℕ) → i < length s.drop_first → as_drop (step_at s i) ≡ slice_get s.drop_first i
drop_first s i b = ap as_drop (in_first s i b) ∙ drop_in s.drop_first i

-- The making drops no Job.
made_alone : (d : Option JobDraft) (xs : List Step) (j : ℕ) → j < count d
    → as_drop (slice_get (makings d ++ xs) j) ≡ None
made_alone None xs j b = absurd (omega arith)
made_alone (Some d) xs zero b = refl
made_alone (Some d) xs (suc j) b = absurd (omega arith)

-- For drop_at: past the first drops, a step that is the making drops no Job.
pub drop_between : (s : Steps) (i : ℕ) → length s.drop_first ≤ i → i - length s.drop_first < count s.make
    → as_drop (step_at s i) ≡ None
drop_between s i a b = ap as_drop (in_later s i (i - length s.drop_first) (omega arith)) ∙ made_alone s.make _ _ b

-- The final status drops no Job.
no_drop : (x : Option CronStatus) (j : ℕ) → as_drop (slice_get (settings x) j) ≡ None
no_drop None j = refl
no_drop (Some x) zero = refl
no_drop (Some x) (suc j) = refl

-- Among the cleanup and the status, the step at a place drops the Job at that place, if any.
in_cleanup : (rs : List JobRef) (x : Option CronStatus) (j : ℕ) → as_drop (slice_get (map drops rs ++ settings x) j)
    ≡ slice_get rs j
in_cleanup [] x j = no_drop x j
in_cleanup (r ∷ rs) x zero = refl
in_cleanup (r ∷ rs) x (suc j) = in_cleanup rs x j

-- For drop_at: past the making, a step drops the Job at its place in the cleanup, if any.
pub drop_after : (s : Steps) (i : ℕ) → length s.drop_first ≤ i → count s.make ≤ i - length s.drop_first
    → as_drop (step_at s i) ≡ slice_get s.cleanup (i - length s.drop_first - count s.make)
drop_after s i a b = ap as_drop (in_rest s i (i - length s.drop_first - count s.make) (omega arith))
    ∙ in_cleanup s.cleanup s.status _

-- ---- the making
-- No step of the cleanup and the status makes a Job.
no_make : (rs : List JobRef) (x : Option CronStatus) (j : ℕ) → as_make (slice_get (map drops rs ++ settings x) j) ≡ None
no_make [] None j = refl
no_make [] (Some x) zero = refl
no_make [] (Some x) (suc j) = refl
no_make (r ∷ rs) x zero = refl
no_make (r ∷ rs) x (suc j) = no_make rs x j

-- Of the making, the cleanup and the status, the first step makes the plan's Job, if there is one.
make_first : (d : Option JobDraft) (rs : List JobRef) (x : Option CronStatus)
    → as_make (slice_get (makings d ++ (map drops rs ++ settings x)) 0) ≡ d
make_first None rs x = no_make rs x 0
make_first (Some d) rs x = refl

-- Of the making, the cleanup and the status, no step but the first makes a Job.
make_next : (d : Option JobDraft) (rs : List JobRef) (x : Option CronStatus) (j : ℕ) → 0 < j
    → as_make (slice_get (makings d ++ (map drops rs ++ settings x)) j) ≡ None
make_next None rs x j b = no_make rs x j
make_next (Some d) rs x zero b = absurd (omega arith)
make_next (Some d) rs x (suc j) b = no_make rs x j

-- For make_at: the step right behind the first drops makes the plan's Job, if there is one.
pub make_here : (s : Steps) (i : ℕ) → i ≡ length s.drop_first → as_make (step_at s i) ≡ s.make
make_here s i e = ap as_make (in_later s i 0 (omega arith)) ∙ make_first s.make s.cleanup s.status

-- A step within the first drops makes no Job.
make_before : (s : Steps) (i : ℕ) → i < length s.drop_first → as_make (step_at s i) ≡ None
make_before s i b = ap as_make (in_first s i b) ∙ make_in s.drop_first i

-- A step past the place right behind the first drops makes no Job.
make_past : (s : Steps) (i : ℕ) → length s.drop_first < i → as_make (step_at s i) ≡ None
make_past s i b = ap as_make (in_later s i (i - length s.drop_first) (omega arith))
    ∙ make_next s.make s.cleanup s.status _ (omega arith)

-- For make_at: a step at another place than right behind the first drops makes no Job.
pub make_elsewhere : (s : Steps) (i : ℕ) → i ≢ length s.drop_first → as_make (step_at s i) ≡ None
make_elsewhere s i ne =
    elim (nat_lt i (length s.drop_first)) as (λ b. nat_lt i (length s.drop_first) ≡ b → as_make (step_at s i) ≡ None) [
      | true ↦ λ h. make_before s i (grind (arith, nat_tests))
      | false ↦ λ h. make_past s i (grind (arith, nat_tests))
    ] refl

-- ---- the status
-- For status_at: a step within the first drops sets no status.
pub status_first : (s : Steps) (i : ℕ) → i < length s.drop_first → as_status (step_at s i) ≡ None
status_first s i b = ap as_status (in_first s i b) ∙ status_in s.drop_first i

-- The making sets no status.
made_no_status : (d : Option JobDraft) (xs : List Step) (j : ℕ) → j < count d
    → as_status (slice_get (makings d ++ xs) j) ≡ None
made_no_status None xs j b = absurd (omega arith)
made_no_status (Some d) xs zero b = refl
made_no_status (Some d) xs (suc j) b = absurd (omega arith)

-- For status_at: past the first drops, a step that is the making sets no status.
pub status_between : (s : Steps) (i : ℕ) → length s.drop_first ≤ i → i - length s.drop_first < count s.make
    → as_status (step_at s i) ≡ None
status_between s i a b = ap as_status (in_later s i (i - length s.drop_first) (omega arith))
    ∙ made_no_status s.make _ _ b

-- The last part of the steps begins with the final status, if there is one.
last_status : (x : Option CronStatus) → as_status (slice_get (settings x) 0) ≡ x
last_status None = refl
last_status (Some x) = refl

-- Of the cleanup and the status, the step behind the cleaned up Jobs sets the status, if any.
end_status : (rs : List JobRef) (x : Option CronStatus) (j : ℕ) → j ≡ length rs
    → as_status (slice_get (map drops rs ++ settings x) j) ≡ x
end_status [] x zero e = last_status x
end_status [] x (suc j) e = absurd (omega arith)
end_status (r ∷ rs) x zero e = absurd (omega arith)
end_status (r ∷ rs) x (suc j) e = end_status rs x j (omega arith)

-- Past the final status no step sets one.
past_status : (x : Option CronStatus) (j : ℕ) → as_status (slice_get (settings x) (suc j)) ≡ None
past_status None j = refl
past_status (Some x) j = refl

-- Of the cleanup and the status, only the step behind the cleaned up Jobs sets a status.
other_status : (rs : List JobRef) (x : Option CronStatus) (j : ℕ) → j ≢ length rs
    → as_status (slice_get (map drops rs ++ settings x) j) ≡ None
other_status [] x zero ne = absurd (ne refl)
other_status [] x (suc j) ne = past_status x j
other_status (r ∷ rs) x zero ne = refl
other_status (r ∷ rs) x (suc j) ne = other_status rs x j (λ e. ne (omega arith))

-- For status_at: the step right behind the cleanup sets the plan's status, if there is one.
pub status_here : (s : Steps) (i : ℕ) → length s.drop_first ≤ i → count s.make ≤ i - length s.drop_first
    → i - length s.drop_first - count s.make ≡ length s.cleanup → as_status (step_at s i) ≡ s.status
status_here s i a b e = ap as_status (in_rest s i (i - length s.drop_first - count s.make) (omega arith))
    ∙ end_status s.cleanup s.status _ e

-- For status_at: past the making, only the step right behind the cleanup sets a status.
pub status_elsewhere : (s : Steps) (i : ℕ) → length s.drop_first ≤ i → count s.make ≤ i - length s.drop_first
    → i - length s.drop_first - count s.make ≢ length s.cleanup → as_status (step_at s i) ≡ None
status_elsewhere s i a b ne = ap as_status (in_rest s i (i - length s.drop_first - count s.make) (omega arith))
    ∙ other_status s.cleanup s.status _ ne

-- ---- the end
-- For is_done: there is no step just where none drops, none makes, and none sets a status.
pub over : (o : Option Step) → is_over o ≡ (is_none (as_drop o) && is_none (as_make o) && is_none (as_status o))
over None = refl
over (Some (drops r)) = refl
over (Some (makes d)) = refl
over (Some (sets x)) = refl

-- Where a list has a value at a place, what is left there is that value and all behind it.
pub next_left : {X : Type 0} (xs : List X) (i j : ℕ) (x : X) → j ≡ i + 1 → slice_get xs i ≡ Some x
    → drop i xs ≡ x ∷ drop j xs
next_left [] i j x n e = absurd (cc e)
next_left (y ∷ ys) zero zero x n e = absurd (omega arith)
next_left (y ∷ ys) zero (suc zero) x n e = let h : y ≡ x = cc in ap (λ z. z ∷ ys) h
next_left (y ∷ ys) zero (suc (suc k)) x n e = absurd (omega arith)
next_left (y ∷ ys) (suc i) zero x n e = absurd (omega arith)
next_left (y ∷ ys) (suc i) (suc k) x n e = next_left ys i k x (omega arith) e

-- For step_laws: the steps that are left are the next one and those after it.
pub steps_left : (s : Steps) (i : ℕ) (x : Step) → step_at s i ≡ Some x → left s i ≡ x ∷ left s (i + 1)
unfolding step_at
steps_left s i x e = next_left (all_steps s) i (i + 1) x refl e
