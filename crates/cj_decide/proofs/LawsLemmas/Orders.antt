-- What runs comes in order, and is all that runs.
use Rattle.std.proofs.Common.{Bool, true, false, cond, List, [], ◌∷◌}
use Rattle.std.specs.List.Sorted.{IsPermutation}
use Rattle.std.proofs.lemmas.List.Sorted.{IsPermutation-refl, IsPermutation-sym, IsPermutation-cons, IsPermutation-trans, IsPermutation-middle}
use Rattle.cj_status.specs.declared.order.Sorting.TheVariants.{ByAge}
use Rattle.cj_status.specs.Mine.{is_running}
use Rattle.cj_status.specs.Order.{put_in, in_order}
use Rattle.cj_status.specs.Picked.{gathered}
use Rattle.cj_status.specs.Refs.{is_older}
use Rattle.cj_status.proofs.Orders.{by_sorting}
use Rattle.cj_status.proofs.Sorts.{rising_in_order}
use Rattle.cj_decide.specs.laws.Laws.{OldestFirst, AllRunning}

-- For plan_laws: the unfinished Jobs of a CronJob come by creation time, then name.
pub oldest_first : OldestFirst
oldest_first uid jobs = rising_in_order is_older (by_sorting ByAge) (gathered (is_running uid) jobs)

-- A list into which a value is put has that value and the list's own, each as often.
put_permutes : {X : Type 0} (lt : X → X → Bool) (x : X) (xs : List X) → IsPermutation (x ∷ xs) (put_in lt x xs)
put_permutes lt x [] = IsPermutation-refl (x ∷ [])
put_permutes {X} lt x (y ∷ ys) = by (lt y x) (put_permutes lt x ys)
  where
    by : (b : Bool) → IsPermutation (x ∷ ys) (put_in lt x ys)
        → IsPermutation (x ∷ y ∷ ys) (cond b (y ∷ put_in lt x ys) (x ∷ y ∷ ys))
    by true rest = IsPermutation-trans (x ∷ y ∷ ys) (y ∷ x ∷ ys) (y ∷ put_in lt x ys)
        (IsPermutation-sym (y ∷ x ∷ ys) (x ∷ y ∷ ys) (IsPermutation-middle (y ∷ []) x ys))
        (IsPermutation-cons y (x ∷ ys) (put_in lt x ys) rest)
    by false rest = IsPermutation-refl (x ∷ y ∷ ys)

-- A list in order has the values of the list, each as often.
order_permutes : {X : Type 0} (lt : X → X → Bool) (xs : List X) → IsPermutation xs (in_order lt xs)
order_permutes lt [] = IsPermutation-refl []
order_permutes lt (x ∷ xs) =
    IsPermutation-trans (x ∷ xs) (x ∷ in_order lt xs) (put_in lt x (in_order lt xs))
    (IsPermutation-cons x xs (in_order lt xs) (order_permutes lt xs)) (put_permutes lt x (in_order lt xs))

-- For plan_laws: what runs are all unfinished Jobs of the CronJob, each once.
pub all_running : AllRunning
all_running uid jobs = order_permutes is_older (gathered (is_running uid) jobs)
