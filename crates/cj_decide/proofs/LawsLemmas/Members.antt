-- What stands in a list in order, in a part of it, and in names with one more.
use Rattle.std.proofs.Common.{◌≡◌, ◌∙◌, ◌⊎◌, inl, inr, ap, sym, refl, ℕ, Bool, true, false, cond, List, [], ◌∷◌, ◌++◌, map, filter, Option}
use Rattle.std.specs.declared.cmp.Ordering.{Ordering}
use Rattle.std.specs.declared.cmp.Ordering.TheVariants.{Less, Equal, Greater}
use Rattle.std.specs.Ordering.{nat_cmp}
use Rattle.std.specs.Cmp.Lexicographic.{slice_cmp}
use Rattle.std.specs.FinMap.{slice_cmp-IsAntisymmetric, nat_cmp-IsAntisymmetric}
use Rattle.cj_types.specs.declared.job.Job.{Job}
use Rattle.cj_status.specs.declared.refs.JobRef.{JobRef}
use Rattle.cj_status.specs.Active.{placed, names_with, is_found, still_active}
use Rattle.cj_status.specs.Order.{put_in, in_order}
use Rattle.cj_status.specs.Picked.{gathered}
use Rattle.cj_status.specs.Refs.{ref}
use Rattle.cj_decide.specs.laws.Laws.{IsIn, IsFoundOf}

module _ {X : Type 0} where
  -- What stands in a list stands in it with another list behind.
  pub in_left : (x : X) (xs ys : List X) → IsIn x xs → IsIn x (xs ++ ys)
  in_left x [] ys h = absurd h
  in_left x (y ∷ xs) ys (inl e) = inl e
  in_left x (y ∷ xs) ys (inr h) = inr (in_left x xs ys h)

  -- What stands in two joined lists stands in one of them.
  pub in_parts : (x : X) (xs ys : List X) → IsIn x (xs ++ ys) → IsIn x xs ⊎ IsIn x ys
  in_parts x [] ys h = inr h
  in_parts x (y ∷ xs) ys (inl e) = inl (inl e)
  in_parts x (y ∷ xs) ys (inr h) = by (in_parts x xs ys h)
    where
      by : IsIn x xs ⊎ IsIn x ys → IsIn x (y ∷ xs) ⊎ IsIn x ys
      by (inl k) = inl (inr k)
      by (inr k) = inr k

  -- What stands in the part of a list that a test keeps stands in the list and passes the test.
  pub in_filtered : (p : X → Bool) (x : X) (xs : List X) → IsIn x (filter p xs) → IsIn x xs × (p x ≡ true)
  in_filtered p x [] h = absurd h
  in_filtered p x (y ∷ xs) h = by (p y) refl (λ k. in_filtered p x xs k) h
    where
      by : (b : Bool) → p y ≡ b → (IsIn x (filter p xs) → IsIn x xs × (p x ≡ true))
          → IsIn x (cond b (y ∷ filter p xs) (filter p xs)) → IsIn x (y ∷ xs) × (p x ≡ true)
      by true e rest (inl f) = (inl f, ap p (sym f) ∙ e)
      by true e rest (inr k) = let r = rest k in (inr r.0, r.1)
      by false e rest k = let r = rest k in (inr r.0, r.1)

  -- Conversely, what stands in a list and passes a test stands in the part that the test keeps.
  pub filtered_in : (p : X → Bool) (x : X) (xs : List X) → p x ≡ true → IsIn x xs → IsIn x (filter p xs)
  filtered_in p x [] e h = h
  filtered_in p x (y ∷ xs) e (inl f) = by (p y) (ap p f ∙ e)
    where
      by : (b : Bool) → b ≡ true → IsIn x (cond b (y ∷ filter p xs) (filter p xs))
      by true t = inl f
      by false t = absurd (cc)
  filtered_in p x (y ∷ xs) e (inr h) = by (p y) (filtered_in p x xs e h)
    where
      by : (b : Bool) → IsIn x (filter p xs) → IsIn x (cond b (y ∷ filter p xs) (filter p xs))
      by true k = inr k
      by false k = k

  -- For in_ordered: what stands in a list with y put in is y or stood there before.
  put_has : (lt : X → X → Bool) (x y : X) (xs : List X) → IsIn x (put_in lt y xs) → IsIn x (y ∷ xs)
  put_has lt x y [] h = h
  put_has lt x y (z ∷ zs) h = by (lt z y) (λ k. put_has lt x y zs k) h
    where
      turn : IsIn x (y ∷ zs) → IsIn x (y ∷ z ∷ zs)
      turn (inl e) = inl e
      turn (inr k) = inr (inr k)

      by : (b : Bool) → (IsIn x (put_in lt y zs) → IsIn x (y ∷ zs)) → IsIn x (cond b (z ∷ put_in lt y zs) (y ∷ z ∷ zs))
          → IsIn x (y ∷ z ∷ zs)
      by true rest (inl e) = inr (inl e)
      by true rest (inr k) = turn (rest k)
      by false rest k = k

  -- For ordered_in: y and all that stood in a list stand in it with y put in.
  has_put : (lt : X → X → Bool) (x y : X) (xs : List X) → IsIn x (y ∷ xs) → IsIn x (put_in lt y xs)
  has_put lt x y [] h = h
  has_put lt x y (z ∷ zs) h = by (lt z y) (λ k. has_put lt x y zs k) h
    where
      by : (b : Bool) → (IsIn x (y ∷ zs) → IsIn x (put_in lt y zs)) → IsIn x (y ∷ z ∷ zs)
          → IsIn x (cond b (z ∷ put_in lt y zs) (y ∷ z ∷ zs))
      by true rest (inl e) = inr (rest (inl e))
      by true rest (inr (inl e)) = inl e
      by true rest (inr (inr k)) = inr (rest (inr k))
      by false rest k = k

  -- What stands in a list put in order stands in the list.
  pub in_ordered : (lt : X → X → Bool) (x : X) (xs : List X) → IsIn x (in_order lt xs) → IsIn x xs
  in_ordered lt x [] h = h
  in_ordered lt x (y ∷ xs) h = by (λ k. in_ordered lt x xs k) (put_has lt x y (in_order lt xs) h)
    where
      by : (IsIn x (in_order lt xs) → IsIn x xs) → IsIn x (y ∷ in_order lt xs) → IsIn x (y ∷ xs)
      by rest (inl e) = inl e
      by rest (inr k) = inr (rest k)

  -- Conversely, what stands in a list stands in it put in order.
  pub ordered_in : (lt : X → X → Bool) (x : X) (xs : List X) → IsIn x xs → IsIn x (in_order lt xs)
  ordered_in lt x [] h = h
  ordered_in lt x (y ∷ xs) (inl e) = has_put lt x y (in_order lt xs) (inl e)
  ordered_in lt x (y ∷ xs) (inr h) = has_put lt x y (in_order lt xs) (inr (ordered_in lt x xs h))

-- ---- Jobs as a plan names them

pub record IsOf (p : Job → Bool) (jobs : List Job) (r : JobRef) : Type 0 where
  pub job : Job
  pub listed : IsIn job jobs
  pub passes : p job ≡ true
  pub is : ref job ≡ r

-- A reference to one of some Jobs is that of a Job that stands among them.
in_map : (r : JobRef) (jobs : List Job) → IsIn r (map ref jobs) → (job : Job) × IsIn job jobs × (ref job ≡ r)
in_map r [] h = absurd h
in_map r (job ∷ jobs) (inl e) = (job, inl refl, e)
in_map r (job ∷ jobs) (inr h) = let k = in_map r jobs h in (k.0, inr k.1, k.2)

-- The reference to a Job of a list stands among the references to the list's Jobs.
map_in : (job : Job) (jobs : List Job) → IsIn job jobs → IsIn (ref job) (map ref jobs)
map_in job [] h = h
map_in job (other ∷ jobs) (inl e) = inl (ap ref e)
map_in job (other ∷ jobs) (inr h) = inr (map_in job jobs h)

-- A reference among the gathered ones is that of a listed Job that passes the test.
pub in_gathered : (p : Job → Bool) (jobs : List Job) (r : JobRef) → IsIn r (gathered p jobs) → IsOf p jobs r
in_gathered p jobs r h =
    let k = in_map r (filter p jobs) h in
    let l = in_filtered p k.0 jobs k.1 in
    record { job = k.0; listed = l.0; passes = l.1; is = k.2 }

-- A listed Job that passes the test has its reference among the gathered ones.
pub gathered_in : (p : Job → Bool) (jobs : List Job) (job : Job) → p job ≡ true → IsIn job jobs
    → IsIn (ref job) (gathered p jobs)
gathered_in p jobs job e h = map_in job (filter p jobs) (filtered_in p job jobs e h)

-- ---- names

-- Texts that compare as equal are the same.
text_same : (m n : List ℕ) → slice_cmp nat_cmp m n ≡ Equal → m ≡ n
text_same m n e = slice_cmp-IsAntisymmetric nat_cmp-IsAntisymmetric m n e

-- For with_has, at the first of the names: a name there is the added one, or was there before.
placed_has : (o : Ordering) (n m : List ℕ) (ms rest : List (List ℕ)) (name : List ℕ)
    → (IsIn name rest → (n ≡ name) ⊎ IsIn name ms) → IsIn name (placed o n m ms rest) → (n ≡ name) ⊎ IsIn name (m ∷ ms)
placed_has Less n m ms rest name f h = h
placed_has Equal n m ms rest name f h = inr h
placed_has Greater n m ms rest name f (inl e) = inr (inl e)
placed_has Greater n m ms rest name f (inr h) = by (f h)
  where
    by : (n ≡ name) ⊎ IsIn name ms → (n ≡ name) ⊎ IsIn name (m ∷ ms)
    by (inl e) = inl e
    by (inr k) = inr (inr k)

-- A name in a list with one more name is the added one, or one of the list before.
pub with_has : (n : List ℕ) (ms : List (List ℕ)) (name : List ℕ) → IsIn name (names_with n ms)
    → (n ≡ name) ⊎ IsIn name ms
with_has n [] name (inl e) = inl e
with_has n [] name (inr h) = inr h
with_has n (m ∷ ms) name h = placed_has (slice_cmp nat_cmp n m) n m ms (names_with n ms) name (with_has n ms name) h

-- For with_one, at the first of the names: the added name stands in the new list.
placed_one : (o : Ordering) (n m : List ℕ) (ms rest : List (List ℕ)) → (o ≡ Equal → n ≡ m) → IsIn n rest
    → IsIn n (placed o n m ms rest)
placed_one Less n m ms rest f h = inl refl
placed_one Equal n m ms rest f h = inl (sym (f refl))
placed_one Greater n m ms rest f h = inr h

-- An added name stands in the list.
pub with_one : (n : List ℕ) (ms : List (List ℕ)) → IsIn n (names_with n ms)
with_one n [] = inl refl
with_one n (m ∷ ms) = placed_one (slice_cmp nat_cmp n m) n m ms (names_with n ms) (text_same n m) (with_one n ms)

-- For with_others, at the first of the names: a name that stood in the list still does.
placed_others : (o : Ordering) (n m : List ℕ) (ms rest : List (List ℕ)) (name : List ℕ)
    → (IsIn name ms → IsIn name rest) → IsIn name (m ∷ ms) → IsIn name (placed o n m ms rest)
placed_others Less n m ms rest name f h = inr h
placed_others Equal n m ms rest name f h = h
placed_others Greater n m ms rest name f (inl e) = inl e
placed_others Greater n m ms rest name f (inr h) = inr (f h)

-- A name of a list still stands there with one more name.
pub with_others : (n : List ℕ) (ms : List (List ℕ)) (name : List ℕ) → IsIn name ms → IsIn name (names_with n ms)
with_others n [] name h = absurd h
with_others n (m ∷ ms) name h = placed_others (slice_cmp nat_cmp n m) n m ms (names_with n ms) name
    (with_others n ms name) h

-- A name that is still active is one of the names, and its Job was found unfinished.
pub still_has : (uid : List ℕ) (names : List (List ℕ)) (found : List (Option Job)) (name : List ℕ)
    → IsIn name (still_active uid names found) → IsFoundOf uid names found name
still_has uid [] found name h = h
still_has uid (n ∷ names) [] name h = h
still_has uid (n ∷ names) (one ∷ found) name h = by (is_found uid n one) refl (λ k. still_has uid names found name k) h
  where
    by : (b : Bool) → is_found uid n one ≡ b → (IsIn name (still_active uid names found)
        → IsFoundOf uid names found name)
        → IsIn name (cond b (n ∷ still_active uid names found) (still_active uid names found))
        → IsFoundOf uid (n ∷ names) (one ∷ found) name
    by true e rest (inl f) = inl (f, e)
    by true e rest (inr k) = inr (rest k)
    by false e rest k = inr (rest k)

-- Conversely, one of the names whose Job was found unfinished is still active.
pub has_still : (uid : List ℕ) (names : List (List ℕ)) (found : List (Option Job)) (name : List ℕ)
    → IsFoundOf uid names found name → IsIn name (still_active uid names found)
has_still uid [] found name h = h
has_still uid (n ∷ names) [] name h = h
has_still uid (n ∷ names) (one ∷ found) name (inl h) = by (is_found uid n one) h.1
  where
    by : (b : Bool) → b ≡ true → IsIn name (cond b (n ∷ still_active uid names found) (still_active uid names found))
    by true e = inl h.0
    by false e = absurd (cc)
has_still uid (n ∷ names) (one ∷ found) name (inr h) = by (is_found uid n one) (has_still uid names found name h)
  where
    by : (b : Bool) → IsIn name (still_active uid names found)
        → IsIn name (cond b (n ∷ still_active uid names found) (still_active uid names found))
    by true k = inr k
    by false k = k
