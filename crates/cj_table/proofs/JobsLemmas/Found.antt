-- The Jobs at the slots that the index has under an owner are the owner's Jobs, in the order of their keys.
use Rattle.std.proofs.Common.{◌≡◌, ℕ, Bool, true, false, cond, List, [], ◌∷◌, Option, Some, None, refl, sym, ap, ◌∙◌, map as map_list}
use Rattle.std.specs.Prelude.{T}
use Rattle.std.specs.List.{filter, filter_map, IsDistinct, AllByRecursion}
use Rattle.std.specs.Option.{option_and_then}
use Rattle.std.specs.Ordering.{eq_by_cmp}
use Rattle.std.specs.Cmp.{eq_by_cmp_equiv}
use Rattle.std.specs.Map.{keys_of}
use Rattle.std.specs.FinMap as map
use Rattle.std.specs.FinMap.{find, is_sorted}
use Rattle.std.specs.FinMap.Entries.{below_all, same_entries}
use Rattle.std.proofs.lemmas.Map.Entries.{option_filter, lookup-filter-values}
use Rattle.cj_types.specs.Keys.{Place, place_cmp}
use Rattle.cj_types.specs.declared.job.Job.{Job}
use Rattle.cj_table.proofs.Order.{places_total, places_exact}
use Rattle.cj_table.proofs.Gets.{find-lookup}
use Rattle.cj_table.specs.jobs.Owners.{is_job_of, owned_by}
use Rattle.cj_table.specs.jobs.Slots.{Slots, Table, job_at, jobs_of}
use Rattle.cj_table.specs.jobs.Index.{Index, own_slots, is_owned, owned_slot, IsIndex}
use Rattle.cj_table.proofs.JobsLemmas.Standing.{both, first, second, less_apart, get_jobs, values_jobs}

-- ---- the Jobs that pass a test

-- A key that is below all keys of some entries differs from each of them.
apart : (x : Place) (es : List (Place × Job)) → T (below_all place_cmp x es)
    → AllByRecursion (λ y. eq_by_cmp place_cmp x y ≡ false) (keys_of es)
apart x [] h = tt
apart x (e ∷ es) h = (less_apart (place_cmp x e.0) (first _ _ h), apart x es (second _ _ h))

-- Entries in the order of their keys have distinct keys.
distinct : (es : List (Place × Job)) → T (is_sorted place_cmp es) → IsDistinct (eq_by_cmp place_cmp) (keys_of es)
unfolding IsDistinct
distinct [] h = tt
distinct (e ∷ es) h = (apart e.0 es (first _ _ h), distinct es (second _ _ h))

module _ (p : Job → Bool) where
  -- A key below those of some entries is below those of the entries whose Job passes a test.
  below_filter : (x : Place) (es : List (Place × Job)) → T (below_all place_cmp x es)
      → T (below_all place_cmp x (filter (λ e. p e.1) es))
  below_filter x [] h = tt
  below_filter x (e ∷ es) h =
      let rest = below_filter x es (second _ _ h) in
      elim (p e.1) as (λ b. T (below_all place_cmp x (cond b (e ∷ filter (λ f. p f.1) es) (filter (λ f. p f.1) es))))
      [ true ↦ both _ _ (first _ _ h) rest | false ↦ rest ]

  -- Of entries in the order of their keys, those whose Job passes a test are in that order.
  sorted_filter : (es : List (Place × Job)) → T (is_sorted place_cmp es)
      → T (is_sorted place_cmp (filter (λ e. p e.1) es))
  sorted_filter [] h = tt
  sorted_filter (e ∷ es) h =
      let rest = sorted_filter es (second _ _ h) in
      elim (p e.1) as (λ b. T (is_sorted place_cmp (cond b (e ∷ filter (λ f. p f.1) es) (filter (λ f. p f.1) es))))
      [ true ↦ both _ _ (below_filter e.0 es (first _ _ h)) rest | false ↦ rest ]

  -- Among the entries that a test keeps a key has the Job that it had, if that passes the test.
  find_filter : (k : Place) (es : List (Place × Job)) → T (is_sorted place_cmp es)
      → find place_cmp k (filter (λ e. p e.1) es) ≡ option_filter p (find place_cmp k es)
  find_filter k es h =
      find-lookup place_cmp (filter (λ e. p e.1) es) k
      ∙ lookup-filter-values (eq_by_cmp_equiv places_total) p k es (distinct es h)
      ∙ ap (option_filter p) (sym (find-lookup place_cmp es k))

  -- The Jobs of the entries that a test keeps are the Jobs of all entries that pass it.
  values_filter : (es : List (Place × Job)) → map_list (λ e. e.1) (filter (λ e. p e.1) es)
      ≡ filter p (map_list (λ e. e.1) es)
  values_filter [] = refl
  values_filter (e ∷ es) =
      let rest = values_filter es in
      elim (p e.1) as (λ b. map_list (λ f. f.1) (cond b (e ∷ filter (λ f. p f.1) es) (filter (λ f. p f.1) es))
      ≡ cond b (e.1 ∷ filter p (map_list (λ f. f.1) es)) (filter p (map_list (λ f. f.1) es))) [
        | true ↦ ap (λ (t : List Job). e.1 ∷ t) rest
        | false ↦ rest
      ]

-- ---- both are one

-- For kept: the Job at a slot that is kept is the Job, where it passes the test.
kept_slot : (slots : Slots) (o : Place) (slot : ℕ) (there : Option Job) → job_at slots slot ≡ there
    → option_and_then (job_at slots) (cond (is_owned o there) (Some slot) None) ≡ option_filter (is_job_of o) there
kept_slot slots o slot None is = refl
kept_slot slots o slot (Some job) is =
    elim (is_job_of o job) as (λ b. option_and_then (job_at slots) (cond b (Some slot) None) ≡ cond b (Some job) None)
    [ true ↦ is | false ↦ refl ]

-- The Job at an owner's slot is the Job at the slot, where it passes the test for that CronJob's Jobs.
kept : (slots : Slots) (o : Place) (x : Option ℕ) → option_and_then (job_at slots) (owned_slot slots o x)
    ≡ option_filter (is_job_of o) (option_and_then (job_at slots) x)
kept slots o None = refl
kept slots o (Some slot) = kept_slot slots o slot (job_at slots slot) refl

-- For found_owned: the Jobs at the slots that the index has under a CronJob are the Jobs that pass its test.
own_entries : (m : Table) (slots : Slots) (s : Index) (o : Place) → IsIndex m slots s
    → map.entries (jobs_of (own_slots s o) slots) ≡ filter (λ e. is_job_of o e.1) (map.entries (jobs_of m slots))
own_entries m slots s o index =
    let own = jobs_of (own_slots s o) slots in
    let all = jobs_of m slots in
    same_entries place_cmp places_total places_exact _ _ (map.entries_sorted own)
    (sorted_filter (is_job_of o) (map.entries all) (map.entries_sorted all)) (λ k.
    sym (map.get-entries own k)
    ∙ get_jobs (own_slots s o) slots k
    ∙ ap (option_and_then (job_at slots)) (index.exact o k)
    ∙ kept slots o (map.get m k)
    ∙ ap (option_filter (is_job_of o)) (sym (get_jobs m slots k) ∙ map.get-entries all k)
    ∙ sym (find_filter (is_job_of o) k (map.entries all) (map.entries_sorted all)))

-- For Jobs::owned_by: the Jobs at the slots that the index has under a CronJob are the CronJob's Jobs.
pub found_owned : (m : Table) (slots : Slots) (s : Index) (o : Place) → IsIndex m slots s
    → filter_map (job_at slots) (map.values (own_slots s o)) ≡ owned_by (jobs_of m slots) o
found_owned m slots s o index =
    sym (values_jobs (own_slots s o) slots)
    ∙ ap (λ (es : List (Place × Job)). map_list (λ e. e.1) es) (own_entries m slots s o index)
    ∙ values_filter (is_job_of o) (map.entries (jobs_of m slots))
