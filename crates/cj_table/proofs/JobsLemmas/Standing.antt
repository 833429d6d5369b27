-- What the Jobs of a table of slots are: at each key the one at the key's slot, and in the order of keys those at the
-- slots in that order.
use Rattle.std.proofs.Common.{◌≡◌, ℕ, Bool, true, false, ◌&&◌, cond, List, [], ◌∷◌, Option, Some, None, refl, sym, ap, ◌∙◌, map as map_list}
use Rattle.std.specs.Prelude.{T}
use Rattle.std.specs.declared.cmp.Ordering.{Ordering}
use Rattle.std.specs.declared.cmp.Ordering.TheVariants.{Less, Equal, Greater}
use Rattle.std.specs.List.{filter_map, cons_option}
use Rattle.std.specs.Option.{option_map, option_and_then}
use Rattle.std.specs.Ordering.{is_eq, is_lt, eq_by_cmp}
use Rattle.std.specs.FinMap as map
use Rattle.std.specs.FinMap.{find, is_sorted}
use Rattle.std.specs.FinMap.Entries.{below_all, same_entries}
use Rattle.cj_types.specs.Keys.{Place, place_cmp}
use Rattle.cj_types.specs.declared.job.Job.{Job}
use Rattle.cj_table.proofs.Order.{places_total, places_exact}
use Rattle.cj_table.proofs.Puts.{one_key}
use Rattle.cj_table.specs.jobs.Slots.{Slots, Table, job_at, row_at, jobs_of}

-- Where each of two tests holds, both hold together.
pub both : (a b : Bool) → T a → T b → T (a && b)
both true b p q = q
both false b p q = p

-- Of two tests that hold together, the first holds.
pub first : (a b : Bool) → T (a && b) → T a
first true b p = tt
first false b p = p

-- Of two tests that hold together, the second holds.
pub second : (a b : Bool) → T (a && b) → T b
second true b p = p
second false b p = absurd p

-- What is less is no tie.
pub less_apart : (r : Ordering) → T (is_lt r) → is_eq r ≡ false
less_apart Less p = refl
less_apart Equal p = absurd p
less_apart Greater p = absurd p

-- Among entries that a key is below nothing is found at it.
found_below : (k : Place) (es : List (Place × ℕ)) → T (below_all place_cmp k es) → find place_cmp k es ≡ None
found_below k [] h = refl
found_below k (e ∷ es) h =
    ap (λ b. cond b (Some e.1) (find place_cmp k es)) (less_apart (place_cmp k e.0) (first _ _ h))
    ∙ found_below k es (second _ _ h)

-- For found_row: where a key ties with one that is below some entries, nothing is found at it among them.
none_found : (k q : Place) (es : List (Place × ℕ)) → eq_by_cmp place_cmp k q ≡ true → T (below_all place_cmp q es)
    → find place_cmp k es ≡ None
none_found k q es t h = ap (λ (x : Place). find place_cmp x es) (one_key k q t) ∙ found_below q es h

module _ (slots : Slots) where
  -- the keys of some entries, each with the Job at its slot, if one stands there
  abbrev rows : List (Place × ℕ) → List (Place × Job)
  rows es = filter_map (row_at slots) es

  -- A key below those of some entries is below those of the entries that have a Job.
  below_rows : (x : Place) (es : List (Place × ℕ)) → T (below_all place_cmp x es) → T (below_all place_cmp x (rows es))
  below_rows x [] h = tt
  below_rows x (e ∷ es) h =
      let rest = below_rows x es (second _ _ h) in
      elim (job_at slots e.1) as (λ o. T (below_all place_cmp x (cons_option (option_map (λ j. (e.0, j)) o) (rows es))))
      [ None ↦ rest | Some j ↦ both _ _ (first _ _ h) rest ]

  -- Of entries in the order of their keys, those that have a Job are in that order.
  sorted_rows : (es : List (Place × ℕ)) → T (is_sorted place_cmp es) → T (is_sorted place_cmp (rows es))
  sorted_rows [] h = tt
  sorted_rows (e ∷ es) h =
      let rest = sorted_rows es (second _ _ h) in
      elim (job_at slots e.1) as (λ o. T (is_sorted place_cmp (cons_option (option_map (λ j. (e.0, j)) o) (rows es))))
      [ None ↦ rest | Some j ↦ both _ _ (below_rows e.0 es (first _ _ h)) rest ]

  -- For found_row: at the first entry, by the Job that may be at its slot and by whether the key is the entry's.
  row_step : (k q : Place) (slot : ℕ) (es : List (Place × ℕ)) (there : Option Job) (t : Bool)
      → there ≡ job_at slots slot → (t ≡ true → find place_cmp k es ≡ None)
      → find place_cmp k (rows es) ≡ option_and_then (job_at slots) (find place_cmp k es)
      → eq_by_cmp place_cmp k q ≡ t
      → find place_cmp k (cons_option (option_map (λ j. (q, j)) there) (rows es))
      ≡ option_and_then (job_at slots) (cond t (Some slot) (find place_cmp k es))
  row_step k q slot es None true is none rest tie =
      rest ∙ ap (option_and_then (job_at slots)) (none refl) ∙ is
  row_step k q slot es None false is none rest tie = rest
  row_step k q slot es (Some j) true is none rest tie =
      ap (λ b. cond b (Some j) (find place_cmp k (rows es))) tie ∙ is
  row_step k q slot es (Some j) false is none rest tie =
      ap (λ b. cond b (Some j) (find place_cmp k (rows es))) tie ∙ rest

  -- Among the entries that have a Job a key has the Job at the slot that it had among all.
  found_row : (k : Place) (es : List (Place × ℕ)) → T (is_sorted place_cmp es)
      → find place_cmp k (rows es) ≡ option_and_then (job_at slots) (find place_cmp k es)
  found_row k [] h = refl
  found_row k (e ∷ es) h =
      row_step k e.0 e.1 es (job_at slots e.1) (eq_by_cmp place_cmp k e.0) refl
      (λ t. none_found k e.0 es t (first _ _ h)) (found_row k es (second _ _ h)) refl

  -- The Jobs of the entries that have one are those at the slots of all.
  row_values : (es : List (Place × ℕ))
      → map_list (λ e. e.1) (rows es) ≡ filter_map (job_at slots) (map_list (λ e. e.1) es)
  row_values [] = refl
  row_values (e ∷ es) =
      let rest = row_values es in
      elim (job_at slots e.1) as (λ o. map_list (λ f. f.1) (cons_option (option_map (λ j. (e.0, j)) o) (rows es))
      ≡ cons_option o (filter_map (job_at slots) (map_list (λ f. f.1) es))) [
        | None ↦ rest
        | Some j ↦ ap (λ (t : List Job). j ∷ t) rest
      ]

-- The Jobs of a table have at a key the one at the slot of the key.
pub get_jobs : (table : Table) (slots : Slots) (k : Place) → map.get (jobs_of table slots) k
    ≡ option_and_then (job_at slots) (map.get table k)
get_jobs table slots k =
    map.get-from_entries places_total (rows slots (map.entries table)) k
    ∙ found_row slots k (map.entries table) (map.entries_sorted table)
    ∙ ap (option_and_then (job_at slots)) (sym (map.get-entries table k))

-- The Jobs of a table, in the order of keys, are those at its slots in the order of their keys.
pub values_jobs : (table : Table) (slots : Slots) → map.values (jobs_of table slots)
    ≡ filter_map (job_at slots) (map.values table)
values_jobs table slots =
    let all = rows slots (map.entries table) in
    let same : map.entries (jobs_of table slots) ≡ all =
    same_entries place_cmp places_total places_exact _ _ (map.entries_sorted (jobs_of table slots))
    (sorted_rows slots (map.entries table) (map.entries_sorted table)) (λ k.
    sym (map.get-entries (jobs_of table slots) k) ∙ map.get-from_entries places_total all k) in
    ap (λ (es : List (Place × Job)). map_list (λ e. e.1) es) same
    ∙ row_values slots (map.entries table)
