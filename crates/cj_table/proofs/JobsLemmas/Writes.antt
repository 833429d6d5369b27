-- What one write to the table, to the slots and to the index does to their agreement, and to the Jobs.
use Rattle.std.proofs.Common.{◌≡◌, ℕ, Bool, true, false, ◌&&◌, cond, Option, Some, None, refl, sym, ap, ◌∙◌, eqb-true, eq-eqb, ne_eqb}
use Rattle.std.specs.Prelude.{◌==◌}
use Rattle.std.specs.Option.{option_map, option_and_then}
use Rattle.std.specs.BTreeMap.{is_at}
use Rattle.std.specs.Cmp.{eq_by_cmp_equiv}
use Rattle.std.specs.FinMap as map
use Rattle.std.proofs.lemmas.Bool.{both_ways}
use Rattle.cj_types.specs.Keys.{Place, place_cmp}
use Rattle.cj_types.specs.declared.job.Job.{Job}
use Rattle.cj_table.proofs.Order.{places_total}
use Rattle.cj_table.specs.jobs.Slots.{Slots, Table, job_at, Writes, jobs_of}
use Rattle.cj_table.specs.jobs.Index.{Index, is_owned, owned_slot, key_at, is_owner, IsIndex, Sets}
use Rattle.cj_table.proofs.JobsLemmas.Owning.{one}
use Rattle.cj_table.proofs.JobsLemmas.Standing.{get_jobs}

-- the new table has this slot or none at the key, and else what the old has
abbrev pub Turns : Option ℕ → Table → Table → Place → Type 0
Turns there old new key = (k : Place) → map.get new k ≡ cond (is_at (place_cmp key) k) there (map.get old k)

-- no other key has the slot
abbrev pub IsAlone : Table → Place → ℕ → Type 0
IsAlone table key slot = (k : Place) → map.get table k ≡ Some slot → k ≡ key

-- A key ties with itself.
pub tied : (key k : Place) → k ≡ key → is_at (place_cmp key) k ≡ true
tied key k e = ap (is_at (place_cmp key)) e ∙ (eq_by_cmp_equiv places_total).refl key

-- A test together with what is true is the test.
with_true : (a : Bool) → (a && true) ≡ a
with_true true = refl
with_true false = refl

-- What is chosen by a test together with what is false is the other.
with_false : {X : Type 0} (a : Bool) (x y : X) → cond (a && false) x y ≡ y
with_false true x y = refl
with_false false x y = refl

-- a table and slots before and after a write of this slot or none at a key and of this Job or none in a slot that no
-- other key has
module _ (m n : Table) (s t : Slots) (key : Place) (slot : ℕ) (w : Option ℕ) (j : Option Job) (turns : Turns w m n key)
    (writes : Writes j s t slot) (alone : IsAlone m key slot) where
  -- At another key's slot stands what stood there before.
  kept_at : (k : Place) (l : ℕ) → map.get m k ≡ Some l → is_at (place_cmp key) k ≡ false → job_at t l ≡ job_at s l
  kept_at k l is apart = writes l ∙ ap (λ b. cond b j (job_at s l))
      (ne_eqb l slot (λ e. both_ways _ apart (tied key k (alone k (is ∙ ap Some e)))))

  -- For written_at: another key has the Job that it had.
  kept_job : (k : Place) (o : Option ℕ) → map.get m k ≡ o → is_at (place_cmp key) k ≡ false
      → option_and_then (job_at t) o ≡ option_and_then (job_at s) o
  kept_job k None is apart = refl
  kept_job k (Some l) is apart = kept_at k l is apart

  -- For exact_at: another key's slot is an owner's where it was before.
  kept_slot : (q k : Place) (o : Option ℕ) → map.get m k ≡ o → is_at (place_cmp key) k ≡ false
      → owned_slot t q o ≡ owned_slot s q o
  kept_slot q k None is apart = refl
  kept_slot q k (Some l) is apart = ap (λ o. cond (is_owned q o) (Some l) None) (kept_at k l is apart)

  -- For get_written: by whether it is the key that is written.
  written_at : (k : Place) (b : Bool) → is_at (place_cmp key) k ≡ b
      → option_and_then (job_at t) (cond b w (map.get m k))
      ≡ cond b (option_and_then (job_at t) w) (option_and_then (job_at s) (map.get m k))
  written_at k true tie = refl
  written_at k false tie = kept_job k (map.get m k) refl tie

  -- The Jobs have at the key the one at its new slot, if it has one, and else what they had.
  pub get_written : (k : Place) → map.get (jobs_of n t) k
      ≡ cond (is_at (place_cmp key) k) (option_and_then (job_at t) w) (map.get (jobs_of m s) k)
  get_written k =
      get_jobs n t k
      ∙ ap (option_and_then (job_at t)) (turns k)
      ∙ written_at k (is_at (place_cmp key) k) refl
      ∙ ap (cond (is_at (place_cmp key) k) (option_and_then (job_at t) w)) (sym (get_jobs m s k))

  module _ (x y : Index) (owner : Option Place) (index : IsIndex m s x) (sets : Sets w x y owner key)
      (keyed : (l : ℕ) → w ≡ Some l → key_at t l ≡ Some key) (own : (l : ℕ) → map.get m key ≡ Some l → l ≡ slot)
      (held : (k : Place) → option_map (λ (job : Job). job.key) j ≡ Some k → map.get n k ≡ Some slot)
      (here : (q : Place) → cond (is_owner owner q) w (owned_slot s q (map.get m key)) ≡ owned_slot t q w) where
    -- For index_written: at a key's slot stands a Job of that key, by whether it is the key that is written.
    keyed_at : (k : Place) (l : ℕ) (b : Bool) → is_at (place_cmp key) k ≡ b → cond b w (map.get m k) ≡ Some l
        → key_at t l ≡ Some k
    keyed_at k l true tie is = keyed l is ∙ ap Some (one key k tie)
    keyed_at k l false tie is = ap (option_map (λ (job : Job). job.key)) (kept_at k l is tie) ∙ index.keyed k l is

    -- For held_at: another slot that a key had it still has, by whether it is the key that is written.
    held_apart : (k : Place) (l : ℕ) (b : Bool) → (l ≡ slot → ⊥) → is_at (place_cmp key) k ≡ b → map.get m k ≡ Some l
        → cond b w (map.get m k) ≡ Some l
    held_apart k l true apart tie is = absurd (apart (own l (ap (map.get m) (one key k tie) ∙ is)))
    held_apart k l false apart tie is = is

    -- For index_written: the table has a Job's slot for its key, by whether it is the slot that is written.
    held_at : (k : Place) (l : ℕ) (b : Bool) → (l == slot) ≡ b
        → option_map (λ (job : Job). job.key) (cond b j (job_at s l)) ≡ Some k → map.get n k ≡ Some l
    held_at k l true e is = held k is ∙ ap Some (sym (eqb-true l slot e))
    held_at k l false e is = turns k
        ∙ held_apart k l (is_at (place_cmp key) k) (λ same. both_ways _ e (eq-eqb l slot same)) refl (index.held k l is)

    -- For index_written: an owner has at a key the slot of its Job, by whether it is the key that is written.
    exact_at : (q k : Place) (b : Bool) → is_at (place_cmp key) k ≡ b
        → cond (is_owner owner q && b) w (owned_slot s q (map.get m k)) ≡ owned_slot t q (cond b w (map.get m k))
    exact_at q k true tie =
        ap (λ a. cond a w (owned_slot s q (map.get m k))) (with_true (is_owner owner q))
        ∙ ap (λ (z : Place). cond (is_owner owner q) w (owned_slot s q (map.get m z))) (sym (one key k tie))
        ∙ here q
    exact_at q k false tie = with_false (is_owner owner q) w (owned_slot s q (map.get m k))
        ∙ sym (kept_slot q k (map.get m k) refl tie)

    -- The index with the slot or without it under the owner agrees with the table and the slots as they are written.
    pub index_written : IsIndex n t y
    index_written = record {
      keyed = λ k l is. keyed_at k l (is_at (place_cmp key) k) refl (sym (turns k) ∙ is);
      held = λ k l is. held_at k l (l == slot) refl (sym (ap (option_map (λ (job : Job). job.key)) (writes l)) ∙ is);
      exact = λ q k.
          sets q k
          ∙ ap (cond (is_owner owner q && is_at (place_cmp key) k) w) (index.exact q k)
          ∙ exact_at q k (is_at (place_cmp key) k) refl
          ∙ ap (owned_slot t q) (sym (turns k));
    }
