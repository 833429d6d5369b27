-- That nothing is changed: where a Job that was put in a slot is taken back, where nothing stood at a removed key, and
-- where there is no Job at all.
use Rattle.std.proofs.Common.{◌≡◌, ℕ, Bool, true, false, cond, [], Option, Some, None, refl, sym, ap, ◌∙◌, eqb-true}
use Rattle.std.specs.Prelude.{◌==◌}
use Rattle.std.specs.Option.{option_map, option_and_then}
use Rattle.std.specs.BTreeMap.{is_at}
use Rattle.std.specs.FinMap as map
use Rattle.cj_types.specs.Keys.{Place, place_cmp}
use Rattle.cj_types.specs.declared.job.Job.{Job}
use Rattle.cj_table.proofs.Puts.{alike, remove-insert}
use Rattle.cj_table.specs.jobs.Slots.{Slots, Table, job_at, Writes, jobs_of}
use Rattle.cj_table.specs.jobs.Index.{Index, or_none, own_slots, is_owned, owned_slot, key_at, IsIndex}
use Rattle.cj_table.proofs.JobsLemmas.Owning.{one, get_removal}
use Rattle.cj_table.proofs.JobsLemmas.Standing.{get_jobs}

-- the same Jobs stand in the same slots
abbrev pub Same : Slots → Slots → Type 0
Same s t = (l : ℕ) → job_at t l ≡ job_at s l

-- For same_after: where nothing stood a put and a removal leave nothing.
nothing : (b : Bool) (job : Job) (old : Option Job) → (b ≡ true → old ≡ None)
    → cond b None (cond b (Some job) old) ≡ old
nothing true job old none = sym (none refl)
nothing false job old none = refl

-- For Jobs::add without memory: a Job that was put in a free slot and is taken out again leaves what stood there.
pub same_after : (s t u : Slots) (slot : ℕ) (job : Job) → job_at s slot ≡ None → Writes (Some job) s t slot
    → Writes None t u slot → Same s u
same_after s t u slot job free put taken = λ l.
    taken l
    ∙ ap (cond (l == slot) None) (put l)
    ∙ nothing (l == slot) job (job_at s l) (λ e. ap (job_at s) (eqb-true l slot e) ∙ free)

-- For kept_slot: by the slot that may be there.
kept_slot : (s u : Slots) (q : Place) (o : Option ℕ) → Same s u → owned_slot u q o ≡ owned_slot s q o
kept_slot s u q None same = refl
kept_slot s u q (Some l) same = ap (λ o. cond (is_owned q o) (Some l) None) (same l)

-- For jobs_kept: by the slot that may be there.
kept_job : (s u : Slots) (o : Option ℕ) → Same s u → option_and_then (job_at u) o ≡ option_and_then (job_at s) o
kept_job s u None same = refl
kept_job s u (Some l) same = same l

-- For Jobs::add without memory: where table and index are as they were, and in the slots stands what stood there, they
-- still agree.
pub index_kept : (m n : Table) (s u : Slots) (x y : Index) → IsIndex m s x → n ≡ m → Same s u → y ≡ x → IsIndex n u y
index_kept m n s u x y index table same kept = record {
  keyed = λ k l is. ap (option_map (λ (j : Job). j.key)) (same l)
      ∙ index.keyed k l (ap (λ (z : Table). map.get z k) (sym table) ∙ is);
  held = λ k l is. ap (λ (z : Table). map.get z k) table
      ∙ index.held k l (ap (option_map (λ (j : Job). j.key)) (sym (same l)) ∙ is);
  exact = λ q k.
      ap (λ (z : Index). map.get (own_slots z q) k) kept
      ∙ index.exact q k
      ∙ ap (λ (z : Table). owned_slot s q (map.get z k)) (sym table)
      ∙ sym (kept_slot s u q (map.get n k) same);
}

-- For Jobs::add without memory: the Jobs are as they were then.
pub jobs_kept : (m n : Table) (s u : Slots) → n ≡ m → Same s u → jobs_of n u ≡ jobs_of m s
jobs_kept m n s u table same = alike _ _ (λ k.
    get_jobs n u k
    ∙ kept_job s u (map.get n k) same
    ∙ ap (λ (z : Table). option_and_then (job_at s) (map.get z k)) table
    ∙ sym (get_jobs m s k))

-- For Jobs::add without memory: a slot that was put in at a free key is taken out again.
pub taken_back : (m n l : Table) (key : Place) (slot : ℕ) → map.get m key ≡ None → n ≡ map.insert m key slot
    → l ≡ map.remove n key → l ≡ m
taken_back m n l key slot none put removal =
    removal ∙ ap (λ (z : Table). map.remove z key) put ∙ remove-insert m key slot none

-- For none_removed: at each key.
removal_step : (b : Bool) (old : Option Job) → (b ≡ true → old ≡ None) → old ≡ cond b None old
removal_step true old none = none refl
removal_step false old none = refl

-- For Jobs::remove: where no Job stands at the key the Jobs are the same without it.
pub none_removed : (jobs : map.FinMap place_cmp Job) (key : Place) → map.get jobs key ≡ None
    → jobs ≡ map.remove jobs key
none_removed jobs key none = alike _ _ (λ k.
    removal_step (is_at (place_cmp key) k) (map.get jobs k) (λ t. ap (map.get jobs) (sym (one key k t)) ∙ none)
    ∙ sym (get_removal jobs key k))

-- For Jobs::new: an empty table has no Jobs.
pub jobs_empty : (m : Table) (s : Slots) → m ≡ map.empty → jobs_of m s ≡ map.empty
jobs_empty m s e = alike _ _ (λ k.
    get_jobs m s k
    ∙ ap (λ (z : Table). option_and_then (job_at s) (map.get z k)) e
    ∙ ap (option_and_then (job_at s)) (map.get-empty place_cmp k)
    ∙ sym (map.get-empty place_cmp k))

-- For Jobs::new: an index without owners and no slots agree with a table without keys.
pub index_empty : (m : Table) (s : Slots) (x : Index) → m ≡ map.empty → s ≡ [] → x ≡ map.empty → IsIndex m s x
index_empty m s x e none f = record {
  keyed = λ k l is. absurd (cc (sym (ap (λ (z : Table). map.get z k) e ∙ map.get-empty place_cmp k) ∙ is));
  held = λ k l is. absurd (cc (ap (λ (z : Slots). key_at z l) (sym none) ∙ is));
  exact = λ q k.
      ap (λ (z : Index). map.get (own_slots z q) k) f
      ∙ ap (λ o. map.get (or_none o) k) (map.get-empty place_cmp q)
      ∙ map.get-empty place_cmp k
      ∙ ap (owned_slot s q) (sym (ap (λ (z : Table). map.get z k) e ∙ map.get-empty place_cmp k));
}
