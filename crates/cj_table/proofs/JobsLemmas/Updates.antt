-- What Jobs::add, replace and remove do to the agreement of the index, the table and the slots, and to the Jobs.
use Rattle.std.proofs.Common.{◌≡◌, ℕ, Bool, true, false, ◌&&◌, cond, Option, Some, None, refl, sym, ap, ◌∙◌, subst, eq-eqb}
use Rattle.std.specs.Prelude.{IsSome, IfSome, option_copied}
use Rattle.std.specs.Borrow.{Bor}
use Rattle.std.specs.Option.{option_map, option_and_then}
use Rattle.std.specs.BTreeMap.{is_at}
use Rattle.std.specs.FinMap as map
use Rattle.cj_types.specs.Keys.{Place, place_cmp}
use Rattle.cj_types.specs.declared.job.Job.{Job}
use Rattle.cj_table.proofs.Puts.{alike}
use Rattle.cj_table.specs.jobs.Owners.{owners_of, is_job_of}
use Rattle.cj_table.specs.jobs.Slots.{Slots, Table, job_at, Writes, jobs_of}
use Rattle.cj_table.specs.jobs.Index.{Index, own_slots, owner_of, owner_at, is_owned, owned_slot, key_at, is_owner, IsIndex, Sets}
use Rattle.cj_table.proofs.JobsLemmas.Owning.{one, get_put, get_removal, put_again}
use Rattle.cj_table.proofs.JobsLemmas.Standing.{get_jobs}
use Rattle.cj_table.proofs.JobsLemmas.Whose.{owner_is, owned_is, owned_from}
use Rattle.cj_table.proofs.JobsLemmas.Writes.{IsAlone, Turns, tied, get_written, index_written}

-- ---- what stands at a key's slot

-- For stands: where there is a key there is a Job.
key_stands : (there : Option Job) (key : Place) → option_map (λ (j : Job). j.key) there ≡ Some key → IsSome there
key_stands None key e = absurd (cc e)
key_stands (Some job) key e = refl

-- At a key's slot a Job stands.
pub stands : (m : Table) (s : Slots) (x : Index) (key : Place) (slot : ℕ) → IsIndex m s x → Some slot ≡ map.get m key
    → IsSome (job_at s slot)
stands m s x key slot index is = key_stands (job_at s slot) key (index.keyed key slot (sym is))

-- For Jobs::get: what is found in a key's slot has that key.
pub keyed_there : (r : Option (Bor Job)) (there : Option Job) (key : Place) → option_copied r ≡ there
    → option_map (λ (j : Job). j.key) there ≡ Some key → IfSome r (λ j. j.now.key ≡ key)
keyed_there None there key e f = tt
keyed_there (Some j) there key e f = cc (ap (option_map (λ (j : Job). j.key)) e ∙ f)

-- No two keys have the same slot.
alone : (m : Table) (s : Slots) (x : Index) (key : Place) (slot : ℕ) → IsIndex m s x → map.get m key ≡ Some slot
    → IsAlone m key slot
alone m s x key slot index is k other =
    let e : Some k ≡ Some key = sym (index.keyed k slot other) ∙ index.keyed key slot is in cc e

-- A slot where no Job stands is no key's.
unused : (m : Table) (s : Slots) (x : Index) (key : Place) (slot : ℕ) → IsIndex m s x → job_at s slot ≡ None
    → IsAlone m key slot
unused m s x key slot index none k other =
    let e : option_map (λ (j : Job). j.key) (job_at s slot) ≡ Some k = index.keyed k slot other in
    absurd (cc (ap (option_map (λ (j : Job). j.key)) (sym none) ∙ e))

-- For absent: where a key has a slot a Job stands there.
absent_from : (m : Table) (s : Slots) (x : Index) (key : Place) (o : Option ℕ) → IsIndex m s x → map.get m key ≡ o
    → option_and_then (job_at s) o ≡ None → o ≡ None
absent_from m s x key None index is none = refl
absent_from m s x key (Some slot) index is none =
    let e : option_map (λ (j : Job). j.key) (job_at s slot) ≡ Some key = index.keyed key slot is in
    absurd (cc (ap (option_map (λ (j : Job). j.key)) (sym none) ∙ e))

-- A key at which no Job stands has no slot.
pub absent : (m : Table) (s : Slots) (x : Index) (key : Place) → IsIndex m s x → map.get (jobs_of m s) key ≡ None
    → map.get m key ≡ None
absent m s x key index none = absent_from m s x key (map.get m key) index refl (sym (get_jobs m s key) ∙ none)

-- In a slot that was written stands what was written.
written : (j : Option Job) (s t : Slots) (slot : ℕ) → Writes j s t slot → job_at t slot ≡ j
written j s t slot writes = writes slot ∙ ap (λ b. cond b j (job_at s slot)) (eq-eqb slot slot refl)

-- ---- a Job is put

-- For a Job that is added and one that is put in place of another: the Jobs have the Job at its key.
jobs_put : (m n : Table) (s t : Slots) (slot : ℕ) (job : Job) → Turns (Some slot) m n job.key
    → Writes (Some job) s t slot → IsAlone m job.key slot → jobs_of n t ≡ map.insert (jobs_of m s) job.key job
jobs_put m n s t slot job turns writes alone = alike _ _ (λ k.
    get_written m n s t job.key slot (Some slot) (Some job) turns writes alone k
    ∙ ap (λ o. cond (is_at (place_cmp job.key) k) o (map.get (jobs_of m s) k)) (written (Some job) s t slot writes)
    ∙ sym (get_put (jobs_of m s) job.key job k))

-- For a Job that is added and one that is put in place of another: the key of the slot that the Job is put in is the
-- Job's.
key_put : (s t : Slots) (slot : ℕ) (job : Job) → Writes (Some job) s t slot → (l : ℕ) → Some slot ≡ Some l
    → key_at t l ≡ Some job.key
key_put s t slot job writes l e =
    let same : slot ≡ l = cc e in
    subst (λ l. key_at t l ≡ Some job.key) same
    (ap (option_map (λ (j : Job). j.key)) (written (Some job) s t slot writes))

-- For a Job that is added and one that is put in place of another: the table has the slot at its key.
held_put : (m n : Table) (slot : ℕ) (job : Job) → Turns (Some slot) m n job.key → (k : Place) → Some job.key ≡ Some k
    → map.get n k ≡ Some slot
held_put m n slot job turns k e =
    let same : k ≡ job.key = cc e in
    turns k ∙ ap (λ b. cond b (Some slot) (map.get m k)) (tied job.key k same)

-- For owned_put: what is chosen where the test fails is nothing.
chosen : (b : Bool) (slot : ℕ) (old : Option ℕ) → (b ≡ false → old ≡ None)
    → cond b (Some slot) old ≡ cond b (Some slot) None
chosen true slot old none = refl
chosen false slot old none = none refl

-- For a Job that is added and one that is put in place of another: the Job's slot is its owner's and of no other.
owned_put : (s t : Slots) (slot : ℕ) (job : Job) (old : Option ℕ) (q : Place) → Writes (Some job) s t slot
    → (is_job_of q job ≡ false → old ≡ None)
    → cond (is_owner (owner_of job) q) (Some slot) old ≡ owned_slot t q (Some slot)
owned_put s t slot job old q writes none =
    ap (λ b. cond b (Some slot) old) (owner_is job q)
    ∙ chosen (is_job_of q job) slot old none
    ∙ ap (λ o. cond (is_owned q o) (Some slot) None) (sym (written (Some job) s t slot writes))

-- ---- Jobs::add

-- A table with a slot put in has it at the key, and else what it had.
turns_put : (m n : Table) (key : Place) (slot : ℕ) → n ≡ map.insert m key slot → Turns (Some slot) m n key
turns_put m n key slot put = λ k. ap (λ (z : Table). map.get z k) put ∙ get_put m key slot k

-- The index with the slot under the Job's owner agrees with the table and the slots after the Job is put in a free slot
-- and this at the Job's key, where no Job stood.
pub index_added : (m n : Table) (s t : Slots) (x y : Index) (job : Job) (slot : ℕ) → IsIndex m s x
    → map.get (jobs_of m s) job.key ≡ None → job_at s slot ≡ None → Writes (Some job) s t slot
    → n ≡ map.insert m job.key slot → Sets (Some slot) x y (owner_of job) job.key → IsIndex n t y
index_added m n s t x y job slot index none free writes put sets =
    index_written m n s t job.key slot (Some slot) (Some job) (turns_put m n job.key slot put) writes
    (unused m s x job.key slot index free) x y (owner_of job) index sets (key_put s t slot job writes)
    (λ l is. absurd (cc (sym (absent m s x job.key index none) ∙ is)))
    (held_put m n slot job (turns_put m n job.key slot put))
    (λ q. owned_put s t slot job (owned_slot s q (map.get m job.key)) q writes
    (λ f. ap (owned_slot s q) (absent m s x job.key index none)))

-- The Jobs have the Job at its key then.
pub jobs_added : (m n : Table) (s t : Slots) (x : Index) (job : Job) (slot : ℕ) → IsIndex m s x → job_at s slot ≡ None
    → Writes (Some job) s t slot → n ≡ map.insert m job.key slot
    → jobs_of n t ≡ map.insert (jobs_of m s) job.key job
jobs_added m n s t x job slot index free writes put =
    jobs_put m n s t slot job (turns_put m n job.key slot put) writes (unused m s x job.key slot index free)

-- ---- Jobs::replace

-- For a Job that is put in place of another and one that is taken out: a key has no other slot than its slot.
only : (m : Table) (key : Place) (slot l : ℕ) → Some slot ≡ map.get m key → map.get m key ≡ Some l → l ≡ slot
only m key slot l is other = let e : Some slot ≡ Some l = is ∙ other in cc e

-- Where the owner references of a Job at a key are told the key has a slot.
pub replaced_stands : (m : Table) (s : Slots) (job : Job) → owners_of (jobs_of m s) job.key ≡ Some job.owners
    → None ≡ map.get m job.key → ⊥
replaced_stands m s job owners none =
    let e : option_map (λ (j : Job). j.owners) (map.get (jobs_of m s) job.key) ≡ None =
    ap (option_map (λ (j : Job). j.owners)) (get_jobs m s job.key ∙ ap (option_and_then (job_at s)) (sym none)) in
    cc (sym e ∙ owners)

-- The Job that stands in the slot of a Job's key, which is told to have its owner references, has the same owner.
same_owned : (m : Table) (s : Slots) (x : Index) (job : Job) (slot : ℕ) → IsIndex m s x
    → owners_of (jobs_of m s) job.key ≡ Some job.owners → map.get m job.key ≡ Some slot → (q : Place)
    → is_owned q (job_at s slot) ≡ is_job_of q job
same_owned m s x job slot index owners is q =
    owned_from job (job_at s slot) q (index.keyed job.key slot is)
    (ap (option_map (λ (j : Job). j.owners))
    (sym (get_jobs m s job.key ∙ ap (option_and_then (job_at s)) is)) ∙ owners)

-- A table has at a key the slot that it has there, and else what it has.
turns_same : (m : Table) (key : Place) (slot : ℕ) → map.get m key ≡ Some slot → Turns (Some slot) m m key
turns_same m key slot is = λ k. sym (ap (λ (z : Table). map.get z k) (put_again m key slot is)) ∙ get_put m key slot k

-- For sets_same: by whether it is the Job's owner and its key.
same_step : (m : Table) (s : Slots) (x : Index) (job : Job) (slot : ℕ) → IsIndex m s x
    → owners_of (jobs_of m s) job.key ≡ Some job.owners → map.get m job.key ≡ Some slot → (q k : Place) (a b : Bool)
    → is_owner (owner_of job) q ≡ a → is_at (place_cmp job.key) k ≡ b
    → map.get (own_slots x q) k ≡ cond (a && b) (Some slot) (map.get (own_slots x q) k)
same_step m s x job slot index owners is q k true true e t =
    index.exact q k
    ∙ ap (λ (z : Place). owned_slot s q (map.get m z)) (sym (one job.key k t))
    ∙ ap (owned_slot s q) is
    ∙ ap (λ b. cond b (Some slot) None) (same_owned m s x job slot index owners is q ∙ sym (owner_is job q) ∙ e)
same_step m s x job slot index owners is q k true false e t = refl
same_step m s x job slot index owners is q k false b e t = refl

-- The index with the slot of the Job's key under the Job's owner stays as it is.
sets_same : (m : Table) (s : Slots) (x : Index) (job : Job) (slot : ℕ) → IsIndex m s x
    → owners_of (jobs_of m s) job.key ≡ Some job.owners → map.get m job.key ≡ Some slot
    → Sets (Some slot) x x (owner_of job) job.key
sets_same m s x job slot index owners is = λ q k. same_step m s x job slot index owners is q k
    (is_owner (owner_of job) q) (is_at (place_cmp job.key) k) refl refl

-- The index and the table as they are agree with the slots after the Job is put in place of one with the same owner
-- references.
pub index_replaced : (m : Table) (s t : Slots) (x : Index) (job : Job) (slot : ℕ) → IsIndex m s x
    → owners_of (jobs_of m s) job.key ≡ Some job.owners → Some slot ≡ map.get m job.key → Writes (Some job) s t slot
    → IsIndex m t x
index_replaced m s t x job slot index owners is writes =
    index_written m m s t job.key slot (Some slot) (Some job) (turns_same m job.key slot (sym is)) writes
    (alone m s x job.key slot index (sym is)) x x (owner_of job) index
    (sets_same m s x job slot index owners (sym is)) (key_put s t slot job writes)
    (λ l. only m job.key slot l is) (held_put m m slot job (turns_same m job.key slot (sym is)))
    (λ q. owned_put s t slot job (owned_slot s q (map.get m job.key)) q writes
    (λ f. ap (owned_slot s q) (sym is)
    ∙ ap (λ b. cond b (Some slot) None) (same_owned m s x job slot index owners (sym is) q ∙ f)))

-- The Jobs have the Job at its key then.
pub jobs_replaced : (m : Table) (s t : Slots) (x : Index) (job : Job) (slot : ℕ) → IsIndex m s x
    → Some slot ≡ map.get m job.key → Writes (Some job) s t slot
    → jobs_of m t ≡ map.insert (jobs_of m s) job.key job
jobs_replaced m s t x job slot index is writes =
    jobs_put m m s t slot job (turns_same m job.key slot (sym is)) writes (alone m s x job.key slot index (sym is))

-- ---- Jobs::remove

-- A table with a key taken out has nothing there, and else what it had.
turns_removal : (m n : Table) (key : Place) → n ≡ map.remove m key → Turns None m n key
turns_removal m n key removal = λ k. ap (λ (z : Table). map.get z k) removal ∙ get_removal m key k

-- For index_removed: where the test holds nothing is chosen, and else there was nothing.
gone : (b : Bool) (slot : ℕ) → cond b None (cond b (Some slot) None) ≡ None
gone true slot = refl
gone false slot = refl

-- The index without the slot agrees with the table and the slots after the key and the Job in its slot are taken out.
pub index_removed : (m n : Table) (s t : Slots) (x y : Index) (key : Place) (slot : ℕ) (owner : Option Place)
    → IsIndex m s x → Some slot ≡ map.get m key → owner ≡ owner_at (job_at s slot) → Sets None x y owner key
    → n ≡ map.remove m key → Writes None s t slot → IsIndex n t y
index_removed m n s t x y key slot owner index is owned sets removal writes =
    index_written m n s t key slot None None (turns_removal m n key removal) writes
    (alone m s x key slot index (sym is)) x y owner index sets (λ l e. absurd (cc e))
    (λ l. only m key slot l is) (λ k e. absurd (cc e))
    (λ q. ap (λ o. cond (is_owner o q) None (owned_slot s q (map.get m key))) owned
    ∙ ap (λ b. cond b None (owned_slot s q (map.get m key))) (owned_is (job_at s slot) q)
    ∙ ap (λ o. cond (is_owned q (job_at s slot)) None (owned_slot s q o)) (sym is)
    ∙ gone (is_owned q (job_at s slot)) slot)

-- The Jobs are without the one at the key then.
pub jobs_removed : (m n : Table) (s t : Slots) (x : Index) (key : Place) (slot : ℕ) → IsIndex m s x
    → Some slot ≡ map.get m key → n ≡ map.remove m key → Writes None s t slot
    → jobs_of n t ≡ map.remove (jobs_of m s) key
jobs_removed m n s t x key slot index is removal writes = alike _ _ (λ k.
    get_written m n s t key slot None None (turns_removal m n key removal) writes
    (alone m s x key slot index (sym is)) k
    ∙ sym (get_removal (jobs_of m s) key k))
