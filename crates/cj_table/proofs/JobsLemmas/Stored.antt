-- What a write to the entries of the index is to the index.
use Rattle.std.proofs.Common.{◌≡◌, ℕ, List, Option, Some, None, cond, sym, ap, ◌∙◌, subst}
use Rattle.std.specs.Prelude.{Result, Ok, Err, OnOk, OnErr}
use Rattle.std.specs.Map.{lookup}
use Rattle.std.specs.FinMap as map
use Rattle.cj_types.specs.Keys.{Place, place_cmp}
use Rattle.std.specs.BTreeMap.{is_at}
use Rattle.cj_table.proofs.Rows.{found_at, inserted_at, removed_at}
use Rattle.cj_table.specs.jobs.Slots.{Table}
use Rattle.cj_table.specs.jobs.Index.{Index, or_none, own_slots, Sets}
use Rattle.cj_table.proofs.JobsLemmas.Owning.{put_again, sets_put, taken_kept, taken_last, sets_absent}

abbrev pub Entries : Type 0
Entries = List (Place × Table)

-- the index of these entries
abbrev pub index_of : Entries → Index
index_of es = map.from_entries {R = place_cmp} es

-- the entries fs have this or nothing at the owner, and else what the entries es have
abbrev pub Changes : Entries → Entries → Place → Option Table → Type 0
Changes es fs o w = (q : Place)
    → lookup (is_at (place_cmp q)) fs ≡ cond (is_at (place_cmp o) q) w (lookup (is_at (place_cmp q)) es)

-- What a look-up of the owner finds is what the index has under it.
pub own_found : (s : Index) (es : Entries) (o : Place) (own : Option Table) → index_of es ≡ s
    → own ≡ lookup (is_at (place_cmp o)) es → own_slots s o ≡ or_none own
own_found s es o own is found = ap (λ (x : Index). own_slots x o) (sym is) ∙ ap or_none (found_at es o ∙ sym found)

-- What is written at the owner is put there.
put_row : (s : Index) (es fs : Entries) (o : Place) (w : Table) → index_of es ≡ s → Changes es fs o (Some w)
    → index_of fs ≡ map.insert s o w
put_row s es fs o w is writes = inserted_at es fs o w writes ∙ ap (λ (x : Index). map.insert x o w) is

-- For put_in and put_new: the owner's slots with the slot are written.
put_slot : (s : Index) (es fs : Entries) (named : Option Place) (o : Place) (own : Option Table) (w : Table)
    (k key : Place) (slot : ℕ) → index_of es ≡ s → named ≡ Some o → own ≡ lookup (is_at (place_cmp o)) es
    → Changes es fs o (Some w) → k ≡ key → w ≡ map.insert (or_none own) k slot
    → Sets (Some slot) s (index_of fs) named key
put_slot s es fs named o own w k key slot is name found writes at put =
    subst (λ n. Sets (Some slot) s (index_of fs) n key) (sym name)
    (sets_put s (index_of fs) o key w slot (put_row s es fs o w is writes)
    (put
    ∙ ap (λ (q : Place). map.insert (or_none own) q slot) at
    ∙ ap (λ (m : Table). map.insert m key slot) (sym (own_found s es o own is found))))

-- For ByOwner::put: the slot is written under an owner that has some.
pub put_in : {A E : Type 0} (r : Result A E) (s : Index) (es fs : Entries) (named : Option Place) (o : Place)
    (own w : Table) (k key : Place) (slot : ℕ) → index_of es ≡ s → named ≡ Some o
    → Some own ≡ lookup (is_at (place_cmp o)) es → Changes es fs o (Some w) → k ≡ key
    → OnOk r (w ≡ map.insert own k slot) → OnOk r (Sets (Some slot) s (index_of fs) named key)
put_in (Ok x) s es fs named o own w k key slot is name found writes at put =
    put_slot s es fs named o (Some own) w k key slot is name found writes at put
put_in (Err e) s es fs named o own w k key slot is name found writes at put = tt

-- For ByOwner::put: where the owner's slots stay as they were, so does the index.
pub kept_in : {A E : Type 0} (r : Result A E) (s : Index) (es fs : Entries) (o : Place) (own w : Table)
    → index_of es ≡ s
    → Some own ≡ lookup (is_at (place_cmp o)) es → Changes es fs o (Some w) → OnErr r (w ≡ own)
    → OnErr r (index_of fs ≡ s)
kept_in (Ok x) s es fs o own w is found writes kept = tt
kept_in (Err e) s es fs o own w is found writes kept =
    put_row s es fs o w is writes
    ∙ put_again s o w (ap (λ (x : Index). map.get x o) (sym is) ∙ found_at es o ∙ sym found ∙ ap Some (sym kept))

-- For ByOwner::put: the slot is written under an owner that had none.
pub put_new : (s : Index) (es fs : Entries) (named : Option Place) (o : Place) (w : Table) (k key : Place) (slot : ℕ)
    → index_of es ≡ s → named ≡ Some o → None ≡ lookup (is_at (place_cmp o)) es → Changes es fs o (Some w) → k ≡ key
    → w ≡ map.insert map.empty k slot → Sets (Some slot) s (index_of fs) named key
put_new s es fs named o w k key slot is name found writes at put =
    put_slot s es fs named o None w k key slot is name found writes at put

-- For ByOwner::take: the owner's slots without the key are written.
pub taken_in : (s : Index) (es fs : Entries) (named : Option Place) (o : Place) (own w : Table) (key : Place)
    → index_of es ≡ s → named ≡ Some o → Some own ≡ lookup (is_at (place_cmp o)) es → Changes es fs o (Some w)
    → w ≡ map.remove own key → Sets None s (index_of fs) named key
taken_in s es fs named o own w key is name found writes removal =
    subst (λ n. Sets None s (index_of fs) n key) (sym name)
    (taken_kept s (index_of fs) o key w
    (removal ∙ ap (λ (m : Table). map.remove m key) (sym (own_found s es o (Some own) is found)))
    (put_row s es fs o w is writes))

-- For ByOwner::take: the owner has no slots without the key, and is taken out.
pub emptied_in : (s : Index) (es fs gs : Entries) (named : Option Place) (o : Place) (own w : Table) (key : Place)
    → index_of es ≡ s → named ≡ Some o → Some own ≡ lookup (is_at (place_cmp o)) es → Changes es fs o (Some w)
    → w ≡ map.remove own key → w ≡ map.empty → Changes fs gs o None → Sets None s (index_of gs) named key
emptied_in s es fs gs named o own w key is name found writes removal none goes =
    subst (λ n. Sets None s (index_of gs) n key) (sym name)
    (taken_last s (index_of fs) (index_of gs) o key w
    (removal ∙ ap (λ (m : Table). map.remove m key) (sym (own_found s es o (Some own) is found)))
    (put_row s es fs o w is writes) none (removed_at fs gs o goes))

-- For ByOwner::take: the owner has no slots.
pub absent_in : (s : Index) (es fs : Entries) (named : Option Place) (o key : Place) → index_of es ≡ s → named ≡ Some o
    → None ≡ lookup (is_at (place_cmp o)) es → fs ≡ es → Sets None s (index_of fs) named key
absent_in s es fs named o key is name found same =
    subst (λ n. Sets None s (index_of fs) n key) (sym name)
    (sets_absent s (index_of fs) o key (ap (λ (x : Index). map.get x o) (sym is) ∙ found_at es o ∙ sym found)
    (ap index_of same ∙ is))
