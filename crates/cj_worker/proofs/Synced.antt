-- Whole syncs, one after the other.
use Rattle.std.proofs.Common.{◌≡◌, List, [], ◌∷◌, ◌++◌, false, Option, Some, None, refl, ap, sym, subst, ◌∙◌, append_assoc}
use Rattle.std.proofs.lemmas.List.{append-nil}
use Rattle.std.specs.List.{AllByRecursion}
use Rattle.cj_calls.specs.Rows.{Told}
use Rattle.cj_hub.specs.Receipts.{PassView}
use Rattle.cj_hub.proofs.Runs.{adds-then, adds-weaker, adds-none}
use Rattle.cj_worker.specs.declared.ending.SyncEnd.{SyncEnd}
use Rattle.cj_worker.specs.declared.ending.SyncEnd.TheVariants.{Idle, ShutDown, Done, Retried, Broken, Stopped}
use Rattle.cj_worker.specs.Workers.{MadeSync, AreSyncs, HasSynced, Gets, added_by, last_end, untold}

-- the entries are of whole syncs, one after the other, after each of which a worker goes on
pub record SoFar (F : List Told → SyncEnd → Type 0) (es : List Told) : Type 0 where
  pub before : List MadeSync
  pub whole : AllByRecursion (λ s. F s.entries s.end × (last_end s.end ≡ None)) before
  pub split : es ≡ added_by before

-- Syncs with one more after them add what they add, and then what that one does.
added_more : (ss : List MadeSync) (s : MadeSync) → added_by (ss ++ s ∷ []) ≡ added_by ss ++ s.entries
added_more [] s = append-nil s.entries
added_more (x ∷ ss) s = ap (λ (es : List Told). x.entries ++ es) (added_more ss s)
    ∙ sym (append_assoc x.entries (added_by ss) s.entries)

-- Where some syncs are whole, and one more after them is, all of them are.
whole_more : (P : MadeSync → Type 0) (ss : List MadeSync) (s : MadeSync) → AllByRecursion P ss → P s
    → AllByRecursion P (ss ++ s ∷ [])
whole_more P [] s all one = (one, tt)
whole_more P (x ∷ ss) s all one = (all.0, whole_more P ss s all.1 one)

-- For more_synced: one whole sync after others, after which the worker goes on.
so_far : (F : List Told → SyncEnd → Type 0) (es fs : List Told) → SoFar F es → HasSynced F fs None → SoFar F (es ++ fs)
so_far F es fs all one =
    let s : MadeSync = record { entries = fs; end = one.0 } in
    record {
      before = all.before ++ s ∷ [];
      whole = whole_more (λ s. F s.entries s.end × (last_end s.end ≡ None)) all.before s all.whole (one.1, one.2);
      split = ap (λ (xs : List Told). xs ++ fs) all.split ∙ sym (added_more all.before s);
    }

-- For work: before the first sync a pass got no receipts.
pub none_synced : (F : List Told → SyncEnd → Type 0) (p : PassView) → Gets p p (SoFar F)
none_synced F p = adds-none false untold untold p p (λ t. refl) refl (record { before = []; whole = tt; split = refl })

-- For work: after a sync that isn't the last the pass got the receipts of whole syncs still.
pub more_synced : (F : List Told → SyncEnd → Type 0) (p q q' : PassView) (r : Option SyncEnd) → r ≡ None
    → Gets p q (SoFar F) → Gets q q' (λ es. HasSynced F es r) → Gets p q' (SoFar F)
more_synced F p q q' r is all one = adds-then all one
    (λ es fs h k. so_far F es fs h (subst (HasSynced F fs) is k))

-- For work: with the last sync the pass got the receipts of whole syncs, of which that is the last.
pub all_synced : (F : List Told → SyncEnd → Type 0) (p q q' : PassView) (r : Option SyncEnd) (end : SyncEnd)
    → r ≡ Some end → Gets p q (SoFar F) → Gets q q' (λ es. HasSynced F es r) → Gets p q' (λ es. AreSyncs F es end)
all_synced F p q q' r end is all one = adds-then all one (λ es fs h k. record {
  before = h.before;
  whole = h.whole;
  last = fs;
  ended = subst (HasSynced F fs) is k;
  split = ap (λ (xs : List Told). xs ++ fs) h.split;
})

-- What a worker does after a sync says of which kind the sync was.
has_synced : (F : List Told → SyncEnd → Type 0) (es : List Told) (end : SyncEnd) → F es end
    → HasSynced F es (last_end end)
has_synced F es ShutDown h = h
has_synced F es (Broken r) h = h
has_synced F es (Stopped point) h = h
has_synced F es Idle h = (Idle, h, refl)
has_synced F es Done h = (Done, h, refl)
has_synced F es (Retried r) h = (Retried r, h, refl)

-- For sync_on: the entries of one sync, by what the worker does after it.
pub synced : (F : List Told → SyncEnd → Type 0) (p q : PassView) (end : SyncEnd) (r : Option SyncEnd)
    → r ≡ last_end end → Gets p q (λ es. F es end) → Gets p q (λ es. HasSynced F es r)
synced F p q end r is one = adds-weaker one
    (λ es h. subst (HasSynced F es) (sym is) (has_synced F es end h))
