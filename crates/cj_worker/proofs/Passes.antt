-- Passes as threads hand them back.
use Rattle.std.proofs.Common.{◌≡◌, List, [], ◌∷◌, ◌++◌, Bool, Option, IfSome, map, refl, ap, sym, subst, ◌∙◌, inl, inr, append_assoc}
use Rattle.cj_types.specs.Keys.{Place}
use Rattle.cj_zone.specs.declared.table.ZoneTable.{ZoneTable}
use Rattle.cj_calls.specs.Rows.{Told}
use Rattle.cj_world.specs.Worlds.{WorldLog}
use Rattle.cj_hub.specs.Receipts.{PassView}
use Rattle.cj_hub.specs.Runs.{Adds}
use Rattle.cj_hub.specs.declared.receipt.Receipt.{Receipt}
use Rattle.cj_worker.specs.Ends.{EndsBy, IsShown}
use Rattle.cj_worker.specs.Sequences.{IsShut, IsAt}
use Rattle.cj_worker.specs.declared.ending.SyncEnd.{SyncEnd}
use Rattle.cj_worker.specs.declared.ending.SyncEnd.TheVariants.{Idle, ShutDown, Done, Retried, Broken, Stopped}
use Rattle.cj_worker.specs.Syncs.{IsSync}
use Rattle.cj_worker.specs.declared.gate.Point.{Point}
use Rattle.cj_worker.specs.declared.gate.Reading.{Reading}
use Rattle.cj_worker.specs.Workers.{AreSyncs, Extends, Gets, HasEnd, Went, IsPart, last_end}
use Rattle.cj_worker.specs.declared.workers.WorkerEnd.{WorkerEnd}

-- For sync_on: a pass through which entries were added is as it was with new receipts behind.
pub longer : {F : List Told → Type 0} {t : Bool} {w w' : WorldLog} {p q : PassView} → Adds t w w' p q F → Extends p q
longer a = (a.gains.news, a.gains.kept)

-- For ended: where the end of a sync is the worker's last, what is shown of it is what it says.
shown_end : (p q : PassView) (end : SyncEnd) → IsShown p q end → IfSome (last_end end) (λ e. HasEnd e p q)
shown_end p q ShutDown h = h
shown_end p q (Broken r) h = h
shown_end p q (Stopped point) h = h
shown_end p q Idle h = tt
shown_end p q Done h = tt
shown_end p q (Retried r) h = tt

-- For sync_on: the end that is answered, where there is one, says what is shown of the sync's end.
pub ended : (p q : PassView) (end : SyncEnd) (r : Option SyncEnd) → r ≡ last_end end → IsShown p q end
    → IfSome r (λ e. HasEnd e p q)
ended p q end r is h = subst (λ x. IfSome x (λ e. HasEnd e p q)) (sym is) (shown_end p q end h)

-- Receipts put behind a pass's, and then more behind those, are put behind in order.
longer_after : (p p1 q : PassView) (news news1 : List Receipt) → p1 ≡ record p { receipts = p.receipts ++ news }
    → q ≡ record p1 { receipts = p1.receipts ++ news1 } → q ≡ record p { receipts = p.receipts ++ (news ++ news1) }
longer_after p p1 q news news1 one two =
    two ∙ ap (λ (x : PassView). record x { receipts = x.receipts ++ news1 }) one
    ∙ ap (λ (rs : List Receipt). record p { receipts = rs }) (append_assoc p.receipts news news1)

-- For end_after: where the last new receipt since a pass is of a kind, it is since an earlier one.
ends_after : (p p1 q : PassView) (P : Told → Type 0) → Extends p p1 → EndsBy p1 q P → EndsBy p q P
ends_after p p1 q P one h = record {
  news = one.0 ++ h.news;
  last = h.last;
  kept = longer_after p p1 q one.0 (h.news ++ h.last ∷ []) one.1 h.kept ∙ ap
      (λ (rs : List Receipt). record p { receipts = p.receipts ++ rs }) (sym (append_assoc one.0 h.news (h.last ∷ [])));
  meets = h.meets;
}

-- What the end of a sync says of what came since a pass, it says since an earlier one.
end_after : (p p1 q : PassView) (end : SyncEnd) → Extends p p1 → HasEnd end p1 q → HasEnd end p q
end_after p p1 q ShutDown one h = ends_after p p1 q IsShut one h
end_after p p1 q (Broken r) one h = h
end_after p p1 q (Stopped point) one h = ends_after p p1 q (IsAt point) one h
end_after p p1 q Idle one h = absurd h
end_after p p1 q Done one h = absurd h
end_after p p1 q (Retried r) one h = absurd h

-- A pass with new receipts, and then with more, is the first one with new receipts.
pub extends_after : (p p1 q : PassView) → Extends p p1 → Extends p1 q → Extends p q
extends_after p p1 q one two = (one.0 ++ two.0, longer_after p p1 q one.0 two.0 one.1 two.1)

-- For work: what a worker hands back is right for the pass it was given, as it is for a later one.
pub went_after : (gives : Reading → Type 0) (may : Point → Place → Type 0) (zones : ZoneTable) (p p1 : PassView)
    (e : WorkerEnd) → Extends p p1 → Extends p1 e.pass
    → Gets p e.pass (λ es. AreSyncs (IsSync gives may zones) es e.end) → HasEnd e.end p1 e.pass
    → Went gives may zones p e
went_after gives may zones p p1 e one two syncs h = record {
  longer = extends_after p p1 e.pass one two;
  syncs = syncs;
  ended = end_after p p1 e.pass e.end one h;
}

-- ---- lists of passes

-- The passes of threads with one thread put behind are theirs, and its pass behind.
map_more : {X : Type 0} (f : X → PassView) (hs : List X) (h : X) → map f (hs ++ h ∷ []) ≡ map f hs ++ f h ∷ []
map_more f [] h = refl
map_more f (x ∷ hs) h = ap (λ ps. f x ∷ ps) (map_more f hs h)

-- For run_scoped: a list that is part of the passes still is where one more pass was lost.
pub part_lost : (xs ys : List PassView) (y : PassView) → IsPart xs ys → IsPart xs (ys ++ y ∷ [])
part_lost [] ys y h = tt
part_lost (x ∷ xs) [] y h = absurd h
part_lost (x ∷ xs) (z ∷ ys) y h = elim h [
  | inl a ↦ inl (a.0, part_lost xs ys y a.1)
  | inr b ↦ inr
      (part_lost (x ∷ xs) ys y b)
]

-- For kept_more: a list that is part of the passes still is with one more pass put behind both.
part_kept : (xs ys : List PassView) (y : PassView) → IsPart xs ys → IsPart (xs ++ y ∷ []) (ys ++ y ∷ [])
part_kept [] [] y h = inl (refl, tt)
part_kept [] (z ∷ ys) y h = inr (part_kept [] ys y tt)
part_kept (x ∷ xs) [] y h = absurd h
part_kept (x ∷ xs) (z ∷ ys) y h = elim h [
  | inl a ↦ inl (a.0, part_kept xs ys y a.1)
  | inr b ↦ inr
      (part_kept (x ∷ xs) ys y b)
]

-- For run_scoped: the passes of the started threads are part of all with one more, started.
pub kept_more : {X : Type 0} (f : X → PassView) (hs hs' : List X) (h : X) (ys : List PassView) (y : PassView)
    → hs' ≡ hs ++ h ∷ [] → f h ≡ y → IsPart (map f hs) ys → IsPart (map f hs') (ys ++ y ∷ [])
kept_more f hs hs' h ys y more is part = rw (more, map_more f hs h, is) (part_kept (map f hs) ys y part)
