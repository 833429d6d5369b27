-- The end of a sync, as the last receipt shows it.
use Rattle.std.proofs.Common.{◌≡◌, List, [], ◌∷◌, ◌++◌, Bool, map, IsOk, refl, ap, sym, subst, ◌∙◌, inl, inr}
use Rattle.std.proofs.lemmas.List.{append-nil}
use Rattle.cj_base.specs.declared.refusal.Refusal.{Refusal}
use Rattle.cj_base.specs.declared.refusal.Refusal.TheVariants as No
use Rattle.cj_types.specs.Keys.{Place}
use Rattle.cj_types.specs.declared.policy.Reason.{Reason}
use Rattle.cj_zone.specs.declared.table.ZoneTable.{ZoneTable}
use Rattle.cj_calls.specs.declared.call.Call.{Call}
use Rattle.cj_calls.specs.declared.call.Call.TheVariants as Of
use Rattle.cj_calls.specs.declared.end.End.TheVariants.{Again}
use Rattle.cj_calls.specs.Rows.{Told}
use Rattle.cj_world.specs.Worlds.{WorldLog}
use Rattle.cj_hub.specs.Receipts.{PassView}
use Rattle.cj_hub.specs.Runs.{Adds, Gains}
use Rattle.cj_hub.specs.declared.receipt.Receipt.{Receipt}
use Rattle.cj_worker.specs.declared.gate.Point.{Point}
use Rattle.cj_worker.specs.declared.gate.Reading.{Reading}
use Rattle.cj_worker.specs.declared.ending.SyncEnd.{SyncEnd}
use Rattle.cj_worker.specs.declared.ending.SyncEnd.TheVariants.{Idle, ShutDown, Done, Retried, Broken, Stopped}
use Rattle.cj_worker.specs.Sequences.{FirstRefused, StopsAt, EndsWith, IsDone, IsPutOff, IsShut, IsAt, IsAgain, Names}
use Rattle.cj_worker.specs.Syncs.{IsLost, IsUnentered, IsUnfit, IsEarly, IsRetried, IsRest, IsSync}
use Rattle.cj_worker.specs.Ends.{EndsBy, IsBreaking, IsShown}
use Rattle.cj_worker.proofs.Rests.{EndsWith-after}

-- the entries of receipts that end so, told of the receipts
record LastOf (news : List Receipt) (P : Told → Type 0) : Type 0 where
  front : List Receipt
  last : Receipt
  split : news ≡ front ++ last ∷ []
  meets : P last.entry

-- Where the entries of some receipts end with one that meets P, the last receipt has such an entry.
last_of : (P : Told → Type 0) (news : List Receipt) → EndsWith P (map (λ r. r.entry) news) → LastOf news P
last_of P [] h = absurd h
last_of P (r ∷ []) h = record { front = []; last = r; split = refl; meets = h }
last_of P (r ∷ s ∷ news) h =
    let rest = last_of P (s ∷ news) h in
    record { front = r ∷ rest.front; last = rest.last; split = ap (λ x. r ∷ x) rest.split; meets = rest.meets }

-- Where the entries that a pass gains end with one that meets P, the pass's last receipt shows it.
ends_by : (t : Bool) (w w' : WorldLog) (p q : PassView) (es : List Told) (P : Told → Type 0) → Gains t w w' p q es
    → EndsWith P es → EndsBy p q P
ends_by t w w' p q es P g h =
    let l = last_of P g.news (subst (EndsWith P) (sym g.entries) h) in
    record {
      news = l.front;
      last = l.last;
      kept = g.kept
          ∙ ap (λ (rs : List Receipt). record p { receipts = p.receipts ++ rs }) l.split;
      meets = l.meets;
    }

-- A Take that is refused with ShutDown is the last entry that it adds.
shut_ends : (es : List Told) → FirstRefused (Of.Take ∷ []) es No.ShutDown → EndsWith IsShut es
shut_ends [] h = absurd h
shut_ends (e ∷ es) h = elim h.1 [ inl a ↦ rw a.1 (h.0, a.0) | inr b ↦ absurd b.1 ]

-- Entries that stop at a point end with the accepted call that the point comes after.
stop_ends : (point : Point) (cs : List Call) (es : List Told) → StopsAt point cs es → EndsWith (IsAt point) es
stop_ends point [] es h = absurd h
stop_ends point (c ∷ cs) [] h = absurd h
stop_ends point (c ∷ cs) (e ∷ es) h = elim h.2 [
  | inl a ↦ rw a.1 (subst (Names point) (sym h.0) a.0, h.1)
  | inr b ↦
      EndsWith-after (IsAt point) (e ∷ []) es (stop_ends point cs es b)
]

-- An accepted Finish that asks for another try puts the key off.
again : (e : Told) (at : _) (rs : List Reason) → e.call ≡ Of.Finish (Again at) rs → IsOk e.answer → IsPutOff e
again e at rs is ok = (subst IsAgain (sym is) tt, ok)

-- The entries of a sync that is retried end with an accepted Finish that asks for another try.
retry_ends : (gives : Reading → Type 0) (reasons : Refusal
    → List Reason) (cs : List Call) (es : List Told) (r : Refusal) → IsRetried gives reasons cs es (Retried r)
    → EndsWith IsPutOff es
retry_ends gives reasons cs es r h =
    let retry = h.early.1 in
    rw (h.split, retry.only) (EndsWith-after IsPutOff h.front (retry.entry ∷ [])
    (again retry.entry retry.reading.millis (reasons h.why) retry.of h.early.2))

-- A refusal after which the history takes nothing more breaks a sync.
lost_breaks : (r : Refusal) → IsLost r → IsBreaking r
lost_breaks No.HistoryFull is = tt
lost_breaks No.Estranged is = tt
lost_breaks r is = absurd is

-- A refusal of a call that isn't entered breaks a sync.
unentered_breaks : (r : Refusal) → IsUnentered r → IsBreaking r
unentered_breaks No.OutOfMemory is = tt
unentered_breaks No.HistoryFull is = tt
unentered_breaks No.Estranged is = tt
unentered_breaks r is = absurd is

-- A refusal that is entered for a Take, of a queue that isn't shut, or for a Finish breaks a sync.
unfit_breaks : (r : Refusal) → IsUnfit r → IsBreaking r
unfit_breaks No.NotPermitted is = tt
unfit_breaks No.OutOfPhase is = tt
unfit_breaks r is = absurd is

-- For rest_breaks: where an early end is Broken, its refusal is one that breaks a sync.
early_breaks : (gives : Reading → Type 0) (rs : List Reason) (why : Refusal) (es : List Told) (r : Refusal)
    → IsEarly gives rs why es (Broken r) → IsBreaking r
early_breaks gives rs why es r h = elim h [ inl a ↦ unentered_breaks r a.1 | inr b ↦ unfit_breaks r b.2 ]

-- For sync_breaks: where a sync that holds a key ends Broken, its refusal is one that breaks a
-- sync.
rest_breaks : (gives : Reading → Type 0) (may : Point → Type 0) (reasons : Refusal
    → List Reason) (cs : List Call) (es : List Told) (r : Refusal) → IsRest gives may reasons cs es (Broken r)
    → IsBreaking r
rest_breaks gives may reasons cs es r h = elim h
    [ inl a ↦ lost_breaks r a.1 | inr b ↦ early_breaks gives (reasons b.why) b.why b.back r b.early ]

-- Where any sync ends Broken, with a key or without, its refusal is one that breaks a sync.
sync_breaks : (gives : Reading → Type 0) (may : Point → Place
    → Type 0) (zones : ZoneTable) (es : List Told) (r : Refusal) → IsSync gives may zones es (Broken r) → IsBreaking r
sync_breaks gives may zones es r h =
    elim h [
      | inl a ↦ unentered_breaks r a.1
      | inr b ↦ elim b [
        | inl x ↦ unfit_breaks r x.1
        | inr run ↦ rest_breaks gives (λ point. may point run.key) _ _ es r
            run.calls.rest
      ]
    ]

-- A pass that gains no entry is as it was.
none_kept : (t : Bool) (w w' : WorldLog) (p q : PassView) (es : List Told) → Gains t w w' p q es → es ≡ [] → q ≡ p
none_kept t w w' p q es g none = kept g.news (g.entries ∙ none) g.kept
  where
    kept : (news : List Receipt) → map (λ r. r.entry) news ≡ [] → q ≡ record p { receipts = p.receipts ++ news } → q ≡ p
    kept [] is k = k ∙ ap (λ (rs : List Receipt). record p { receipts = rs }) (append-nil p.receipts)
    kept (r ∷ news) is k = cc

-- For sync_once: by the entries that a sync adds, the last receipt of the pass shows how it ended.
pub shown : (t : Bool) (w w' : WorldLog) (p q : PassView) (gives : Reading → Type 0) (may : Point → Place
    → Type 0) (zones : ZoneTable) (end : SyncEnd) → Adds t w w' p q (λ es. IsSync gives may zones es end)
    → IsShown p q end
shown t w w' p q gives may zones Idle a = none_kept t w w' p q a.entries a.gains a.meets
shown t w w' p q gives may zones ShutDown a = ends_by t w w' p q a.entries IsShut a.gains (shut_ends a.entries a.meets)
shown t w w' p q gives may zones Done a = ends_by t w w' p q a.entries IsDone a.gains a.meets.calls.rest.1
shown t w w' p q gives may zones (Retried r) a = ends_by t w w' p q a.entries IsPutOff a.gains
    (retry_ends gives _ _ a.entries r a.meets.calls.rest)
shown t w w' p q gives may zones (Broken r) a = sync_breaks gives may zones a.entries r a.meets
shown t w w' p q gives may zones (Stopped point) a = ends_by t w w' p q a.entries (IsAt point) a.gains
    (stop_ends point _ a.entries a.meets.calls.rest.0)
