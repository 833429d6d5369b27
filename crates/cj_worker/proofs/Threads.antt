-- Threads, each by what it was promised.
use Rattle.std.proofs.Common.{◌≡◌, List, [], ◌∷◌, ◌++◌, None, Vec, vec_len, map, refl, sym, subst, ◌∙◌}
use Rattle.std.proofs.lemmas.List.{map-id}
use Rattle.std.proofs.lemmas.Iterator.Adapters.{YieldsList-from_vec}
use Rattle.std.proofs.lemmas.Iterator.Consumers.{YieldsList-end}
use Rattle.std.specs.List.{AllByRecursion, AllZip}
use Rattle.std.specs.Iterator.{Yields}
use Rattle.std.specs.Vec.Iter.{into_iter_items, into_iter_len, into_iter_steps}
use Rattle.std.specs.declared.vec.IntoIter.{IntoIter}
use Rattle.cj_types.specs.Keys.{Place}
use Rattle.cj_zone.specs.declared.table.ZoneTable.{ZoneTable}
use Rattle.cj_hub.specs.Receipts.{PassView}
use Rattle.cj_worker.specs.declared.gate.Point.{Point}
use Rattle.cj_worker.specs.declared.gate.Reading.{Reading}
use Rattle.cj_worker.specs.declared.workers.WorkerEnd.{WorkerEnd}
use Rattle.cj_worker.specs.Workers.{IsPart, Went, WentSome}

-- A list that was gone through by value was gone through whole.
pub all_yielded : {A Z : Type 0} (v : Vec A Z) (ys : List A) (s t u : IntoIter A Z) → into_iter_items s ≡ v.items
    → into_iter_len s ≡ vec_len v → Yields (into_iter_steps {X = A} {Z = Z}) s ys t → into_iter_steps t None u
    → ys ≡ v.items
all_yielded v ys s t u items len by ends = sym (map-id ys)
    ∙ (YieldsList-end (YieldsList-from_vec v.items items (len ∙ v.ok.0)) ys t by None u refl ends).0

-- Where all of some have P, and one more has it, all of them do.
pub all_more : {X : Type 0} (P : X → Type 0) (xs xs' : List X) (x : X) → xs' ≡ xs ++ x ∷ [] → AllByRecursion P xs → P x
    → AllByRecursion P xs'
all_more P xs xs' x is all one = rw is (by_push xs all)
  where
    by_push : (ys : List _) → AllByRecursion P ys → AllByRecursion P (ys ++ x ∷ [])
    by_push [] all = (one, tt)
    by_push (y ∷ ys) all = (all.0, by_push ys all.1)

-- Two lists of which each member of the one goes with one of the other do so with one more of both.
pub zip_more : {A B : Type 0} (R : A → B → Type 0) (xs : List A) (ys ys' : List B) (x : A) (y : B)
    → ys' ≡ ys ++ y ∷ [] → AllZip R xs ys → R x y → AllZip R (xs ++ x ∷ []) ys'
zip_more R xs ys ys' x y is all one = rw is (by_push xs ys all)
  where
    by_push : (us : List _) (vs : List _) → AllZip R us vs → AllZip R (us ++ x ∷ []) (vs ++ y ∷ [])
    by_push [] [] all = (one, tt)
    by_push [] (v ∷ vs) all = absurd all
    by_push (u ∷ us) [] all = absurd all
    by_push (u ∷ us) (v ∷ vs) all = (all.0, by_push us vs all.1)

-- threads, by the gate, the clock and the zones that each was given
module _ {H A B : Type 0} (pass_of : H → PassView) (clock_of : H → A) (gate_of : H → B) (zones_of : H → ZoneTable)
    (gives : A → Reading → Type 0) (may : B → Point → Place → Type 0) where
  -- a thread was given these
  abbrev pub IsBy : A → B → ZoneTable → H → Type 0
  IsBy clock gate zones h = (clock_of h ≡ clock) × (gate_of h ≡ gate) × (zones_of h ≡ zones)

  -- a worker went so in a thread
  abbrev pub WentIn : H → WorkerEnd → Type 0
  WentIn h e = Went (gives (clock_of h)) (may (gate_of h)) (zones_of h) (pass_of h) e

  -- For went_all: how a worker went in a thread, by what the thread was given.
  went_by : (clock : A) (gate : B) (zones : ZoneTable) (h : H) (e : WorkerEnd) → IsBy clock gate zones h → WentIn h e
      → Went (gives clock) (may gate) zones (pass_of h) e
  went_by clock gate zones h e by went =
      subst (λ x. Went (gives x) (may gate) zones (pass_of h) e) by.0
      (subst (λ x. Went (gives (clock_of h)) (may x) zones (pass_of h) e) by.1
      (subst (λ x. Went (gives (clock_of h)) (may (gate_of h)) x (pass_of h) e) by.2 went))

  -- How the workers went in all threads, by what the threads were given.
  went_all : (clock : A) (gate : B) (zones : ZoneTable) (hs : List H) (es : List WorkerEnd)
      → AllByRecursion (IsBy clock gate zones) hs → AllZip WentIn hs es
      → AllZip (Went (gives clock) (may gate) zones) (map pass_of hs) es
  went_all clock gate zones [] [] by went = tt
  went_all clock gate zones [] (e ∷ es) by went = absurd went
  went_all clock gate zones (h ∷ hs) [] by went = absurd went
  went_all clock gate zones (h ∷ hs) (e ∷ es) by went =
      (went_by clock gate zones h e by.0 went.0, went_all clock gate zones hs es by.1 went.1)

  -- For run_scoped: the ends of all threads are those of the passes, without those that were lost.
  pub went_some : (clock : A) (gate : B) (zones : ZoneTable) (hs ys : List H) (ps qs : List PassView)
      (es : List WorkerEnd) → ys ≡ hs → qs ≡ ps → IsPart (map pass_of hs) qs
      → AllByRecursion (IsBy clock gate zones) hs → AllZip WentIn ys es
      → WentSome (gives clock) (may gate) zones ps es
  went_some clock gate zones hs ys ps qs es all given part by went = (
    map pass_of hs,
    subst (IsPart (map pass_of hs)) given part,
    went_all clock gate zones hs es by (subst (λ xs. AllZip WentIn xs es) all went),
  )
