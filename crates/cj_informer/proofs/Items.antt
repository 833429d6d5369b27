-- Adds for the items of a list, one after the other.
use Rattle.std.proofs.Common.{◌≡◌, ℕ, ◌+◌, ◌<◌, List, [], ◌∷◌, ◌++◌, Option, Some, None, Result, Ok, Err, IsSome, take, drop, length, get_or, add-one, refl, ap, sym, subst, ◌∙◌, inr}
use Rattle.std.proofs.Math.Seq.{take-suc}
use Rattle.std.proofs.lemmas.List.{map-append, take-append-drop}
use Rattle.std.proofs.lemmas.List.Elements.{filter_map-append}
use Rattle.std.specs.List.{filter_map, cons_option}
use Rattle.cj_base.specs.declared.refusal.Refusal.{Refusal}
use Rattle.cj_base.specs.declared.refusal.Refusal.TheVariants.{OutOfMemory}
use Rattle.cj_calls.specs.Rows.{Told}
use Rattle.cj_calls.specs.declared.call.Call.TheVariants as Of
use Rattle.cj_calls.specs.declared.reply.Reply.TheVariants as Is
use Rattle.cj_types.specs.Keys.{Place}
use Rattle.cj_hub.specs.Runs.{IsDeskRefusal}
use Rattle.cj_informer.specs.Exchanges.{Exchange, exchanges, accepted, BreaksOff, Goes, Says}
use Rattle.cj_informer.specs.Informs.{adds}
use Rattle.cj_informer.proofs.Goes.{goes-then, breaks-longer, refused-first}

-- The Add of a key goes as the Adds of this one key: accepted, or broken off.
added_here : (key : Place) (r : Result (Unit {0}) Refusal) (es : List Told) → Says (Of.Add key) (λ u. Is.Done) r es
    → Goes (adds (key ∷ [])) r es
added_here key (Ok u) es h = h
added_here key (Err e) es h = refused-first (accepted (Of.Add key) Is.Done) [] e es h

-- For add_one: the Add of the key that an item concerns goes as the Adds of this item.
pub added_one : (key : Place) (o : Option Place) (r : Result (Unit {0}) Refusal) (es : List Told) → Some key ≡ o
    → Says (Of.Add key) (λ u. Is.Done) r es → Goes (adds (cons_option o [])) r es
added_one key o r es is h =
    let P : Option Place → Type 0 = λ x. Goes (adds (cons_option x [])) r es in subst P is (added_here key r es h)

-- no memory for the key
pub added_none : (o : Option Place) (e : Refusal) → e ≡ OutOfMemory → IsSome o
    → BreaksOff (adds (cons_option o [])) e []
added_none None e is there = absurd (cc there)
added_none (Some key) e is there = record {
  made = [];
  next = accepted (Of.Add key) Is.Done;
  rest = [];
  last = [];
  begins = refl;
  entered = refl;
  stops = inr (refl, (let P : Refusal → Type 0 = λ x. IsDeskRefusal (Of.Add key) x in subst P (sym is) tt));
}

-- The Adds for two lists of items, joined, are the Adds for the one and then those for the other.
adds-append : {T : Type 0} (f : T → Option Place) (xs ys : List T) → adds (filter_map f (xs ++ ys))
    ≡ adds (filter_map f xs) ++ adds (filter_map f ys)
adds-append f xs ys = ap adds (filter_map-append f xs ys) ∙ map-append (λ key. accepted (Of.Add key) Is.Done)
    (filter_map f xs) (filter_map f ys)

-- The Adds for the first i + 1 items are those for the first i and then those for the next.
adds-take : {T : Type 0} (f : T → Option Place) (items : List T) (i : ℕ) (item : T) → i < length items
    → item ≡ get_or items i item
    → adds (filter_map f (take (i + 1) items)) ≡ adds (filter_map f (take i items)) ++ adds (filter_map f (item ∷ []))
adds-take f items i item lt is = rw (add-one, take-suc items i item lt, ← is) (adds-append f (take i items) (item ∷ []))

-- For add_all: the Adds for the first i items, and then the next one's, go as those for i + 1
-- items.
pub added_more : {T : Type 0} (f : T → Option Place) (items : List T) (i : ℕ) (item : T) (r : Result (Unit {0}) Refusal)
    (es fs : List Told) → i < length items → item ≡ get_or items i item
    → exchanges es ≡ adds (filter_map f (take i items)) → Goes (adds (filter_map f (item ∷ []))) r fs
    → Goes (adds (filter_map f (take (i + 1) items))) r (es ++ fs)
added_more f items i item r es fs lt is before one =
    let P : List Exchange → Type 0 = λ xs. Goes xs r (es ++ fs) in
    subst P (sym (adds-take f items i item lt is))
    (goes-then (adds (filter_map f (take i items))) (adds (filter_map f (item ∷ []))) r es fs before one)

-- For add_all: where the Adds for one item break off, the Adds for all items break off there.
pub added_break : {T : Type 0} (f : T → Option Place) (items : List T) (i : ℕ) (item : T) (e : Refusal)
    (es fs : List Told) → i < length items → item ≡ get_or items i item
    → exchanges es ≡ adds (filter_map f (take i items)) → BreaksOff (adds (filter_map f (item ∷ []))) e fs
    → BreaksOff (adds (filter_map f items)) e (es ++ fs)
added_break f items i item e es fs lt is before one =
    let P : List Exchange → Type 0 = λ xs. BreaksOff xs e (es ++ fs) in
    let begun : BreaksOff (adds (filter_map f (take (i + 1) items))) e (es ++ fs) =
    added_more f items i item (Err e) es fs lt is before one in
    subst P (sym (adds-append f (take (i + 1) items) (drop (i + 1) items))
    ∙ ap (λ xs. adds (filter_map f xs)) (take-append-drop (i + 1) items))
    (breaks-longer (adds (filter_map f (take (i + 1) items))) (adds (filter_map f (drop (i + 1) items))) e
    (es ++ fs) begun)
