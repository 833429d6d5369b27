-- What a ledger keeps: all its deeds, from the start on, are one path.
use Rattle.std.proofs.Common.{◌≡◌, inl, inr, ℕ, List, [], ◌∷◌, ◌++◌, Result, Ok, Err, refl, sym, ap, subst, ◌∙◌}
use Rattle.std.specs.Prelude.{IfOk, OnErr, OnOk, ⊤}
use Rattle.std.proofs.lemmas.List.{append-nil, append_assoc, reverse-append}
use Rattle.cj_control.specs.declared.deed.Deed.{Deed}
use Rattle.cj_control.specs.declared.deed.Deed.TheVariants.{Ends}
use Rattle.cj_control.specs.Syncs.{Adds, GaveUp, IsKept, IsNew, LedgerView, Path, nothing}
use Rattle.cj_control.proofs.FollowLemmas.{same_workers}

-- At the start nothing has become of anything.
pub kept_new : (workers : ℕ) (l : LedgerView) → IsNew workers l → IsKept l
kept_new workers l e = subst IsKept (sym e) (record { all = []; path = refl; before = []; last = refl })

-- One deed more.
pub kept_adds : (d : Deed) (l m : LedgerView) → Adds d l m → IsKept l → IsKept m
kept_adds d l m a k = record {
  all = d ∷ k.all;
  path = subst (λ (w : ℕ). Path (d ∷ k.all) (nothing w) m.syncs)
      (sym (same_workers d l.syncs m.syncs a.moves)) (l.syncs, k.path, a.moves);
  before = k.before;
  last = reverse-append (d ∷ []) k.all ∙ ap (λ (ds : List Deed). ds ++ (d ∷ [])) k.last
      ∙ append_assoc k.before l.deeds (d ∷ []) ∙ ap (λ (ds : List Deed). k.before ++ ds) (sym a.noted);
}

-- What gives a sync up ends it, or changes nothing.
pub kept_gave_up : (y : ℕ) (l m : LedgerView) → GaveUp y l m → IsKept l → IsKept m
kept_gave_up y l m (inl e) k = subst IsKept (sym e) k
kept_gave_up y l m (inr a) k = kept_adds (Ends y) l m a k

-- Where the deeds are taken.
pub kept_taken : (l m : LedgerView) → m ≡ record l { deeds = [] } → IsKept l → IsKept m
kept_taken l m e k = subst IsKept (sym e) (record {
  all = k.all;
  path = k.path;
  before = k.before ++ l.deeds;
  last = k.last ∙ sym (append-nil (k.before ++ l.deeds));
})

module _ {E : Type 0} (l m : LedgerView) (k : IsKept l) where
  -- For a call that adds a deed, or changes nothing.
  pub kept_or_same : {A : Type 0} (f : A → Deed) (r : Result A E) → IfOk r (λ a. Adds (f a) l m)
      → OnErr r (m ≡ l) → IsKept m
  kept_or_same f (Ok a) ok err = kept_adds (f a) l m ok k
  kept_or_same f (Err e) ok err = subst IsKept (sym err) k

  -- For a call that adds a deed, or gives the sync up.
  pub kept_or_up : {A : Type 0} (f : A → Deed) (y : ℕ) (r : Result A E) → IfOk r (λ a. Adds (f a) l m)
      → OnErr r (GaveUp y l m) → IsKept m
  kept_or_up f y (Ok a) ok err = kept_adds (f a) l m ok k
  kept_or_up f y (Err e) ok err = kept_gave_up y l m err k

  -- The same for a call that answers nothing.
  pub kept_on_same : (d : Deed) (r : Result ⊤ E) → OnOk r (Adds d l m) → OnErr r (m ≡ l) → IsKept m
  kept_on_same d (Ok a) ok err = kept_adds d l m ok k
  kept_on_same d (Err e) ok err = subst IsKept (sym err) k

  pub kept_on_up : (d : Deed) (y : ℕ) (r : Result ⊤ E) → OnOk r (Adds d l m)
      → OnErr r (GaveUp y l m) → IsKept m
  kept_on_up d y (Ok a) ok err = kept_adds d l m ok k
  kept_on_up d y (Err e) ok err = kept_gave_up y l m err k
