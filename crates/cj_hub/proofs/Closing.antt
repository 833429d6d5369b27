-- What the hub's close hands on from the book's.
use Rattle.std.proofs.Common.{◌≡◌, List, All, sym, subst}
use Rattle.std.specs.Prelude.{◌↔◌, Result, Ok, Err, IfOk, IfErr, OnOk, IsOk}
use Rattle.cj_base.specs.declared.refusal.Refusal.TheVariants.{Estranged}
use Rattle.cj_types.specs.WorldLimits.{Kept}
use Rattle.cj_calls.specs.Rows.{Told}
use Rattle.cj_world.specs.Worlds.{WorldLog}
use Rattle.cj_hub.specs.declared.closed.NotClosed.{NotClosed}
use Rattle.cj_hub.specs.Receipts.{PassView}
use Rattle.cj_hub.specs.Books.{BookView, Fits}

-- what holds of the book's limits and history holds of what is closed
pub closed_has : {E : Type 0} (P : Kept → List Told → Type 0) (limits : Kept) (h : List Told) (r : Result WorldLog E)
    → IfOk r (λ c. (c.limits ≡ limits) × (c.history ≡ h)) → OnOk r (P limits h) → IfOk r (λ c. P c.limits c.history)
closed_has P limits h (Ok c) same holds = subst (λ (l : Kept). P l c.history) (sym same.0)
    (subst (λ (x : List Told). P limits x) (sym same.1) holds)
closed_has P limits h (Err e) same holds = tt

-- For Hub::close: what doesn't close comes back with the passes that were given.
pub same_passes : {A : Type 0} (b : BookView) (ps : List PassView) (r : Result A NotClosed)
    → IfErr r (λ e. (e.book ≡ b) × (e.passes.items ≡ ps)) → IfErr r (λ e. e.passes.items ≡ ps)
same_passes b ps (Ok x) same = tt
same_passes b ps (Err e) same = same.1

-- For Hub::close: where it fails, the passes don't fit the book, and the refusal is Estranged.
pub still_refused : {A : Type 0} (b : BookView) (ps : List PassView) (r : Result A NotClosed)
    → (IsOk r ↔ All (Fits b) ps) → IfErr r (λ e. (e.book ≡ b) × (e.passes.items ≡ ps))
    → IfErr r (λ e. e.refusal ≡ Estranged)
    → IfErr r (λ e. (All (Fits e.book) e.passes.items → ⊥) × (e.refusal ≡ Estranged))
still_refused b ps (Ok x) ok same told = tt
still_refused b ps (Err e) ok same told = (
  λ all. absurd
      (cc
      (ok.1 (subst (λ (x : BookView). All (Fits x) ps) same.0
      (subst (λ (xs : List PassView). All (Fits e.book) xs) same.1 all)))),
  told,
)
