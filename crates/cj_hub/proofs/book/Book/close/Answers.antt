-- Book::close: its clauses ok and exact, by what all_fit answers, and exclusive, which holds of the
-- world's history.
use Rattle.std.proofs.Common.{ap, subst, sym, List, refl}
use Rattle.std.specs.Prelude.{All}
use Rattle.cj_calls.specs.Rows.{Told}
use Rattle.cj_world_laws.specs.legal.Exclusive.{Exclusive}
use Rattle.cj_hub.specs.Receipts.{PassView}
use Rattle.cj_hub.specs.Books.{Fits}
use Rattle.cj_hub.proofs.book.Book.close.Goals as goal

pub returns-then-all_fit-clause-ok : goal.returns-then-all_fit-clause-ok
returns-then-all_fit-clause-ok c =
    let fit : All (Fits c.args.self) c.args.passes.items =
    subst (λ (ps : List PassView). All (Fits c.args.self) ps) c.as_slice.ensures.value
    (c.all_fit.ensures.0 c.if-all_fit.true) in
    (λ _. fit, λ _. refl)

pub returns-then-all_fit-clause-exact : goal.returns-then-all_fit-clause-exact
returns-then-all_fit-clause-exact c =
    let fit : All (Fits c.args.self) c.args.passes.items =
    subst (λ (ps : List PassView). All (Fits c.args.self) ps) c.as_slice.ensures.value
    (c.all_fit.ensures.0 c.if-all_fit.true) in
    λ k d l. (fit k d l).1

pub returns-else-all_fit-clause-ok : goal.returns-else-all_fit-clause-ok
returns-else-all_fit-clause-ok c = (
  λ e. absurd (cc e),
  λ fit. absurd (let fits = c.all_fit.ensures.1
      (subst (λ (ps : List PassView). All (Fits c.args.self) ps) (sym c.as_slice.ensures.value) fit) in
      cc (fits, c.if-all_fit.false)),
)

pub returns-then-all_fit-clause-exclusive : goal.returns-then-all_fit-clause-exclusive
returns-then-all_fit-clause-exclusive c = subst (λ (h : List Told). Exclusive h)
    (ap (λ b. b.history) c.self.view_is) c.shows_promise.ensures.exclusive
