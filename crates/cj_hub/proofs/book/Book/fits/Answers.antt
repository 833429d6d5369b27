-- Book::fits: its one clause, where the book enrolled the pass.
use Rattle.cj_hub.proofs.Placed.{exact_of, fit_of}
use Rattle.cj_hub.proofs.book.Book.fits.Goals as goal

pub returns-then-enrolled : goal.returns-then-enrolled
returns-then-enrolled c =
    let exact = exact_of _ c.entries.result.now c.args.self.now.history _ c.is_exact.result c.entries.ensures.value
    c.is_exact.ensures in
    let fits = fit_of c.args.self.now.history _ _ c.as_slice.result.now c.pass.view_is c.as_slice.ensures.value in
    let enrolled = c.is_enrolled-enrolled.ensures.0 c.if-enrolled.true in
    (λ t. (enrolled, fits.0 (exact.0 t)), λ f. exact.1 (fits.1 f.1))
