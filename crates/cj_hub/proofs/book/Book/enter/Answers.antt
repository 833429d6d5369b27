-- Book::enter: what count_one requires (enrolled, fits), and the type's invariant, that the book
-- has the world's limits and counts each pass's entries.
use Rattle.std.proofs.Common.{ap, sym, subst, ◌∙◌, arith, List}
use Rattle.cj_calls.specs.Rows.{Told}
use Rattle.cj_hub.specs.Books.{IsCounted}
use Rattle.cj_hub.proofs.Placed.{counted_more, counts_fit, enrolled_within}
use Rattle.cj_hub.proofs.Entered.{added}
use Rattle.cj_hub.proofs.book.Book.enter.Goals as goal

pub count_one-requires-clause-enrolled : goal.count_one-requires-clause-enrolled
count_one-requires-clause-enrolled c =
    omega (
      arith,
      enrolled_within c.self.inside.enrolled.items c.args.self.now.roles c.args.caller.now.number
          c.args.caller.now.role (ap (λ b. b.roles) c.self.view_is) c.requires.enrolled,
      c.self.inside.enrolled.ok.0,
    )

pub count_one-requires-clause-fits : goal.count_one-requires-clause-fits
count_one-requires-clause-fits c =
    counts_fit c.self.inside.enrolled.items c.self.inside.world.history c.args.self.now.history c.args.caller.now.number
    c.self.invariant.1 (ap (λ b. b.history) c.self.view_is) c.entries.ensures.short

pub invariant_of-self-2 : goal.invariant_of-self-2
invariant_of-self-2 c =
    let a = added _ _ _ _ _ _ c.in_ok-kept.ensures.entered in (
      c.self.invariant.0 ∙ sym c.enter_shared.ensures.limits,
      subst (λ (h : List Told). IsCounted c.count_one.new.enrolled.items h) (sym a.history)
          (counted_more c.self.inside.enrolled.items c.count_one.new.enrolled.items c.self.inside.world.history
          c.in_ok-kept.kept c.args.caller.now.number c.self.invariant.1
          (ap (λ e. e.caller.number) a.entry) c.count_one.ensures.counts),
    )
