-- put_new: its clause agree, and its clause err where the second map has no memory.
use Rattle.std.proofs.Common.{◌≡◌, true, false, subst, Some, None}
use Rattle.std.specs.Result.{is_err}
use Rattle.cj_queue.proofs.TimesLemmas.{agrees_new, agrees_same, taken_back, times_set, ok_of, err_of, order_kept, SetsOrder, SetsKey}
use Rattle.cj_queue.proofs.waits.put_new.Goals as goal

pub returns-then-is_err-2-clause-err : goal.returns-then-is_err-2-clause-err
returns-then-is_err-2-clause-err c =
    let h : is_err c.insert.result ≡ false = cc (c.is_err.ensures.value, c.if-is_err.false) in
    let sets = times_set c.args.times.now.entries c.insert.new.self.entries c.args.key.now (Some c.args.at)
    (subst (λ k. SetsKey c.args.times.now.entries c.insert.new.self.entries k (Some c.args.at))
    c.in_ok-first.ensures.one (ok_of c.insert.result _ h c.insert.ensures.updates).0) in
    taken_back c.args.times.now.entries c.insert.new.self.entries c.remove.new.self.entries c.args.key.now c.args.at
    c.requires.absent sets
    (times_set c.insert.new.self.entries c.remove.new.self.entries c.args.key.now None c.remove.ensures.updates.0)

pub returns-then-is_err-2-clause-agree : goal.returns-then-is_err-2-clause-agree
returns-then-is_err-2-clause-agree c =
    let e : is_err c.insert-2.result ≡ true = cc (c.is_err-2.ensures.value, c.if-is_err-2.true) in
    let kept : c.insert-2.new.self.entries ≡ c.args.order.now.entries =
    err_of c.insert-2.result _ e c.insert-2.ensures.err in
    agrees_same c.args.times.now.entries c.remove.new.self.entries c.args.order.now c.insert-2.new.self c.requires.agree
    (returns-then-is_err-2-clause-err c) (order_kept c.args.order.now c.insert-2.new.self kept)

pub returns-clause-ok : goal.returns-clause-ok
returns-clause-ok c =
    let h : is_err c.insert.result ≡ false = cc (c.is_err.ensures.value, c.if-is_err.false) in
    times_set c.args.times.now.entries c.insert.new.self.entries c.args.key.now (Some c.args.at)
    (subst (λ k. SetsKey c.args.times.now.entries c.insert.new.self.entries k (Some c.args.at))
    c.in_ok-first.ensures.one (ok_of c.insert.result _ h c.insert.ensures.updates).0)

pub returns-clause-agree : goal.returns-clause-agree
returns-clause-agree c =
    let h : is_err c.insert.result ≡ false = cc (c.is_err.ensures.value, c.if-is_err.false) in
    let e : is_err c.insert-2.result ≡ false = cc (c.is_err-2.ensures.value, c.if-is_err-2.false) in
    let sets = times_set c.args.times.now.entries c.insert.new.self.entries c.args.key.now (Some c.args.at)
    (subst (λ k. SetsKey c.args.times.now.entries c.insert.new.self.entries k (Some c.args.at))
    c.in_ok-first.ensures.one (ok_of c.insert.result _ h c.insert.ensures.updates).0) in
    let orders = subst (λ k. SetsOrder c.args.order.now c.insert-2.new.self c.args.at k (Some tt))
    c.in_ok-first.ensures.other (ok_of c.insert-2.result _ e c.insert-2.ensures.updates).0 in
    agrees_new c.args.times.now.entries c.insert.new.self.entries c.args.order.now c.insert-2.new.self
    c.args.key.now c.args.at
    c.requires.agree c.requires.absent sets orders
