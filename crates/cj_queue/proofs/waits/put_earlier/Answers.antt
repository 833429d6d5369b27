-- put_earlier: its clause agree, where both maps are written.
use Rattle.std.proofs.Common.{◌≡◌, false, ap, subst, ◌∙◌, Some, None}
use Rattle.std.specs.Result.{is_err}
use Rattle.std.specs.Map.{lookup}
use Rattle.cj_queue.specs.Parts.{key_eq}
use Rattle.cj_queue.proofs.TimesLemmas.{agrees_earlier, timed, times_set, ok_of, ok_since, SetsOrder, SetsKey}
use Rattle.cj_queue.proofs.waits.put_earlier.Goals as goal

pub returns-clause-ok : goal.returns-clause-ok
returns-clause-ok c =
    let there : lookup (key_eq c.in_ok-first.first) c.args.times.now.entries ≡ Some c.args.before =
    ap (λ k. lookup (key_eq k) c.args.times.now.entries) c.in_ok-first.ensures.one
    ∙ timed c.args.times.now.entries c.args.key.now ∙ c.requires.waits in
    let e : is_err c.insert-2.result ≡ false = ok_since c.insert-2.result _ c.args.before c.insert-2.ensures.absent
    there in
    times_set c.args.times.now.entries c.insert-2.new.self.entries c.args.key.now (Some c.args.at)
    (subst (λ k. SetsKey c.args.times.now.entries c.insert-2.new.self.entries k (Some c.args.at))
    c.in_ok-first.ensures.one (ok_of c.insert-2.result _ e c.insert-2.ensures.updates).0)

pub returns-clause-agree : goal.returns-clause-agree
returns-clause-agree c =
    let h : is_err c.insert.result ≡ false = cc (c.is_err.ensures.value, c.if-is_err.false) in
    let there : lookup (key_eq c.in_ok-first.first) c.args.times.now.entries ≡ Some c.args.before =
    ap (λ k. lookup (key_eq k) c.args.times.now.entries) c.in_ok-first.ensures.one
    ∙ timed c.args.times.now.entries c.args.key.now ∙ c.requires.waits in
    let e : is_err c.insert-2.result ≡ false = ok_since c.insert-2.result _ c.args.before c.insert-2.ensures.absent
    there in
    let sets = times_set c.args.times.now.entries c.insert-2.new.self.entries c.args.key.now (Some c.args.at)
    (subst (λ k. SetsKey c.args.times.now.entries c.insert-2.new.self.entries k (Some c.args.at))
    c.in_ok-first.ensures.one (ok_of c.insert-2.result _ e c.insert-2.ensures.updates).0) in
    let adds = subst (λ k. SetsOrder c.args.order.now c.insert.new.self c.args.at k (Some tt))
    c.in_ok-first.ensures.other
    (ok_of c.insert.result _ h c.insert.ensures.updates).0 in
    let drops = subst (λ k. SetsOrder c.insert.new.self c.remove.new.self c.args.before k None)
    c.in_ok-try_copy.ensures.ok c.remove.ensures.updates.0 in
    agrees_earlier c.args.times.now.entries c.insert-2.new.self.entries c.args.order.now c.insert.new.self
    c.remove.new.self
    c.args.key.now c.args.at c.args.before c.requires.earlier c.requires.agree c.requires.waits sets adds drops
