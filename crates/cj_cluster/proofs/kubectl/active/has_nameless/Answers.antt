-- has_nameless: its ensures where a reference has no name.
use Rattle.std.proofs.Common.{◌∙◌, sym}
use Rattle.cj_cluster.proofs.KubectlLemmas.ActiveLemmas.{nameless_here}
use Rattle.cj_cluster.proofs.kubectl.active.has_nameless.Goals as goal

pub returns-then-is_nameless : goal.returns-then-is_nameless
returns-then-is_nameless c =
    sym (nameless_here c.args.references.now c.loop-reference.reference-index c.reference-item.result
    c.loop-reference-test.true c.reference-item.is (sym c.is_nameless.ensures ∙ c.if-is_nameless.true))
    ∙ c.loop-reference.invariant
