-- requests_for: its loop, turn after turn, and its clause ok, as all requests stand there behind the last call.
use Rattle.std.proofs.Common.{subst}
use Rattle.std.specs.Prelude.{IfSome}
use Rattle.cj_control.specs.SentFor.{IsSentFor}
use Rattle.cj_control.proofs.ComingLemmas.{fills_over, fills_rest}
use Rattle.cj_control.proofs.coming.requests_for.Goals as goal

pub loop-call-preserved : goal.loop-call-preserved
loop-call-preserved c =
    fills_rest c.args.calls.now c.loop-call.call-index c.call-item.result c.loop-call.requests.items
    c.push_request.new.requests.items c.in-Some.request c.loop-call-test.true c.call-item.is c.loop-call.invariant
    (subst (λ o. IfSome o (IsSentFor c.call-item.result)) c.in-Some.is c.in_ok-request.ensures.ok)
    c.in_ok-push_request.ensures.ok

pub returns-clause-ok : goal.returns-clause-ok
returns-clause-ok c =
    fills_over c.args.calls.now c.loop-call.call-index c.loop-call.requests.items c.loop-call-test.false
    c.loop-call.invariant
