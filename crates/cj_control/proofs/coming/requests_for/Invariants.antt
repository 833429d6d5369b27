-- requests_for: its loop; at each turn what there is so far leads on, with the calls left, to the requests for all.
use Rattle.std.proofs.Common.{drop}
use Rattle.cj_control.proofs.ComingLemmas.{Fills}
use Rattle.cj_control.proofs.coming.requests_for.Given as goal

abbrev pub invariant-loop-call : goal.invariant-loop-call
invariant-loop-call l = Fills l.calls (drop l.call-index l.calls) l.requests.items
