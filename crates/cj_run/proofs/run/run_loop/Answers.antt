-- run_loop: what was tested of the results is that all instants were run.
use Rattle.std.proofs.Common.{subst}
use Rattle.std.specs.Prelude.{IsOk}
use Rattle.cj_run.specs.declared.threads.ThreadResults.{ThreadResults}
use Rattle.cj_run.proofs.Reported.{ran_all}
use Rattle.cj_run.proofs.run.run_loop.Goals as goal

pub returns : goal.returns
returns g c =
    ran_all c.args.simulation.now c.in_ok-results.results.driver c.in_ok-results.results.instants
    (subst (λ (r : ThreadResults). IsOk r.instants) c.get.ensures c.in_ok-check_results.ensures) c.in_ok-results.ensures
