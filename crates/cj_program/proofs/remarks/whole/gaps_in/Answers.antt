-- gaps_in: its clause ok, by the CronJobs that stand in the end.
use Rattle.std.proofs.Common.{◌∙◌, List, subst}
use Rattle.std.proofs.lemmas.Result.{IfOk-weaker}
use Rattle.std.specs.FinMap as map
use mathlib.Core.List.{reverse}
use Rattle.cj_calls.specs.Rows.{Told}
use Rattle.cj_history.specs.declared.gaps.late.Standing.{Standing}
use Rattle.cj_history.specs.gaps.Late.{AreAllGaps}
use Rattle.cj_world.specs.Worlds.{state_in}
use Rattle.cj_program.specs.remarks.Standings.{standings}
use Rattle.cj_program.proofs.remarks.whole.gaps_in.Goals as goal

pub returns-clause-ok : goal.returns-clause-ok
returns-clause-ok c =
    let end = c.last_instant-at.result in
    let stand = standings c.args.zones.now (map.values (state_in c.args.closed.now).store.crons) in
    IfOk-weaker c.all_gaps_of.result _ _ (λ gs is. record {
      end = end;
      last = c.last_instant-at.ensures;
      are = subst (λ (h : List Told). AreAllGaps h end stand gs.items) c.entries_of.ensures.history
          (subst (λ (ss : List Standing). AreAllGaps (reverse c.entries_of.result.now) end ss gs.items)
          (c.as_slice.ensures.value ∙ c.in_ok-standing.ensures.ok) is);
    })
    c.all_gaps_of.ensures.ok
