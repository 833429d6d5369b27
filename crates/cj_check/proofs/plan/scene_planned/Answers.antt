-- scene_planned: its ensures, from that of planned and what is told beside the plan.
use Rattle.std.proofs.Common.{ℕ, List, subst, sym}
use Rattle.cj_check.specs.Plan.{IsBeside}
use Rattle.cj_check.proofs.plan.scene_planned.Goals as goal

pub returns : goal.returns
returns c = λ given said.
    c.planned.ensures given c.args.bytes.now said
    (subst (λ (s : List ℕ). IsBeside c.args.explain c.args.bytes.now s) (sym c.as_str.ensures.value)
    c.in_ok-beside.ensures)
