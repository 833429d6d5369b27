-- cronsim_open_file: its ensures, by the kind of its zone.
use Rattle.cj_c.specs.Opening.{HasNoFileZone, IsFileZone}
use Rattle.cj_c.proofs.Openings.{opened_as}
use Rattle.cj_c.proofs.opening.cronsim_open_file.Goals as goal

pub returns : goal.returns
returns c = opened_as _ (IsFileZone c.args.bytes.now)
    (HasNoFileZone c.args.bytes.now) c.of_file.result _ _ _ _ _ c.of_file.ensures.ok c.of_file.ensures.err
    c.open.ensures
