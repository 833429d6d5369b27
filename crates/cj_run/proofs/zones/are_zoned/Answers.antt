-- are_zoned: its ensures, of the entries with the newest first.
use Rattle.cj_run.proofs.Zoned.{are_zoned}
use Rattle.cj_run.proofs.zones.are_zoned.Goals as goal

pub returns : goal.returns
returns c = are_zoned c.args.zones.now c.args.entries.now c.all_zoned.result c.all_zoned.ensures
