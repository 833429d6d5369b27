-- segment_law: its ensures.
use Rattle.cj_control.proofs.laws.segment_law.Goals as goal
use Rattle.cj_control.proofs.SegmentLemmas.{segments}

pub returns : goal.returns
returns c = segments
