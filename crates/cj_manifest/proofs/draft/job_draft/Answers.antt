-- job_draft: its call of kept, whose requires plain and flat hold of the spec.
use Rattle.std.proofs.Common.{codes}
use Rattle.serde_json.specs.Read.{max_depth}
use Rattle.serde_json.specs.View.{view}
use Rattle.cj_manifest.proofs.DepthLemmas.{depth-object}
use Rattle.cj_manifest.proofs.FloatLemmas.{no_float-object}
use Rattle.cj_manifest.proofs.draft.job_draft.Goals as goal

pub kept-requires : goal.kept-requires
kept-requires c =
    let whole = view c.args.value.now in
    let spec = view c.in-Ok-spec.spec.now in
    record {
      plain = no_float-object (codes "spec") whole spec c.requires.plain c.in-Ok-spec.ensures.value;
      flat = depth-object (codes "spec") whole spec max_depth c.requires.flat c.in-Ok-spec.ensures.value;
    }
