-- cron_draft: its call of shared_spec, whose requires plain and flat hold of the Job's spec.
use Rattle.std.proofs.Common.{codes}
use Rattle.serde_json.specs.Read.{max_depth}
use Rattle.serde_json.specs.View.{view}
use Rattle.cj_manifest.proofs.DepthLemmas.{depth-object}
use Rattle.cj_manifest.proofs.FloatLemmas.{no_float-object}
use Rattle.cj_manifest.proofs.draft.cron_draft.Goals as goal

pub shared_spec-requires : goal.shared_spec-requires
shared_spec-requires c =
    let whole = view c.args.value.now in
    let spec = view c.in-Ok-spec.spec.now in
    let template = view c.in-Ok-job_template.template.now in
    let job = view c.in-Ok-job_spec.job_spec.now in
    let plain_spec = no_float-object (codes "spec") whole spec c.requires.plain c.in-Ok-spec.ensures.value in
    let plain_template = no_float-object (codes "jobTemplate") spec template plain_spec
    c.in-Ok-job_template.ensures.value in
    let flat_spec = depth-object (codes "spec") whole spec max_depth c.requires.flat c.in-Ok-spec.ensures.value in
    let flat_template = depth-object (codes "jobTemplate") spec template max_depth flat_spec
    c.in-Ok-job_template.ensures.value in
    record {
      plain = no_float-object (codes "spec") template job plain_template c.in-Ok-job_spec.ensures.value;
      flat = depth-object (codes "spec") template job max_depth flat_template c.in-Ok-job_spec.ensures.value;
    }
