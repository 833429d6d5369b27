-- job_of: its call of job_draft, whose requires plain, flat and named hold where there is no
-- fault; and its unreachable!, as such a manifest has a draft.
use Rattle.std.proofs.Common.{◌≡◌, [], rules}
use Rattle.serde_json.specs.View.{view}
use Rattle.cj_manifest.specs.Faults.{job_faults}
use Rattle.cj_manifest.proofs.Sound.{job_plain, job_named, job_there}
use Rattle.cj_manifest.proofs.read.job_of.Goals as goal

pub job_draft-requires : goal.job_draft-requires
job_draft-requires c =
    let d = view c.args.value.now in
    let sound : job_faults d ≡ [] = search rules in
    record { plain = job_plain d sound; flat = search rules; named = job_named d sound }

pub unreachable-requires : goal.unreachable-requires
unreachable-requires c =
    let d = view c.args.value.now in
    let sound : job_faults d ≡ [] = search rules in
    job_there d sound (search rules)
