-- head_of: its call of head_in, whose requires holds where there is no fault; and its unreachable!, as such a Job
-- has its metadata.
use Rattle.std.proofs.Common.{◌≡◌, [], rules, sym}
use Rattle.serde_json.specs.View.{view}
use Rattle.cj_manifest.specs.Faults.{head_faults}
use Rattle.cj_manifest.proofs.Sound.{head_named, head_there}
use Rattle.cj_manifest.proofs.head.head_of.Goals as goal

pub head_in-requires : goal.head_in-requires
head_in-requires c =
    let d = view c.args.value.now in
    let sound : head_faults d ≡ [] = search rules in
    head_named d sound (view c.in-Ok.found.now) (sym c.in-Ok.ensures.value)

pub unreachable-requires : goal.unreachable-requires
unreachable-requires c =
    let d = view c.args.value.now in
    let sound : head_faults d ≡ [] = search rules in
    head_there d sound c.in-Err.field-0 (sym c.in-Err.ensures.fault)
