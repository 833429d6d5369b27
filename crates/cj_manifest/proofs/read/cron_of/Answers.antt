-- cron_of: its call of cron_draft, whose requires plain, flat and named hold where there is no
-- fault; and its unreachable!, as such a manifest has a draft.
use Rattle.std.proofs.Common.{◌≡◌, [], rules}
use Rattle.serde_json.specs.View.{view}
use Rattle.cj_zone.specs.Table.{zones_of}
use Rattle.cj_manifest.specs.Faults.{cron_faults}
use Rattle.cj_manifest.proofs.Sound.{cron_plain, cron_named, cron_there}
use Rattle.cj_manifest.proofs.read.cron_of.Goals as goal

pub cron_draft-requires : goal.cron_draft-requires
cron_draft-requires c =
    let zones = zones_of c.args.zones.now in
    let d = view c.args.value.now in
    let sound : cron_faults zones d ≡ [] = search rules in
    record { plain = cron_plain zones d sound; flat = search rules; named = cron_named zones d sound }

pub unreachable-requires : goal.unreachable-requires
unreachable-requires c =
    let zones = zones_of c.args.zones.now in
    let d = view c.args.value.now in
    let sound : cron_faults zones d ≡ [] = search rules in
    cron_there zones d sound (search rules)
