-- event_patch: a merge patch of an Event is of no sync.
use Rattle.serde_json.specs.View.{view}
use Rattle.cj_control.proofs.NameLemmas.{event_patch_of_no_sync}
use Rattle.cj_control.proofs.calls.event_patch.Goals as goal

pub returns : goal.returns
returns c =
    event_patch_of_no_sync c.args.namespace.now c.args.name.now (view c.args.body) c.patch_event.result
    c.patch_event.ensures.ok
