-- event_request: a POST of an Event is of no sync.
use Rattle.serde_json.specs.View.{view}
use Rattle.cj_control.proofs.NameLemmas.{event_of_no_sync}
use Rattle.cj_control.proofs.calls.event_request.Goals as goal

pub returns : goal.returns
returns c = event_of_no_sync c.args.namespace.now (view c.args.body) c.post_event.result c.post_event.ensures.ok
