-- event_laws: its clause EventsWrite, of what the event of a write does to the content.
use Rattle.cj_store.proofs.StoreLawsLemmas.Written.{events_write}
use Rattle.cj_store.proofs.store_laws.events.event_laws.Goals as goal

pub returns : goal.returns
returns c = events_write
