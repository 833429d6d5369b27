-- sound_laws: its clauses begins, stays and planned, of what makes a content sound and keeps it so.
use Rattle.cj_store.proofs.StoreLawsLemmas.Planned.{begins_sound, stays_sound, plans_sound}
use Rattle.cj_store.proofs.store_laws.sound.sound_laws.Goals as goal

pub returns-clause-begins : goal.returns-clause-begins
returns-clause-begins c = begins_sound

pub returns-clause-stays : goal.returns-clause-stays
returns-clause-stays c = stays_sound

pub returns-clause-planned : goal.returns-clause-planned
returns-clause-planned c = plans_sound
