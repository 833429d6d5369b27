-- sound_law: its clauses sound, few and window, of the state that any history leaves.
use Rattle.cj_world_laws.proofs.LegalLemmas.Sound.{sound_of, version_of_history, window_of}
use Rattle.cj_world_laws.proofs.legal.laws.sound_law.Goals as goal

pub returns-clause-sound : goal.returns-clause-sound
returns-clause-sound c = sound_of

pub returns-clause-few : goal.returns-clause-few
returns-clause-few c = version_of_history

pub returns-clause-window : goal.returns-clause-window
returns-clause-window c = window_of
