-- sync_law: its clauses syncs and held, of the syncs that a history's entries give.
use Rattle.cj_world_laws.proofs.LegalLemmas.HeldSyncs.{syncs_agree, one_holder}
use Rattle.cj_world_laws.proofs.legal.laws.sync_law.Goals as goal

pub returns-clause-syncs : goal.returns-clause-syncs
returns-clause-syncs c = syncs_agree

pub returns-clause-held : goal.returns-clause-held
returns-clause-held c = one_holder
