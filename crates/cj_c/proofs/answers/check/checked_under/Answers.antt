-- checked_under: its clause ok, of a manifest that is refused.
use Rattle.cj_c.proofs.answers.check.checked_under.Goals as goal

pub returns-in_ok-refused_text-in-Err-clause-ok : goal.returns-in_ok-refused_text-in-Err-clause-ok
returns-in_ok-refused_text-in-Err-clause-ok c = λ zones_text are.
    c.in_ok-refused_text-in-Err.ensures.ok c.args.bytes.now zones_text _ are c.in-Err.ensures.refused
