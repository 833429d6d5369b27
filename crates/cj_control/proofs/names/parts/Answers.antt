-- parts: what stands before the slash and behind it.
use Rattle.cj_control.proofs.NameLemmas.{parts_none, parts_some}
use Rattle.cj_control.proofs.names.parts.Goals as goal

pub returns-in-Some-clause-namespace : goal.returns-in-Some-clause-namespace
returns-in-Some-clause-namespace c = (parts_some c.args.full.now c.in-Some.parts c.in-Some.ensures.cases).0

pub returns-in-Some-clause-name : goal.returns-in-Some-clause-name
returns-in-Some-clause-name c = (parts_some c.args.full.now c.in-Some.parts c.in-Some.ensures.cases).1

pub returns-in-None-clause-namespace : goal.returns-in-None-clause-namespace
returns-in-None-clause-namespace c = (parts_none c.args.full.now c.in-None.ensures.cases).0

pub returns-in-None-clause-name : goal.returns-in-None-clause-name
returns-in-None-clause-name c = (parts_none c.args.full.now c.in-None.ensures.cases).1
