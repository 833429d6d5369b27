-- instant_of: its one clause, since read_time tells the one instant that is printed so.
use Rattle.cj_script.proofs.OperationsLemmas.Printed.{read-as}
use Rattle.cj_script.proofs.operations.instant.instant_of.Goals as goal

pub returns : goal.returns
returns c = read-as c.read_time.result c.args.text.now c.read_time.ensures.found c.read_time.ensures.in_range
    c.read_time.ensures.only
