-- key_of: its clause ok, where the text has no slash and where it is split at one.
use Rattle.std.proofs.Common.{Some, None, arith}
use Rattle.std.proofs.lemmas.Str.Pattern.{split_once_first}
use Rattle.cj_script.proofs.OperationsLemmas.Splits.{key-made, key-whole}
use Rattle.cj_script.proofs.operations.keys.key_of.Goals as goal

pub returns-in-None-clause-ok : goal.returns-in-None-clause-ok
returns-in-None-clause-ok c = key-whole c.args.text.now
    (split_once_first 47 c.args.text.now None c.in-None.ensures.cases (omega arith))

pub returns-in-Some-clause-ok : goal.returns-in-Some-clause-ok
returns-in-Some-clause-ok c =
    let split = split_once_first 47 c.args.text.now (Some (c.in-Some.namespace, c.in-Some.name)) c.in-Some.ensures.cases
    (omega arith) in
    key-made c.key_named.result c.args.text.now c.in-Some.namespace.now c.in-Some.name.now split.0 split.1 split.2
    c.key_named.ensures.ok
