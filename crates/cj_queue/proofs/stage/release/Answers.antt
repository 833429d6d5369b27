-- release: its clause key, that the key which was added again is the one that is named.
use Rattle.std.proofs.Common.{sym}
use Rattle.std.proofs.lemmas.Map.Made.{lookup_key_passes}
use Rattle.cj_queue.specs.Parts.{key_eq}
use Rattle.cj_queue.proofs.Sets.{eq_true}
use Rattle.cj_queue.proofs.stage.release.Goals as goal

pub returns-in-Some-default-Again-clause-key : goal.returns-in-Some-default-Again-clause-key
returns-in-Some-default-Again-clause-key c =
    let kept = c.in-Some-default-Again in
    sym (eq_true c.args.key.now kept.kept
    (lookup_key_passes (key_eq c.args.key.now) c.args.busy.now.entries kept.kept (sym kept.ensures.key)))
