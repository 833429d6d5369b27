-- push_characters: at the end the characters passed are all.
use Rattle.std.proofs.Common.{◌++◌, flat_map, string_bytes, sym, ap, ◌∙◌, map-id}
use Rattle.std.proofs.lemmas.Iterator.{YieldsList-from_chars}
use Rattle.std.proofs.lemmas.Iterator.Consumers.{YieldsList-end}
use Rattle.cj_yaml.specs.Escapes.{coded_char}
use Rattle.cj_yaml.proofs.escape.push_characters.Goals as goal

pub returns : goal.returns
returns c =
    let all = YieldsList-from_chars c.args.text.now c.utf8.text cc in
    let end =
    YieldsList-end all c.loop-character.yielded _ c.loop-character.yielded_by _ _ c.in-None.is c.next.ensures.steps in
    c.loop-character.invariant
    ∙ ap (λ cs. string_bytes c.args.out.now ++ flat_map coded_char cs) (sym (map-id c.loop-character.yielded) ∙ end.0)
