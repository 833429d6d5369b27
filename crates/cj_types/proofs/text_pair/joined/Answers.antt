-- joined: its clause seam, that a character begins where the second text does.
use Rattle.std.proofs.Common.{rules, ◌≡◌, ◌++◌, string_bytes}
use Rattle.std.proofs.lemmas.Str.{IsCharBoundary-at_seam}
use Rattle.cj_types.proofs.text_pair.joined.Goals as goal

pub returns-clause-seam : goal.returns-clause-seam
returns-clause-seam c =
    let whole : string_bytes c.push_str-2.new.self ≡ c.args.first.now ++ c.args.second.now = search rules in
    IsCharBoundary-at_seam _ _ _ whole c.utf8.second
