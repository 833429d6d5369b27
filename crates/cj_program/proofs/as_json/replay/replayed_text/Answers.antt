-- replayed_text: its ensures, of the bytes that the replay wrote.
use Rattle.std.proofs.Common.{◌≡◌, ◌∙◌, ◌++◌, [], ap, ℕ, List, rules}
use Rattle.cj_program.proofs.Playback.{replayed}
use Rattle.cj_program.proofs.as_json.replay.replayed_text.Goals as goal

pub returns-in-Ok : goal.returns-in-Ok
returns-in-Ok c =
    let played = c.in_ok-replay.ensures.whole in
    let none : c.new-bytes.result.items ≡ [] = search rules in
    replayed c.args.script.now _ played.0 _ played.1 c.if-branch.false
    (ap (λ v. v.items) c.in-Ok.ensures.ok ∙ (played.2 ∙ ap (λ (xs : List ℕ). xs ++ played.0) none))
