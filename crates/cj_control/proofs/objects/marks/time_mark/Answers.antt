-- time_mark: its one clause, where the text prints no instant.
use Rattle.std.proofs.Common.{◌≡◌, List, ℕ, Some, Bor, option_map, rules}
use Rattle.cj_control.proofs.MarkLemmas.{no_time}
use Rattle.cj_control.proofs.objects.marks.time_mark.Goals as goal

pub returns-in-None-read_instant : goal.returns-in-None-read_instant
returns-in-None-read_instant c =
    let is : Some c.in-Some.text.now ≡ option_map (λ (s : Bor (List ℕ)). s.now) c.args.text = search rules in
    no_time (option_map (λ (s : Bor (List ℕ)). s.now) c.args.text) c.in-Some.text.now is
    (λ t i. cc (c.in-None-read_instant.ensures.only t i))
