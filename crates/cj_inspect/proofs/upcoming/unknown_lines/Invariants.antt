-- unknown_lines: at each turn the lines so far, with those of the texts left, are those of all.
use Rattle.std.proofs.Common.{◌≡◌, ◌++◌, drop, option_map, string_bytes}
use Rattle.cj_inspect.specs.Upcoming.{unknown_lines}
use Rattle.cj_inspect.proofs.upcoming.unknown_lines.Given as goal

abbrev pub invariant-loop-text : goal.invariant-loop-text
invariant-loop-text l =
    string_bytes l.lines ++ unknown_lines (option_map (λ s. s.now) l.within) l.files l.crons (drop l.text-index l.texts)
    ≡ unknown_lines (option_map (λ s. s.now) l.within) l.files l.crons l.texts
