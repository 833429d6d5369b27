-- first_line: its ensures, by whether a line feed ends the line.
use Rattle.std.proofs.Common.{◌≡◌, ◌<◌, ◌≤◌, ◌∷◌, ◌∙◌, ℕ, ◌+◌, ◌-◌, List, length, take, drop, ap, sym, rules, take_all, le_of_eq, length-drop}
use Rattle.cj_check.specs.Crontab.{lines_in}
use Rattle.cj_check.proofs.CrontabLines.{further_lines, one_line}
use Rattle.cj_check.proofs.crontab.pieces.first_line.Goals as goal

pub returns-then-end-text-clause-lines : goal.returns-then-end-text-clause-lines
returns-then-end-text-clause-lines c =
    let text = c.args.text.now in
    let k = c.plain_length-end.result in
    let lt : k < length text = search rules in
    further_lines text k c.plain_length-end.ensures.before lt (c.plain_length-end.ensures.at lt)
    ∙ ap (λ l. take k text ∷ lines_in l)
    (sym (take_all (length text - (k + 1)) (drop (k + 1) text) (le_of_eq (length-drop (k + 1) text))))

pub returns-else-end-text-clause-lines : goal.returns-else-end-text-clause-lines
returns-else-end-text-clause-lines c =
    let text = c.args.text.now in
    let k = c.plain_length-end.result in
    let all : length text ≤ k = search rules in
    one_line text k c.plain_length-end.ensures.before all
