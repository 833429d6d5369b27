-- take: its ensures, where a line ends in what waits and where none does.
use Rattle.std.proofs.Common.{◌≡◌, ◌<◌, ◌≤◌, drop, length, take, rules}
use Rattle.cj_io.proofs.LineLemmas.{takes_line, takes_part}
use Rattle.cj_io.proofs.reader.LineReader.take.Goals as goal

pub returns-then-count-rest : goal.returns-then-count-rest
returns-then-count-rest c =
    let rest = c.behind-rest.result.now in
    let chunk = c.args.self.now.chunk.items in
    let begin = c.args.self.now.begin in
    let count = c.plain_length-count.result in
    let is : rest ≡ drop begin chunk = search rules in
    let lt : count < length rest = search rules in (
      take count rest,
      c.plain_length-count.ensures.before,
      (λ left. takes_line chunk rest begin count left is lt (c.plain_length-count.ensures.at lt)),
      (λ seen kept. c.push-self.ensures seen kept),
    )

pub returns-else-count-rest : goal.returns-else-count-rest
returns-else-count-rest c =
    let rest = c.behind-rest.result.now in
    let chunk = c.args.self.now.chunk.items in
    let begin = c.args.self.now.begin in
    let count = c.plain_length-count.result in
    let is : rest ≡ drop begin chunk = search rules in
    let all : length rest ≤ count = search rules in (
      take count rest,
      c.plain_length-count.ensures.before,
      (λ left. search (rules, takes_part chunk rest begin count left is all)),
      (λ seen kept. c.push-self.ensures seen kept),
    )
