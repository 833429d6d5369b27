-- named_lines: its loop's invariant, with the line of the next change, and its clause ok behind the last one.
use Rattle.std.proofs.Common.{◌≡◌, ◌++◌, string_bytes, rules, arith}
use Rattle.cj_upcoming.proofs.NamedLines.{leads_at, leads_end}
use Rattle.cj_upcoming.proofs.named.named_lines.Goals as goal

pub loop-at-preserved : goal.loop-at-preserved
loop-at-preserved c =
    let so_far = string_bytes c.loop-at.lines in
    let line = string_bytes c.in_ok-line.line in
    let is : string_bytes c.push_str.new.self ≡ so_far ++ line = search rules in
    leads_at c.args.schedule.now c.args.zone.now c.args.utc.now c.args.changes.now c.loop-at.at-index c.at-item.result
    so_far line (string_bytes c.push_str.new.self) c.loop-at-test.true c.at-item.is c.loop-at.invariant
    c.in_ok-line.ensures.ok is

pub returns-clause-ok : goal.returns-clause-ok
returns-clause-ok c =
    leads_end c.args.schedule.now c.args.zone.now c.args.utc.now c.args.changes.now c.loop-at.at-index
    (string_bytes c.loop-at.lines) (omega arith) c.loop-at.invariant
