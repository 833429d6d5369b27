-- push_step: its clause ok, by the lines of what the clock does.
use Rattle.std.proofs.Common.{string_bytes, rules}
use Rattle.cj_upcoming.proofs.coming.push_step.Goals as goal

pub returns-clause-ok : goal.returns-clause-ok
returns-clause-ok c = record {
  lines = string_bytes c.in_ok-lines.lines;
  named = c.in_ok-lines.ensures.ok;
  are = search rules;
}
