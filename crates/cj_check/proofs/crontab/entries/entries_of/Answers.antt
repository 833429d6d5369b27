-- entries_of: its loop, a line further.
use Rattle.std.proofs.Common.{◌≡◌, ℕ, ◌+◌, List, Bor, Some, sym, subst, rules}
use Rattle.std.specs.Prelude.{Option}
use Rattle.cj_check.specs.Crontab.{Adds}
use Rattle.cj_check.proofs.CrontabLines.{Reads, reads_on}
use Rattle.cj_check.proofs.crontab.entries.entries_of.Goals as goal

pub loop-rest-preserved : goal.loop-rest-preserved
loop-rest-preserved c =
    let bytes = c.args.bytes.now in
    let number = c.loop-rest.number in
    let old = c.loop-rest.reading.entries.items in
    let new = c.read.new.self.entries.items in
    let line = c.first_line.result.0.now in
    let same : c.loop-rest.rest ≡ Some c.in-Some.text = search rules in
    let adds : Adds (number + 1) line old new = search rules in
    subst (λ (o : Option (Bor (List ℕ))). Reads bytes (number + 1) o new) (sym c.left-rest.ensures)
    (reads_on bytes line number c.in-Some.text c.first_line.result.1 old new
    (subst (λ (o : Option (Bor (List ℕ))). Reads bytes number o old) same c.loop-rest.invariant)
    c.first_line.ensures.lines c.first_line.ensures.shorter adds)
