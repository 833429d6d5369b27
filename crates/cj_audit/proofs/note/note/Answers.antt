-- note: its clause ok, from what an insert does to the set.
use Rattle.std.proofs.Common.{rules}
use Rattle.cj_audit.proofs.Noting.{note_one}
use Rattle.cj_audit.proofs.note.note.Goals as goal
use Rattle.cj_audit.proofs.note.note.Goals.{in-Ok, in-Err}

pub returns-clause-ok : goal.returns-clause-ok
returns-clause-ok c =
    elim c.match-insert.branch [
      | in-Ok w ↦ let gained = note_one c.args.finding c.args.notes.now c.insert.new.self w.in-Ok.ensures.updates in
          rw w.result-is gained
      | in-Err w ↦ rw w.result-is (search rules)
    ]
