-- note_lines, its loop: text and the lines of the notes left are all lines.
use Rattle.std.proofs.Common.{◌≡◌, ◌++◌, drop, string_bytes}
use Rattle.cj_answers.specs.Clusters.{note_lines}
use Rattle.cj_answers.proofs.clusters.note_lines.Given as goal

abbrev pub invariant-loop-note : goal.invariant-loop-note
invariant-loop-note l =
    string_bytes l.text ++ note_lines (drop l.note-index l.notes) ≡ note_lines l.notes
