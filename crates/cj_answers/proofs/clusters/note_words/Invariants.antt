-- note_words, its loop: text and the words of the notes left are all words.
use Rattle.std.proofs.Common.{◌≡◌, ◌++◌, drop, string_bytes}
use Rattle.cj_answers.specs.Clusters.{note_words}
use Rattle.cj_answers.proofs.clusters.note_words.Given as goal

abbrev pub invariant-loop-note : goal.invariant-loop-note
invariant-loop-note l =
    string_bytes l.text ++ note_words (drop l.note-index l.notes) ≡ note_words l.notes
