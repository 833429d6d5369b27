-- audit_words: its loop; at each turn the lines so far and those of the rest are all.
use Rattle.std.proofs.Common.{◌≡◌, ◌++◌, drop, string_bytes}
use Rattle.cj_audit.specs.Words.{audit_words}
use Rattle.cj_audit.proofs.words.audit_words.Given as goal

abbrev pub invariant-loop-finding : goal.invariant-loop-finding
invariant-loop-finding l =
    string_bytes l.text ++ audit_words (drop l.finding-index l.finding-items) ≡ audit_words l.finding-items
