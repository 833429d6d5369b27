-- history_text, its loop over the entries: text and the lines of those left are the lines of all.
use Rattle.std.proofs.Common.{◌≡◌, ◌++◌, ◌+◌, drop, string_bytes}
use Rattle.cj_report.specs.history.Entries.{entry_lines, history_lines}
use Rattle.cj_report.proofs.history.entries.history_text.Given as goal

abbrev pub invariant-loop-i : goal.invariant-loop-i
invariant-loop-i l = string_bytes l.text ++ entry_lines (l.i + 1) (drop l.i l.entries) ≡ history_lines l.entries
