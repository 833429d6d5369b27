-- read_files: its loop; at each turn the files lead to what was found so far.
use Rattle.std.proofs.Common.{drop, []}
use Rattle.cj_zone.specs.Table.{zones_of}
use Rattle.cj_inspect.proofs.FilesLemmas.{Leads}
use Rattle.cj_inspect.proofs.cron_files.read_files.Given as goal

abbrev pub invariant-loop-file : goal.invariant-loop-file
invariant-loop-file l = Leads (zones_of l.zones) [] l.files l.found.items (drop l.file-index l.files)
