-- read_files: its loop's invariant, with one file more, and its ensures at a file that is refused.
use Rattle.std.proofs.Common.{[]}
use Rattle.cj_zone.specs.Table.{zones_of}
use Rattle.cj_inspect.proofs.FilesLemmas.{leads_at, stops_at}
use Rattle.cj_inspect.proofs.cron_files.read_files.Goals as goal

pub loop-file-preserved : goal.loop-file-preserved
loop-file-preserved c =
    leads_at (zones_of c.args.zones.now) [] c.loop-file.found.items c.add_file.new.found.items c.args.files.now
    c.loop-file.file-index _ c.loop-file-test.true c.loop-file.invariant c.in-Ok.ensures.read

pub returns-in-Err-clause-refused : goal.returns-in-Err-clause-refused
returns-in-Err-clause-refused c =
    stops_at (zones_of c.args.zones.now) [] c.loop-file.found.items c.args.files.now c.loop-file.file-index _
    c.in-Err.fault c.loop-file-test.true c.loop-file.invariant c.in-Err.ensures.refused
