-- add_file: its clause read, of the file that was read.
use Rattle.cj_inspect.proofs.cron_files.add_file.Goals as goal

pub returns-clause-read : goal.returns-clause-read
returns-clause-read c = record {
  read = c.in_ok-read.read;
  is_file = c.in_ok-read.ensures.read;
  more_is = c.in_ok-push_read.ensures.ok;
}
