-- served_list: its clause read, by what is read of the manifests as a server would have them.
use Rattle.std.proofs.Common.{inr}
use Rattle.cj_inspect.proofs.cron_files.served_list.Goals as goal

pub returns-in-Ok-clause-read : goal.returns-in-Ok-clause-read
returns-in-Ok-clause-read c =
    inr (record {
      own = c.args.list;
      read = c.requires.read;
      refused = c.requires.some;
      served = c.as_slice.result.now;
      whole = c.in-Ok.list;
      is_whole = c.in-Ok.ensures.read;
      is = c.without_others.ensures;
    })
