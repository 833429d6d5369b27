-- read_file: its clause read where the file is no manifest, of what a client prints.
use Rattle.std.proofs.Common.{inr, subst, ℕ, List}
use Rattle.std.specs.Prelude.{MatchOption}
use Rattle.cj_zone.specs.Table.{zones_of}
use Rattle.cj_inspect.specs.CronFiles.{Drafts, DraftsNone, IsListed}
use Rattle.cj_inspect.proofs.cron_files.read_file.Goals as goal

pub returns-in_ok-read-in-None-clause-read : goal.returns-in_ok-read-in-None-clause-read
returns-in_ok-read-in-None-clause-read c =
    let zones = zones_of c.args.zones.now in
    let bytes = c.args.file.now.bytes.now in
    let list = c.in_ok-found-in-None.found.list in
    inr (record {
      none = subst (λ m. MatchOption m (DraftsNone zones bytes) (Drafts zones bytes)) c.in-None.is
          c.in_ok-draft.ensures.read;
      list = list;
      read = c.in_ok-found-in-None.ensures.read;
      listed = subst (λ (n : List ℕ). IsListed n list c.in_ok-read-in-None.read) c.in_ok-name.ensures.ok
          c.in_ok-read-in-None.ensures.ok;
    })
