-- gather_found: at each turn of its loop, the items and the unfinished Jobs of the rest are all.
use Rattle.std.proofs.Common.{◌≡◌, ◌++◌, drop}
use Rattle.cj_types.specs.Uids.{uid_text}
use Rattle.cj_status.specs.Mine.{is_running, present}
use Rattle.cj_status.specs.Picked.{gathered}
use Rattle.cj_status.proofs.listing.gather_found.Given as goal

abbrev pub invariant-loop-one : goal.invariant-loop-one
invariant-loop-one l =
    l.items.items ++ gathered (is_running (uid_text l.uid)) (present (drop l.one-index l.found))
    ≡ gathered (is_running (uid_text l.uid)) (present l.found)
