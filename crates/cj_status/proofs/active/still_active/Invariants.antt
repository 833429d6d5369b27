-- still_active: at each turn of its loop, the names so far and the active ones left are all.
use Rattle.std.proofs.Common.{◌≡◌, ◌++◌, drop}
use Rattle.cj_types.specs.Uids.{uid_text}
use Rattle.cj_status.specs.Active.{still_active}
use Rattle.cj_status.proofs.active.still_active.Given as goal

abbrev pub invariant-loop-i : goal.invariant-loop-i
invariant-loop-i l = l.all ++ still_active (uid_text l.uid) (drop l.i l.names) (drop l.i l.found)
    ≡ still_active (uid_text l.uid) l.names l.found
