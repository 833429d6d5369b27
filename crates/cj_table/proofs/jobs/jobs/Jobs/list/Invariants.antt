-- Jobs::list: its loop; at each turn the Jobs pushed and those at the slots to come are the Jobs at all slots.
use Rattle.std.proofs.Common.{◌≡◌, ◌++◌}
use Rattle.std.specs.List.{filter_map}
use Rattle.cj_table.specs.jobs.Slots.{job_at}
use Rattle.cj_table.proofs.jobs.jobs.Jobs.list.Given as goal

abbrev pub invariant-loop-slot : goal.invariant-loop-slot
invariant-loop-slot l = l.jobs.items ++ filter_map (job_at l.self-inside.slots) l.slot-iterator.rest.items
    ≡ filter_map (job_at l.self-inside.slots) l.initial.slot-iterator.rest.items
