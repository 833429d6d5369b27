-- add_ready: its loop, a turn of which takes one key less to come, and its clauses, where none is to come.
use Rattle.std.proofs.Common.{sym, ap, ◌∙◌}
use Rattle.cj_queue.specs.Queue.{row_adds}
use Rattle.cj_queue.specs.Times.{ready, without}
use Rattle.cj_queue.proofs.Ready.{turns_left, places_left, place_for, none_left}
use Rattle.cj_queue.proofs.queue.add_ready.Goals as goal

pub add-requires : goal.add-requires
add-requires c = record { room = place_for _ _ c.in-Some.key _ c.in-Some.ensures.ready c.loop.invariant.1 }

pub loop-preserved : goal.loop-preserved
loop-preserved c =
    let first = c.in-Some.ensures.ready in
    let inv = c.loop.invariant in
    let rest = ready c.take_ready.new.self c.args.now in (
      turns_left _ rest c.in-Some.key _ _ first inv.0,
      places_left _ rest c.in-Some.key _ _ first inv.1 c.add.ensures.room,
      ap (λ m. without m rest) c.in-Some.ensures.leaves ∙ ap (without c.loop.waits) (sym first) ∙ inv.2,
      ap (λ r. row_adds r rest) c.add.ensures.row ∙ ap (row_adds c.loop.work.row) (sym first) ∙ inv.3,
    )

pub returns-clause-waits : goal.returns-clause-waits
returns-clause-waits c =
    let none = none_left (ready c.loop.waits c.args.now) _ _ c.loop.invariant.0 c.loop-test.false in
    sym (ap (without c.loop.waits) none) ∙ c.loop.invariant.2

pub returns-clause-rows : goal.returns-clause-rows
returns-clause-rows c =
    let none = none_left (ready c.loop.waits c.args.now) _ _ c.loop.invariant.0 c.loop-test.false in
    sym (ap (row_adds c.loop.work.row) none) ∙ c.loop.invariant.3

pub returns-in_default-clause-waits : goal.returns-in_default-clause-waits
returns-in_default-clause-waits c =
    c.in_default.ensures.stays ∙ sym (ap (without c.loop.waits) c.in_default.ensures.none) ∙ c.loop.invariant.2

pub returns-in_default-clause-rows : goal.returns-in_default-clause-rows
returns-in_default-clause-rows c =
    sym (ap (row_adds c.loop.work.row) c.in_default.ensures.none) ∙ c.loop.invariant.3
