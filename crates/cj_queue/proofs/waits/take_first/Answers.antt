-- take_first: its clauses, where a time is above now and where the first entry leaves both maps, and that the key of an
-- entry waits.
use Rattle.std.proofs.Common.{◌≡◌, Some, None, sym, ◌∙◌}
use Rattle.cj_queue.specs.Times.{time_of}
use Rattle.cj_queue.proofs.Ready.{ready_none}
use Rattle.cj_queue.proofs.TimesLemmas.{agrees_removal, time_there, timed, times_set}
use Rattle.cj_queue.proofs.waits.take_first.Goals as goal

pub returns-then-at-now-clause-none : goal.returns-then-at-now-clause-none
returns-then-at-now-clause-none c =
    ready_none _ c.next.new.self c.in-Some.field-0.now c.args.now (sym c.keys.ensures.rest ∙ c.in-Some.ensures.steps)
    c.keys.ensures.ordered c.if-at-now.true

pub returns-in_default-remove_entry-clause-agree : goal.returns-in_default-remove_entry-clause-agree
returns-in_default-remove_entry-clause-agree c =
    let first = c.in-Some-pop_first in
    let there : time_of c.args.times.now.entries first.key ≡ Some first.field-0-0-0 =
    time_there _ _ (sym (c.requires.agree.same first.key first.field-0-0-0) ∙ first.ensures.value) in
    absurd (cc (c.in_default-remove_entry.ensures.value ∙ timed c.args.times.now.entries first.key ∙ there))

pub returns-in_default-remove_entry-clause-none : goal.returns-in_default-remove_entry-clause-none
returns-in_default-remove_entry-clause-none c =
    let first = c.in-Some-pop_first in
    let there : time_of c.args.times.now.entries first.key ≡ Some first.field-0-0-0 =
    time_there _ _ (sym (c.requires.agree.same first.key first.field-0-0-0) ∙ first.ensures.value) in
    absurd (cc (c.in_default-remove_entry.ensures.value ∙ timed c.args.times.now.entries first.key ∙ there))

pub returns-clause-leaves : goal.returns-clause-leaves
returns-clause-leaves c =
    times_set c.args.times.now.entries c.remove_entry.new.self.entries c.in-Some-pop_first.key None
    c.remove_entry.ensures.updates.0

pub returns-clause-agree : goal.returns-clause-agree
returns-clause-agree c =
    let first = c.in-Some-pop_first in
    let there : time_of c.args.times.now.entries first.key ≡ Some first.field-0-0-0 =
    time_there _ _ (sym (c.requires.agree.same first.key first.field-0-0-0) ∙ first.ensures.value) in
    agrees_removal c.args.times.now.entries c.remove_entry.new.self.entries c.args.order.now c.pop_first.new.self
    first.key first.field-0-0-0 c.requires.agree there (returns-clause-leaves c) first.ensures.updates.0
