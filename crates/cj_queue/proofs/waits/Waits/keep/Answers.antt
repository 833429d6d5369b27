-- Waits::keep: its clauses ok and err, by whether the key waits, and for a later time or not.
use Rattle.std.proofs.Common.{◌≡◌, ap, sym, ◌∙◌, None, Some}
use Rattle.std.specs.Map.{lookup}
use Rattle.cj_queue.specs.Parts.{key_eq}
use Rattle.cj_queue.specs.Times.{waits_for, earlier, time_of}
use Rattle.cj_queue.proofs.Ready.{set_is, same_is, waits_at_time, waits_on, on_ok, on_err}
use Rattle.cj_queue.proofs.TimesLemmas.{timed}
use Rattle.cj_queue.proofs.waits.Waits.keep.Goals as goal

pub put_new-requires-clause-absent : goal.put_new-requires-clause-absent
put_new-requires-clause-absent c =
    let none : lookup (key_eq c.args.key.now) c.self.inside.times.entries ≡ None =
    cc (c.get.ensures.value, c.copied-before.ensures, c.in-None.is) in
    sym (timed c.self.inside.times.entries c.args.key.now) ∙ none

pub put_earlier-requires-clause-waits : goal.put_earlier-requires-clause-waits
put_earlier-requires-clause-waits c =
    let some : lookup (key_eq c.args.key.now) c.self.inside.times.entries ≡ Some c.in-Some.before =
    cc (c.get.ensures.value, c.copied-before.ensures, c.in-Some.is) in
    sym (timed c.self.inside.times.entries c.args.key.now) ∙ some

pub returns-in-None-clause-ok : goal.returns-in-None-clause-ok
returns-in-None-clause-ok c =
    let times = c.self.inside.times.entries in
    let waits : time_of times c.args.key.now ≡ c.copied-before.result =
    sym (timed times c.args.key.now) ∙ cc (c.get.ensures.value, c.copied-before.ensures) in
    on_ok c.put_new.result _ _
    (λ s. set_is times c.put_new.new.times.entries c.args.key.now c.kept_time-time.result s
    ∙ sym (waits_at_time times c.args.key.now c.args.at c.kept_time-time.result c.copied-before.result waits
    c.kept_time-time.ensures)
    ∙ ap (λ m. waits_for m c.args.key.now c.args.at) c.self.view_is)
    c.put_new.ensures.ok

pub returns-in-None-clause-err : goal.returns-in-None-clause-err
returns-in-None-clause-err c = on_err c.put_new.result _ _
    (λ s. same_is c.self.inside.times.entries c.put_new.new.times.entries s ∙ c.self.view_is)
    c.put_new.ensures.err

pub returns-then-time-before-clause-ok : goal.returns-then-time-before-clause-ok
returns-then-time-before-clause-ok c =
    let times = c.self.inside.times.entries in
    let waits : time_of times c.args.key.now ≡ c.copied-before.result =
    sym (timed times c.args.key.now) ∙ cc (c.get.ensures.value, c.copied-before.ensures) in
    on_ok c.put_earlier.result _ _
    (λ s. set_is times c.put_earlier.new.times.entries c.args.key.now c.kept_time-time.result s
    ∙ sym (waits_at_time times c.args.key.now c.args.at c.kept_time-time.result c.copied-before.result waits
    c.kept_time-time.ensures)
    ∙ ap (λ m. waits_for m c.args.key.now c.args.at) c.self.view_is)
    c.put_earlier.ensures.ok

pub returns-then-time-before-clause-err : goal.returns-then-time-before-clause-err
returns-then-time-before-clause-err c = on_err c.put_earlier.result _ _
    (λ s. same_is c.self.inside.times.entries c.put_earlier.new.times.entries s ∙ c.self.view_is)
    c.put_earlier.ensures.err

pub returns-else-time-before-clause-ok : goal.returns-else-time-before-clause-ok
returns-else-time-before-clause-ok c =
    let times = c.self.inside.times.entries in
    let some : time_of times c.args.key.now ≡ Some c.in-Some.before =
    sym (timed times c.args.key.now) ∙ cc (c.get.ensures.value, c.copied-before.ensures, c.in-Some.is) in
    let kept : c.kept_time-time.result ≡ earlier (Some c.in-Some.before) c.args.at =
    c.kept_time-time.ensures ∙ ap (λ o. earlier o c.args.at) c.in-Some.is in
    sym c.self.view_is
    ∙ sym (waits_on times c.args.key.now c.args.at c.kept_time-time.result c.in-Some.before some kept
    c.if-time-before.false)
    ∙ ap (λ m. waits_for m c.args.key.now c.args.at) c.self.view_is
