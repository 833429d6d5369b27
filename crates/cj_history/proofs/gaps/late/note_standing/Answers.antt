-- note_standing: its clause ok, where the CronJob's text is a schedule and where it isn't.
use Rattle.std.proofs.Common.{refl}
use Rattle.std.proofs.lemmas.Result.{on_ok_weaker}
use Rattle.cj_history.specs.gaps.reading.Known.{has}
use Rattle.cj_history.proofs.GapsLemmas.Late.{late_read, late_none}
use Rattle.cj_history.proofs.gaps.late.note_standing.Goals as goal

pub returns-in-Some-clause-ok : goal.returns-in-Some-clause-ok
returns-in-Some-clause-ok c =
    let s = c.in-Some.schedule in
    on_ok_weaker _
    (λ is. late_read (has c.args.marks.now) c.args.listed.now c.args.at c.args.standing.now c.get.result.now s
    c.args.late.now.items c.note_all_late.new.late.items c.get.ensures (c.in-Some.ensures.found s refl) is)
    c.note_all_late.ensures.ok

pub returns-in-None-clause-ok : goal.returns-in-None-clause-ok
returns-in-None-clause-ok c =
    late_none (has c.args.marks.now) c.args.listed.now c.args.at c.args.standing.now c.get.result.now
    c.args.late.now.items c.get.ensures (λ s h. let e = c.in-None.ensures.only s h in absurd (cc e))
