-- note_cron: its clause ok, where the CronJob's text is a schedule and where it isn't.
use Rattle.std.proofs.Common.{refl}
use Rattle.std.proofs.lemmas.Result.{on_ok_weaker}
use Rattle.cj_history.specs.gaps.reading.Known.{has}
use Rattle.cj_history.specs.gaps.reading.Settled.{is_settled}
use Rattle.cj_history.specs.gaps.reading.Intervals.{Covers}
use Rattle.cj_history.proofs.GapsLemmas.Listing.{from_read, from_none}
use Rattle.cj_history.proofs.gaps.find.note_cron.Goals as goal

pub returns-in-Some-clause-ok : goal.returns-in-Some-clause-ok
returns-in-Some-clause-ok c =
    let s = c.in-Some.schedule in
    on_ok_weaker _
    (λ on. from_read (has c.args.marks.now) c.args.plan.now c.args.listed.now c.note_schedule.new.listed
    c.note_schedule.new.intervals (Covers (is_settled (has c.args.marks.now) c.args.listed.now) c.args.intervals.now)
    c.get.result.now c.args.cron.now c.args.zone.now s c.get.ensures
    (c.in-Some.ensures.found s refl) on)
    c.note_schedule.ensures.ok

pub returns-in-None-clause-ok : goal.returns-in-None-clause-ok
returns-in-None-clause-ok c = λ covers.
    from_none (has c.args.marks.now) c.args.plan.now c.args.listed.now c.args.intervals.now c.get.result.now
    c.args.cron.now c.args.zone.now c.get.ensures (λ s h. let e = c.in-None.ensures.only s h in absurd (cc e)) covers
