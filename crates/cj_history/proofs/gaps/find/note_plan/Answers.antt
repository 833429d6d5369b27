-- note_plan: its clause ok, where the CronJob and the zone of the plan are known, and where they aren't.
use Rattle.std.proofs.Common.{◌∙◌, sym}
use Rattle.std.proofs.lemmas.Result.{on_ok_weaker}
use Rattle.cj_history.specs.gaps.reading.Known.{has}
use Rattle.cj_history.specs.gaps.reading.Settled.{is_settled}
use Rattle.cj_history.specs.gaps.reading.Intervals.{Covers}
use Rattle.cj_history.proofs.GapsLemmas.Listing.{by_plan}
use Rattle.cj_history.proofs.gaps.find.note_plan.Goals as goal

pub returns-in-Some-Some-clause-ok : goal.returns-in-Some-Some-clause-ok
returns-in-Some-Some-clause-ok c =
    on_ok_weaker _
    (λ on. by_plan (has c.args.marks.now) c.args.plan.now c.args.listed.now c.note_cron.new.listed
    c.note_cron.new.intervals (Covers (is_settled (has c.args.marks.now) c.args.listed.now) c.args.intervals.now)
    c.in-Some-Some.cron c.in-Some-Some.zone
    (sym (sym c.in-Some-Some.is-0 ∙ c.cron.ensures)) (sym (sym c.in-Some-Some.is-1 ∙ c.zone.ensures)) on)
    c.note_cron.ensures.ok
