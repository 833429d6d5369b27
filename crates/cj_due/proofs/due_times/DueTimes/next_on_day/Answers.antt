-- next_on_day: its clause some, by the next allowed minute of the day in hand.
use Rattle.std.proofs.Common.{◌+◌, ◌-◌, ◌*◌, ◌<◌, arith, refl}
use Rattle.cj_due.proofs.DueTimesLemmas.{day_next, left_next}
use Rattle.cj_due.proofs.due_times.DueTimes.next_on_day.Goals as goal

pub returns-clause-some : goal.returns-clause-some
returns-clause-some c =
    let d = c.self.inside in
    let n = c.in_ok-minute.minute in
    let t = d.at + (n - d.minute) * 60 in
    let later : d.at < d.until = omega (arith, c.in_ok-minute.ensures.some.above, c.if-self-time.false) in
    left_next d.schedule.now d.zone.now d.at d.until d.end t c.instant.result _ c.self.view_is c.self.invariant.within
    (day_next d.schedule.now d.zone.now d.at d.until d.base d.minute n t c.self.invariant.clock
    (c.self.invariant.on_day later) c.in_ok-minute.ensures.some c.in_ok-minute.ensures.below refl c.if-self-time.false)
    c.instant.ensures
