-- missed_of: its one clause where there is no window, in which no time is missed.
use Rattle.std.proofs.Common.{ap, length, arith}
use Rattle.cj_due.specs.Window.{window_of}
use Rattle.cj_due.proofs.MissedLemmas.{missed_times-none}
use Rattle.cj_decide.proofs.times.missed_of.Goals as goal

pub returns-in-None : goal.returns-in-None
returns-in-None c =
    ap length (missed_times-none c.args.schedule.now c.args.zone.now (window_of c.args.cron.now c.args.now) c.args.now
    (λ t above within.
    let e = c.in-None.ensures.some.1 (omega arith) in
    absurd (cc)))
