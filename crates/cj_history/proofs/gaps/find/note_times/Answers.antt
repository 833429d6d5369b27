-- note_times: what its loop keeps, and its clause ok.
use Rattle.std.proofs.Common.{arith, refl}
use Rattle.cj_history.specs.gaps.Causes.{cause}
use Rattle.cj_history.specs.gaps.reading.Known.{has}
use Rattle.cj_history.specs.gaps.reading.Settled.{is_settled}
use Rattle.cj_history.proofs.GapsLemmas.Among.{among_none, among_turn, among_rest}
use Rattle.cj_history.proofs.gaps.find.note_times.Goals as goal

pub loop-time-init : goal.loop-time-init
loop-time-init c = record {
  noted = among_none (is_settled (has c.args.marks.now) c.args.listed.now c.args.cron.now.meta.uid) c.args.cron.now
      (cause (has c.args.marks.now) c.args.cron.now c.args.plan.now) c.args.schedule.now c.args.zone.now c.args.lo
      c.args.listed.now;
  low = omega arith;
  high = λ over. absurd (omega (arith, over));
}

pub loop-time-preserved : goal.loop-time-preserved
loop-time-preserved c =
    let least = c.in-Some.ensures.some in
    let above = least.above in
    let low = c.loop-time.invariant.low in
    record {
      noted = among_turn (has c.args.marks.now) c.args.listed.now c.args.cron.now
          (cause (has c.args.marks.now) c.args.cron.now c.args.plan.now) c.args.schedule.now c.args.zone.now
          c.args.lo c.loop-time.at c.moment-hi.result c.in-Some.time c.loop-time.listed
          c.note_time.new.listed low least c.loop-time.invariant.noted c.in_ok-note_time.ensures.ok;
      low = omega (arith, low, above);
      high = λ over. least.within;
    }

pub returns-clause-ok : goal.returns-clause-ok
returns-clause-ok c =
    among_rest (is_settled (has c.args.marks.now) c.args.listed.now c.args.cron.now.meta.uid) c.args.cron.now
    (cause (has c.args.marks.now) c.args.cron.now c.args.plan.now) c.args.schedule.now c.args.zone.now c.args.lo
    c.loop-time.at c.moment-hi.result c.args.plan.now.at c.args.listed.now c.loop-time.listed
    c.loop-time.invariant.low c.loop-time.invariant.high (c.in_default.ensures.none refl) c.moment-hi.ensures
    c.loop-time.invariant.noted
