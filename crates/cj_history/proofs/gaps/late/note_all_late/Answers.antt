-- note_all_late: what its loop keeps, and its clause ok.
use Rattle.std.proofs.Common.{◌≡◌, ◌∙◌, ◌++◌, ℕ, refl, sym, ap, arith}
use Rattle.cj_due.specs.Due.{missed_times}
use Rattle.cj_history.specs.gaps.Late.{unsynced}
use Rattle.cj_history.specs.gaps.Syncs.{last_scheduled}
use Rattle.cj_history.specs.gaps.reading.Known.{has}
use Rattle.cj_history.specs.gaps.reading.Listed.{gaps_with}
use Rattle.cj_history.specs.gaps.reading.Settled.{is_settled}
use Rattle.cj_history.proofs.GapsLemmas.Among.{among_none, among_next, among_rest}
use Rattle.cj_history.proofs.gaps.late.note_all_late.Goals as goal

pub loop-time-init : goal.loop-time-init
loop-time-init c =
    let s = c.args.standing.now in
    let e : c.last_scheduled-at.result ≡ last_scheduled s.cron
    = c.last_scheduled-at.ensures ∙ ap last_scheduled c.get.ensures in
    record {
      noted = among_none (is_settled (has c.args.marks.now) c.args.listed.now s.cron.meta.uid) s.cron unsynced
          c.args.schedule.now s.zone (last_scheduled s.cron) c.args.late.now.items
          ∙ ap (λ (x : ℕ). c.args.late.now.items
          ++ gaps_with (is_settled (has c.args.marks.now) c.args.listed.now s.cron.meta.uid) s.cron unsynced
          (missed_times c.args.schedule.now s.zone (last_scheduled s.cron) x)) (sym e);
      low = omega (arith, e);
      high = λ over. absurd (omega (arith, over, e));
    }

pub loop-time-preserved : goal.loop-time-preserved
loop-time-preserved c =
    let s = c.args.standing.now in
    let least = c.in-Some.ensures.some in
    let above = least.above in
    let low = c.loop-time.invariant.low in
    record {
      noted = among_next (is_settled (has c.args.marks.now) c.args.listed.now s.cron.meta.uid) s.cron unsynced
          c.args.schedule.now s.zone (last_scheduled s.cron) c.loop-time.at c.args.hi c.in-Some.time
          c.args.late.now.items c.loop-time.late.items c.note_late.new.late.items low least
          c.loop-time.invariant.noted c.in_ok-note_late.ensures.ok;
      low = omega (arith, low, above);
      high = λ over. least.within;
    }

pub returns-clause-ok : goal.returns-clause-ok
returns-clause-ok c =
    let s = c.args.standing.now in
    among_rest (is_settled (has c.args.marks.now) c.args.listed.now s.cron.meta.uid) s.cron unsynced
    c.args.schedule.now s.zone (last_scheduled s.cron) c.loop-time.at c.args.hi c.args.hi
    c.args.late.now.items c.loop-time.late.items
    c.loop-time.invariant.low c.loop-time.invariant.high (c.in_default.ensures.none refl) refl
    c.loop-time.invariant.noted
