-- note_times: its loop goes on, by the due times that are left after the next one.
use Rattle.std.proofs.Common.{rules, ◌≡◌, ◌<◌, ◌≤◌, true, subst}
use Rattle.cj_due.specs.Due.{due}
use Rattle.cj_upcoming.specs.Notes.{Notes}
use Rattle.cj_upcoming.proofs.Walks.{Awaits, TimesTo, next_at, awaits_step, left_less, next_least, next_left, next_none, times_step}
use Rattle.cj_upcoming.proofs.times.note_times.Goals as goal

pub loop-next-smaller : goal.loop-next-smaller
loop-next-smaller c =
    let s = c.args.schedule.now in
    let z = c.args.zone.now in
    let end = c.args.window.now.end in
    left_less s z end c.loop-next.next c.in-Some.time c.next-next.result c.in-Some.is
    (next_least s z end c.loop-next.next c.in-Some.time _ _ _ c.in-Some.is c.loop-next.invariant.left
    c.next-next.ensures.steps)

pub loop-next-preserved : goal.loop-next-preserved
loop-next-preserved c =
    let w = c.args.window.now in
    let s = c.args.schedule.now in
    let z = c.args.zone.now in
    let t = c.in-Some.time in
    let known = c.loop-next.invariant in
    let steps = c.next-next.ensures.steps in
    let here : (w.from ≤ t) × (due s z t ≡ true) = subst (Awaits w s z) c.in-Some.is known.awaits in
    let noted : Notes (TimesTo w s z c.args.cron t) c.args.starts.now c.loop-next.starts = subst
    (λ n. Notes (TimesTo w s z c.args.cron (next_at n w.end)) c.args.starts.now c.loop-next.starts) c.in-Some.is
    known.noted in
    let inside : t < w.end = search rules in
    let least = next_least s z w.end c.loop-next.next t _ _ _ c.in-Some.is known.left steps in
    record {
      noted = times_step w s z c.args.cron t c.next-next.result _ c.loop-next.starts _ here.0 inside here.1 least
          (next_none s z w.end c.loop-next.next t _ _ _ c.in-Some.is known.left steps) noted c.in_ok-note.ensures.ok;
      awaits = awaits_step w s z c.args.cron t _ here.0 least;
      left = next_left s z w.end c.loop-next.next t _ _ _ c.in-Some.is known.left steps;
    }
