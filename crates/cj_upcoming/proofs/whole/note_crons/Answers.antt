-- note_crons: its loop and its clauses, by the walk over the CronJobs.
use Rattle.std.proofs.Common.{rules, ◌≡◌, IfErr, length, subst, refl, arith}
use Rattle.std.proofs.lemmas.Option.{slice_get_read}
use Rattle.std.proofs.lemmas.Result.{IfErr-weaker}
use Rattle.cj_zone.specs.Table.{zones_of}
use Rattle.cj_upcoming.specs.Notes.{Notes, Exceeds}
use Rattle.cj_upcoming.specs.Starts.{IsStartBy}
use Rattle.cj_upcoming.specs.Upcoming.{IsStart}
use Rattle.cj_upcoming.specs.declared.fault.StartsFault.{StartsFault}
use Rattle.cj_upcoming.specs.declared.fault.StartsFault.TheVariants.{TooMany}
use Rattle.cj_upcoming.proofs.Noted.{starts_step, starts_end, starts_over}
use Rattle.cj_upcoming.proofs.whole.note_crons.Goals as goal

pub loop-place-preserved : goal.loop-place-preserved
loop-place-preserved c =
    let zones = zones_of c.args.zones.now in
    let w = c.args.window.now in
    let xs = c.args.crons.now in
    let i = c.loop-place.place in
    let x = c.index-crons-place.result in
    starts_step zones w xs i x c.args.starts.now c.loop-place.starts c.note_cron.new.starts
    (slice_get_read xs (length xs) i x refl (omega arith) c.index-crons-place.is) c.loop-place.invariant
    (subst (λ d. Notes (IsStartBy zones w i d) c.loop-place.starts c.note_cron.new.starts) c.get.ensures
    c.in_ok-note_cron.ensures.ok)

pub returns-in_err-note_cron-clause-many : goal.returns-in_err-note_cron-clause-many
returns-in_err-note_cron-clause-many c =
    let zones = zones_of c.args.zones.now in
    let w = c.args.window.now in
    let xs = c.args.crons.now in
    let i = c.loop-place.place in
    let x = c.index-crons-place.result in
    let over : IfErr c.note_cron.result (λ (e : StartsFault). e ≡ TooMany → Exceeds c.args.most (IsStart zones w xs)
    c.args.starts.now c.note_cron.new.starts) = IfErr-weaker c.note_cron.result _ _ (λ e h is.
    starts_over zones w xs c.args.most i x c.args.starts.now c.loop-place.starts c.note_cron.new.starts
    (slice_get_read xs (length xs) i x refl (omega arith) c.index-crons-place.is) c.loop-place.invariant
    (subst (λ d. Exceeds c.args.most (IsStartBy zones w i d) c.loop-place.starts c.note_cron.new.starts) c.get.ensures
    (h is)))
    c.note_cron.ensures.many in
    search rules

pub returns-clause-ok : goal.returns-clause-ok
returns-clause-ok c =
    starts_end (zones_of c.args.zones.now) c.args.window.now c.args.crons.now c.loop-place.place c.args.starts.now
    c.loop-place.starts (omega arith) c.loop-place.invariant
