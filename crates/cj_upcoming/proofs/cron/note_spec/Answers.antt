-- note_spec: its clauses, by the schedule and the zone of the CronJob.
use Rattle.std.proofs.Common.{◌≡◌, ◌∙◌, Some, None, refl, sym}
use Rattle.std.proofs.lemmas.Result.{IfErr-weaker, on_ok_weaker}
use Rattle.cj_schedule.specs.Matches.{Sets}
use Rattle.cj_zone.specs.Table.{zones_of}
use Rattle.cj_upcoming.proofs.OfCron.{of_none, of_clock, over_clock}
use Rattle.cj_upcoming.proofs.cron.note_spec.Goals as goal

-- A schedule isn't none.
some_none : (s : Sets) → None ≡ Some s → ⊥
some_none s e = absurd (cc e)

pub returns-in_default-clause-ok : goal.returns-in_default-clause-ok
returns-in_default-clause-ok c =
    of_none (zones_of c.args.zones.now) c.args.window.now c.args.place c.args.spec.now
    (λ t h. some_none t (sym c.in_default.is ∙ c.schedule_of.ensures.only t h)) c.args.starts.now

pub returns-clause-ok : goal.returns-clause-ok
returns-clause-ok c =
    on_ok_weaker c.note_times.result
    (λ h. of_clock (zones_of c.args.zones.now) c.args.window.now c.args.place c.args.spec.now c.in-Some.schedule
    c.in-Some-zone_for.zone.now c.if-spec.false (c.in-Some.ensures.found c.in-Some.schedule refl) c.in-Some.ensures.only
    (sym c.in-Some-zone_for.ensures) c.args.starts.now c.note_times.new.starts h)
    c.note_times.ensures.ok

pub returns-clause-many : goal.returns-clause-many
returns-clause-many c =
    IfErr-weaker c.note_times.result _ _
    (λ e h is. over_clock (zones_of c.args.zones.now) c.args.window.now c.args.place c.args.spec.now c.in-Some.schedule
    c.in-Some-zone_for.zone.now c.if-spec.false (c.in-Some.ensures.found c.in-Some.schedule refl) c.in-Some.ensures.only
    (sym c.in-Some-zone_for.ensures) c.args.most c.args.starts.now c.note_times.new.starts (h is))
    c.note_times.ensures.many
