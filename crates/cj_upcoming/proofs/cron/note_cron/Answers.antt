-- note_cron: its clauses, where the CronJob is halted, and where it is not.
use Rattle.std.proofs.Common.{◌∙◌, sym, subst}
use Rattle.std.proofs.lemmas.Result.{IfErr-weaker, on_ok_weaker}
use Rattle.cj_zone.specs.Table.{zones_of}
use Rattle.cj_upcoming.specs.Notes.{Notes, Exceeds}
use Rattle.cj_upcoming.specs.Starts.{IsStartOf}
use Rattle.cj_upcoming.proofs.OfCron.{by_halted, by_spec, over_spec}
use Rattle.cj_upcoming.proofs.cron.note_cron.Goals as goal

pub returns-then-is_halted-clause-ok : goal.returns-then-is_halted-clause-ok
returns-then-is_halted-clause-ok c =
    by_halted (zones_of c.args.zones.now) c.args.window.now c.args.place c.args.cron.now
    (sym c.is_halted.ensures ∙ c.if-is_halted.true) c.args.starts.now

pub returns-else-is_halted-clause-ok : goal.returns-else-is_halted-clause-ok
returns-else-is_halted-clause-ok c =
    let zones = zones_of c.args.zones.now in
    let w = c.args.window.now in
    on_ok_weaker c.note_spec.result
    (λ h. by_spec zones w c.args.place c.args.cron.now (sym c.is_halted.ensures ∙ c.if-is_halted.false)
    c.args.starts.now c.note_spec.new.starts
    (subst (λ s. Notes (IsStartOf zones w c.args.place s) c.args.starts.now c.note_spec.new.starts) c.spec_of.ensures
    h))
    c.note_spec.ensures.ok

pub returns-else-is_halted-clause-many : goal.returns-else-is_halted-clause-many
returns-else-is_halted-clause-many c =
    let zones = zones_of c.args.zones.now in
    let w = c.args.window.now in
    IfErr-weaker c.note_spec.result _ _
    (λ e h is. over_spec zones w c.args.place c.args.cron.now (sym c.is_halted.ensures ∙ c.if-is_halted.false)
    c.args.most c.args.starts.now c.note_spec.new.starts
    (subst (λ s. Exceeds c.args.most (IsStartOf zones w c.args.place s) c.args.starts.now c.note_spec.new.starts)
    c.spec_of.ensures (h is))) c.note_spec.ensures.many
