-- note_alone: its clause ok, from what is noted of single Jobs and of the times that have none.
use Rattle.std.proofs.Common.{◌≡◌, ◌⊎◌, ◌∙◌, refl, sym, ap, subst, option_copied}
use Rattle.std.proofs.lemmas.Result.{on_ok_weaker}
use Rattle.cj_types.specs.declared.cron.CronJob.{CronJob}
use Rattle.cj_types.specs.declared.cron.CronSpec.{CronSpec}
use Rattle.cj_schedule.specs.Grammar.{IsSchedule}
use Rattle.cj_zone.specs.Table.{zones_of}
use Rattle.cj_audit.specs.Times.{zone_for}
use Rattle.cj_audit.specs.Notes.{Notes}
use Rattle.cj_audit.specs.Findings.{IsUndueOf, IsEarlyOf}
use Rattle.cj_audit.proofs.Gaps.{missing_by}
use Rattle.cj_audit.proofs.OfCron.{IsRead, noted_alone, singles_by}
use Rattle.cj_audit.proofs.cron.note_alone.Goals as goal

pub returns-clause-ok : goal.returns-clause-ok
returns-clause-ok c =
    let zones = zones_of c.args.zones.now in
    let content = c.args.cluster.now in
    let cron = c.args.cron.now in
    let runs = c.args.runs.now in
    let start = c.args.notes.now in
    let spec : c.get-spec.result.now ≡ cron.cron.spec = c.get-spec.ensures
    ∙ ap (λ (x : CronJob). x.spec) c.deref.ensures in
    let read : IsRead cron.cron.spec.schedule c.schedule_of-schedule.result = record {
      found = λ s h. subst (λ (x : CronSpec). IsSchedule x.schedule s) spec (c.schedule_of-schedule.ensures.found s h);
      only =
          λ s h. c.schedule_of-schedule.ensures.only s (subst (λ (x : CronSpec). IsSchedule x.schedule s) (sym spec) h);
    } in
    let zone : option_copied c.zone_for-zone.result ≡ zone_for cron.cron.spec.time_zone zones = c.zone_for-zone.ensures
    ∙ ap (λ (x : CronSpec). zone_for x.time_zone zones) spec in
    let single : Notes (λ f. IsUndueOf zones content cron f ⊎ IsEarlyOf content cron f) start c.note_singles.new.notes =
    singles_by zones content cron c.schedule_of-schedule.result (option_copied c.as_ref-schedule.result)
    (option_copied c.zone_for-zone.result) runs runs read c.requires c.as_ref-schedule.ensures.value zone
    refl start c.note_singles.new.notes c.in_ok-note_singles.ensures.ok in
    on_ok_weaker c.note_missing.result
    (λ h. noted_alone zones content cron start c.note_singles.new.notes c.note_missing.new.notes single
    (missing_by zones content cron c.schedule_of-schedule.result (option_copied c.as_ref-schedule.result)
    (option_copied c.zone_for-zone.result) runs read zone c.requires c.as_ref-schedule.ensures.value
    c.note_singles.new.notes c.note_missing.new.notes h)) c.note_missing.ensures.ok
