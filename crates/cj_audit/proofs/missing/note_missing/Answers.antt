-- note_missing: its clause ok, since the gaps after the Jobs are what is noted of them.
use Rattle.std.proofs.Common.{◌≡◌, ◌∙◌, Some, false, sym, ap, subst, option_copied}
use Rattle.std.proofs.lemmas.Result.{on_ok_weaker}
use Rattle.cj_types.specs.declared.cron.CronJob.{CronJob}
use Rattle.cj_types.specs.declared.cron.CronSpec.{CronSpec}
use Rattle.cj_table.specs.jobs.Owners.{owned_by}
use Rattle.cj_audit.specs.Marks.{AreMarks, IsMissingIn}
use Rattle.cj_audit.specs.Notes.{Notes}
use Rattle.cj_audit.proofs.Gaps.{all_gaps}
use Rattle.cj_audit.proofs.missing.note_missing.Goals as goal

pub returns-clause-ok : goal.returns-clause-ok
returns-clause-ok c =
    let cron = c.args.cron.now in
    let runs = c.args.runs.now in
    let jobs = owned_by c.args.cluster.now.jobs cron.cron.key in
    let marks = c.in_ok-marks.marks in
    let spec : c.get.result.now ≡ cron.cron.spec = c.get.ensures ∙ ap (λ (x : CronJob). x.spec) c.deref.ensures in
    let awake : cron.cron.spec.suspend ≡ false = subst (λ (x : CronSpec). x.suspend ≡ false) spec c.if-get.false in
    let key : c.key.result.now ≡ cron.cron.key = c.key.ensures.value ∙ ap (λ (x : CronJob). x.key) c.deref-2.ensures in
    let are : AreMarks cron runs jobs marks = subst (λ xs. AreMarks cron runs xs marks)
    (c.as_slice.ensures ∙ c.in_ok-jobs.ensures.ok
    ∙ ap (owned_by c.args.cluster.now.jobs) key) c.in_ok-marks.ensures.ok in
    let schedule : Some c.in-Some-Some.schedule.now ≡ option_copied c.args.schedule = sym
    (ap option_copied c.in-Some-Some.is-0) in
    let zone : Some c.in-Some-Some.zone.now ≡ option_copied c.args.zone = sym (ap option_copied c.in-Some-Some.is-1) in
    on_ok_weaker c.note_gaps.result
    (λ h. subst (λ x. Notes (IsMissingIn x (option_copied c.args.zone) cron runs jobs) c.args.notes.now
    c.note_gaps.new.notes)
    schedule (subst (λ y. Notes (IsMissingIn (Some c.in-Some-Some.schedule.now) y cron runs jobs) c.args.notes.now
    c.note_gaps.new.notes) zone
    (all_gaps c.in-Some-Some.schedule.now c.in-Some-Some.zone.now cron runs jobs marks are awake c.args.notes.now
    c.note_gaps.new.notes h))) c.note_gaps.ensures.ok
