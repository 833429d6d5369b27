-- cron_spec: its clause ok, field by field.
use Rattle.std.proofs.Common.{◌≡◌, false, refl, rules}
use Rattle.serde_json.specs.View.{view}
use Rattle.cj_types.specs.declared.policy.Policy.TheVariants.{Allow}
use Rattle.cj_manifest.specs.Drafts.{schedule_text, zone_name, template_of, value_or, given}
use Rattle.cj_manifest.specs.Table as fields
use Rattle.cj_manifest.proofs.draft.cron_spec.Goals as goal

pub returns-clause-ok : goal.returns-clause-ok
returns-clause-ok c =
    let s = view c.args.spec.now in
    let schedule : c.in_ok-schedule.schedule ≡ schedule_text s = search rules in
    let zone : c.in_ok-schedule.time_zone ≡ zone_name s = search rules in
    let policy : c.unwrap_or.result ≡ value_or Allow (fields.policy s) = search rules in
    let suspend : c.unwrap_or-2.result ≡ value_or false (fields.suspend s) = search rules in
    let deadline : c.unwrap_or-3.result ≡ given (fields.deadline s) = search rules in
    let successful : c.unwrap_or-4.result ≡ value_or 0 (fields.successful_limit s) = search rules in
    let failed : c.unwrap_or-5.result ≡ value_or 0 (fields.failed_limit s) = search rules in
    let template : c.in_ok-schedule.template ≡ template_of (view c.args.job_template.now) (view c.args.job_spec.now) =
    search rules in
    rw (schedule, zone, policy, suspend, deadline, successful, failed, template) refl
