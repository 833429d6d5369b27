-- The spec of a written CronJob has no fault, and says what the CronJob has.
use Rattle.std.proofs.Common.{◌≡◌, List, [], true, false, codes, Some, None, Ok, refl, ap, ◌∙◌, nat_le}
use Rattle.std.specs.Result.{result_err}
use Rattle.serde_json.specs.Data.{Data, object, Members}
use Rattle.serde_json.specs.Written.{compact_text}
use Rattle.cj_base.specs.declared.field.Field.TheVariants as At
use Rattle.cj_types.specs.declared.cron.CronSpec.{CronSpec}
use Rattle.cj_types.specs.declared.policy.Policy.TheVariants.{Allow}
use Rattle.cj_types.specs.Limits.{last_deadline, last_history_limit}
use Rattle.cj_schedule.specs.Reading as schedules
use Rattle.cj_zone.specs.declared.zone.Zone.{Zone}
use Rattle.cj_json.specs.Objects.{cron_spec_data, template_data}
use Rattle.cj_manifest.specs.declared.level.Level.TheVariants as In
use Rattle.cj_manifest.specs.Drafts.{given, value_or, cron_spec_of, template_of}
use Rattle.cj_manifest.specs.Faults.{with_fields, timing_faults, cron_spec_faults, template_faults, template_fields, job_spec_faults}
use Rattle.cj_manifest.specs.Values.{required, or_default, an_object, truth}
use Rattle.cj_manifest.specs.Members.{present}
use Rattle.cj_manifest.specs.Table as fields
use Rattle.cj_manifest.specs.Warnings.{dropped}
use Rattle.cj_manifest.proofs.CronParts.{SpecIs, spec_is, template_is}
use Rattle.cj_manifest.proofs.CronRows.{schedule_given, schedule_row, IsKnownZone, zone_given, zone_row, zone_said, policy_row, IsWithin, deadline_given, deadline_row, limit_given, limit_row}
use Rattle.cj_manifest.proofs.MetaTrip.{no_faults, no_fault}
use Rattle.cj_manifest.proofs.Rising.{rises}
use Rattle.cj_manifest.proofs.Sound.{nil_left, nil_right, no_cause}
use Rattle.cj_manifest.proofs.TemplateTrip.{TemplateSays, template_says, labels_rise, annotations_rise}

-- what a manifest without a fault leaves of a spec
pub record IsFineSpec (zones : List Zone) (spec : CronSpec) : Type 0 where
  pub schedule : schedules.fault_of spec.schedule ≡ None
  pub time_zone : IsKnownZone zones spec.time_zone
  pub deadline : IsWithin last_deadline spec.starting_deadline_seconds
  pub successful : nat_le spec.successful_limit last_history_limit ≡ true
  pub failed : nat_le spec.failed_limit last_history_limit ≡ true
  pub labels : rises spec.template.labels
  pub annotations : rises spec.template.annotations

-- A CronJob's spec from a manifest without a fault is fine: each field is in range and in order.
pub fine_spec : (zones : List Zone) (s t j : Data) → cron_spec_faults zones s ≡ []
    → IsFineSpec zones (cron_spec_of s (template_of t j))
fine_spec zones s t j h =
    let timing = nil_left (timing_faults zones s) _ (nil_left _ _ h) in
    let first = nil_left _ _ (nil_left _ _ timing) in
    record {
      schedule = schedule_given _ (no_cause At.ScheduleText _ (nil_left _ _ first));
      time_zone = zone_given zones _ (no_cause At.TimeZone _ (nil_right _ _ first));
      deadline = deadline_given (present (codes "startingDeadlineSeconds") s);
      successful = limit_given 3 (present (codes "successfulJobsHistoryLimit") s) refl;
      failed = limit_given 1 (present (codes "failedJobsHistoryLimit") s) refl;
      labels = labels_rise (given (fields.template_metadata t));
      annotations = annotations_rise (given (fields.template_metadata t));
    }

-- ---- once it is written

pub record SpecSays (zones : List Zone) (spec : CronSpec) (t j s : Data) : Type 0 where
  pub sound : cron_spec_faults zones s ≡ []
  pub template : fields.job_template s ≡ Ok t
  pub job : fields.job_spec t ≡ Ok j
  pub said : cron_spec_of s (template_of t j) ≡ spec
  pub known : dropped In.CronSpec (Some s) ≡ []
  pub template_known : dropped In.Template (Some t) ≡ []
  pub inner_known : dropped In.TemplateMetadata (given (fields.template_metadata t)) ≡ []

-- What is written of a fine spec has no fault and no unknown name, and says that spec.
pub spec_says : (zones : List Zone) (spec : CronSpec) (ms : Members) → IsFineSpec zones spec
    → compact_text (object ms) ≡ spec.template.spec → job_spec_faults template_fields (object ms) ≡ []
    → SpecSays zones spec (template_data spec.template (object ms)) (object ms) (cron_spec_data spec (object ms))
spec_says zones spec ms fine text sound =
    let t = template_data spec.template (object ms) in
    let s = cron_spec_data spec (object ms) in
    let is : SpecIs spec spec.time_zone spec.starting_deadline_seconds t s =
    spec_is spec spec.time_zone spec.starting_deadline_seconds t in
    let inner : TemplateSays spec.template.labels spec.template.annotations (object ms) t =
    template_says spec.template.labels spec.template.annotations ms t
    (template_is spec.template.labels spec.template.annotations (object ms)) fine.labels fine.annotations sound in
    let schedule = schedule_row spec.schedule _ is.schedule fine.schedule in
    let policy = policy_row spec.policy _ is.policy in
    let suspend : fields.suspend s ≡ Ok spec.suspend = ap (or_default false truth) is.suspend in
    let deadline = deadline_row spec.starting_deadline_seconds _ is.deadline fine.deadline in
    let successful = limit_row 3 spec.successful_limit _ is.successful fine.successful in
    let failed = limit_row 1 spec.failed_limit _ is.failed fine.failed in
    let template : fields.job_template s ≡ Ok t = ap (required an_object) is.template in
    record {
      sound =
          no_faults _ _ (no_faults _ _
          (no_faults _ _ (no_faults _ _ (no_faults _ _
          (no_fault At.ScheduleText (fields.schedule s) (ap result_err schedule))
          (no_fault At.TimeZone (fields.time_zone zones s)
          (zone_row zones spec.time_zone _ is.time_zone fine.time_zone)))
          (no_fault At.ConcurrencyPolicy (fields.policy s) (ap result_err policy)))
          (no_fault At.Suspend (fields.suspend s) (ap result_err suspend)))
          (no_faults _ _ (no_faults _ _
          (no_fault At.StartingDeadlineSeconds (fields.deadline s) (ap result_err deadline))
          (no_fault At.SuccessfulJobsHistoryLimit (fields.successful_limit s) (ap result_err successful)))
          (no_fault At.FailedJobsHistoryLimit (fields.failed_limit s) (ap result_err failed))))
          (ap (with_fields At.JobTemplate template_faults) template ∙ inner.sound);
      template = template;
      job = inner.job;
      said = λ i. record {
        schedule = value_or [] (schedule i);
        time_zone = zone_said spec.time_zone _ is.time_zone i;
        policy = value_or Allow (policy i);
        suspend = value_or false (suspend i);
        starting_deadline_seconds = given (deadline i);
        successful_limit = value_or 0 (successful i);
        failed_limit = value_or 0 (failed i);
        template = record { labels = inner.labels i; annotations = inner.annotations i; spec = text i };
      };
      known = is.known;
      template_known = inner.known;
      inner_known = inner.inner;
    }
