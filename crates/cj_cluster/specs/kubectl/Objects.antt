-- The objects that are made of what is read, numbered by their places in the list, from 1.
use Rattle.std.specs.Prelude.{ℕ, List, [], codes, map, Option, Some, None}
use Rattle.cj_types.specs.declared.cron.CronJobDraft.{CronJobDraft}
use Rattle.cj_types.specs.declared.job.Job.{Job}
use Rattle.cj_types.specs.declared.meta.Meta.{Meta}
use Rattle.cj_types.specs.declared.policy.Outcome.{Outcome}
use Rattle.cj_types.specs.declared.policy.Outcome.TheVariants.{Complete, Failed}
use Rattle.cj_cluster.specs.declared.cron.ClusterCron.{ClusterCron}
use Rattle.cj_cluster.specs.declared.cron.CronMarks.{CronMarks}
use Rattle.cj_manifest.specs.declared.head.JobHead.{JobHead}
use Rattle.cj_cluster.specs.declared.kubectl.conditions.Ending.{Ending}
use Rattle.cj_cluster.specs.declared.kubectl.conditions.Ending.TheVariants.{Success, Failure}
use Rattle.cj_cluster.specs.kubectl.Owners.{in_group}
use Rattle.cj_cluster.specs.kubectl.Rows.{Finish}

abbrev pub meta_made : ℕ → ℕ → List (List ℕ × List ℕ) → List (List ℕ × List ℕ) → Meta
meta_made place created labels annotations = record {
  uid = place;
  version = place;
  generation = 1;
  created = created;
  labels = labels;
  annotations = annotations;
}

-- a CronJob as its server says it: its uid is a text, so it has its place for a number
-- rule: cluster-cron
abbrev pub cron_made : ℕ → CronJobDraft → List ℕ → ℕ → List (List ℕ) → Option ℕ → Option ℕ
    → CronMarks → ClusterCron
cron_made place draft uid created names last success marks = record {
  uid = uid;
  marks = marks;
  cron = record {
    key = draft.key;
    meta = meta_made place created draft.meta.labels draft.meta.annotations;
    spec = draft.spec;
    status = record { active = names; last_schedule_time = last; last_successful_time = success };
  };
}

-- how a Job ended, at that time
abbrev pub outcome_at : Ending → ℕ → Outcome
outcome_at Success time = Complete time
outcome_at Failure time = Failed

abbrev pub outcome_of : Option Finish → Option ℕ → Option Outcome
outcome_of None ended = None
outcome_of (Some finish) None = None
outcome_of (Some finish) (Some time) = Some (outcome_at finish.ending time)

-- a Job, whose spec isn't read
-- rule: cluster-job
abbrev pub job_made : ℕ → JobHead → ℕ → Option Outcome → Job
job_made place head created outcome = record {
  key = head.key;
  meta = meta_made place created [] [];
  owners = map in_group head.owners;
  spec = codes "{}";
  outcome = outcome;
}
