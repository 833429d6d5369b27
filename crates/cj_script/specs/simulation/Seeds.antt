-- The CronJobs that are there from the start, by their manifests.
use Rattle.std.specs.Prelude.{List, codes, option_and_then, Result}
use Rattle.serde_json.specs.Data.{Data}
use Rattle.serde_json.specs.Find.{as_array}
use Rattle.cj_types.specs.declared.cron.CronJobDraft.{CronJobDraft}
use Rattle.cj_zone.specs.declared.zone.Zone.{Zone}
use Rattle.cj_manifest.specs.Members.{present, unless_null}
use Rattle.cj_scenario.specs.declared.fault.SceneFault.{SceneFault}
use Rattle.cj_script.specs.Drafts.{cron_said, needed, then}
use Rattle.cj_script.specs.Lists.{all_of}

-- a manifest, which isn't null
-- rule: run-form
abbrev pub seed_of : List Zone → Data → Result CronJobDraft SceneFault
seed_of zones d = then (needed (unless_null d)) (cron_said zones)

-- a list that must be there
-- rule: run-form
abbrev pub crons_in : List Zone → Data → Result (List CronJobDraft) SceneFault
crons_in zones d = then (needed (option_and_then as_array (present (codes "cronJobs") d)))
    (all_of (seed_of zones))
