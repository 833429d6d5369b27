-- The CronJobs of a cluster at a moment as JSON. The members of an object are in the order of their
-- names.
use Rattle.std.specs.Prelude.{ℕ, List, codes}
use Rattle.serde_json.specs.Data.{Data, array, object, member, no_members}
use Rattle.serde_json.specs.View.{items_of}
use Rattle.cj_cluster.specs.declared.kubectl.notes.ItemNote.{ItemNote}
use Rattle.cj_json.specs.Values.{time_data}
use Rattle.cj_audit.specs.Items.{others_data}
use Rattle.cj_explain.specs.RefusedItems.{refused_data}

abbrev pub why_object : Data → Data → Data → Data → Data → Data → Data
why_object calls clocks crons now others refused = object (
    member (codes "calls") calls (
    member (codes "clockChanges") clocks (
    member (codes "cronJobs") crons (
    member (codes "now") now (
    member (codes "others") others (
    member (codes "refused") refused no_members))))))

-- what each CronJob's next sync would write, what clocks do, what is known of each CronJob, the
-- moment, and the items that can't be used
-- rules: why-json, why-calls, json-faults
abbrev pub why_data : ℕ → List Data → Data → List Data → List ItemNote → Data
why_data now calls clocks crons notes =
    why_object (array (items_of calls)) clocks (array (items_of crons)) (time_data now)
    (others_data notes)
    (refused_data notes)
