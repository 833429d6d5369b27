-- What a text of JSON is: an object of Kubernetes by its `kind`, else an input of this program by a
-- member that only it has.
use Rattle.std.specs.Prelude.{ℕ, List, [], codes, bytes_eq, Bool, true, ◌||◌, Option, Some, None, is_some, option_and_then, if◌then◌else◌}
use Rattle.serde_json.specs.Data.{Data}
use Rattle.serde_json.specs.Find.{as_str, get}
use Rattle.cj_scenario.specs.declared.detection.form.Form.{Form}
use Rattle.cj_scenario.specs.declared.detection.form.Form.TheVariants as A

abbrev pub is_list : List ℕ → Bool
is_list kind = bytes_eq kind (codes "List") || bytes_eq kind (codes "CronJobList")
    || bytes_eq kind (codes "JobList")

abbrev pub is_object : List ℕ → Bool
is_object kind = bytes_eq kind (codes "CronJob") || bytes_eq kind (codes "Job")

abbrev pub form_by_kind : List ℕ → Form
form_by_kind kind = if is_list kind then A.List else if is_object kind then A.Manifest else A.Other

abbrev pub has : List ℕ → Data → Bool
has name d = is_some (get name d)

abbrev pub form_by_member : Data → Form
form_by_member d =
    if has (codes "steps") d then A.Script else if has (codes "cronJobs") d then A.Simulation
    else if has (codes "manifest") d then A.Scenario else A.Other

abbrev pub kind_in : Data → Option (List ℕ)
kind_in d = option_and_then as_str (get (codes "kind") d)

abbrev pub form_by : Option (List ℕ) → Data → Form
form_by (Some kind) d = form_by_kind kind
form_by None d = form_by_member d

-- by its `kind` where that is a text, else by its members
-- rule: explain-input
abbrev pub form_of : Data → Form
form_of d = form_by (kind_in d) d

-- what such a text is for
-- rule: explain-input
abbrev pub form_words : Form → List ℕ
form_words A.List = codes "FILE: a list, whose items cronsim check, why, upcoming and audit take; cronsim scenario makes a scenario of it\n"
form_words A.Manifest = codes "FILE: a manifest, which cronsim check and upcoming take; cronsim scenario makes a scenario of it\n"
form_words A.Scenario = codes "FILE: a scenario, which cronsim plan takes\n"
form_words A.Script = codes "FILE: a script, which cronsim replay takes\n"
form_words A.Simulation = codes "FILE: a scenario of a run, which cronsim run takes\n"
form_words A.Other = []

-- of what form it has to be, where a command wants one
-- rule: explain
abbrev pub wanted_words : Form → List ℕ
wanted_words A.List = []
wanted_words A.Manifest = []
wanted_words A.Scenario = codes "FILE: want an object with manifest and created, and perhaps last, jobs and zones, as docs/examples/replace.json\n"
wanted_words A.Script = codes "FILE: want an object with callers and steps, and perhaps zones, history and window, as docs/examples/made-anew.json\n"
wanted_words A.Simulation = codes "FILE: want an object with start, end and cronJobs, and perhaps stepSeconds, runs, edits and zones, as docs/examples/forbid.json\n"
wanted_words A.Other = []

-- the members that a scenario and a script have; all others count as read
-- rule: explain-ignored
abbrev pub knows : Form → List ℕ → Bool
knows A.List k = true
knows A.Manifest k = true
knows A.Scenario k =
    bytes_eq k (codes "manifest") || bytes_eq k (codes "created") || bytes_eq k (codes "last")
    || bytes_eq k (codes "jobs") || bytes_eq k (codes "zones")
knows A.Script k =
    bytes_eq k (codes "callers") || bytes_eq k (codes "steps") || bytes_eq k (codes "zones")
    || bytes_eq k (codes "history") || bytes_eq k (codes "window")
knows A.Simulation k =
    bytes_eq k (codes "start") || bytes_eq k (codes "end") || bytes_eq k (codes "stepSeconds")
    || bytes_eq k (codes "cronJobs") || bytes_eq k (codes "runs") || bytes_eq k (codes "edits")
    || bytes_eq k (codes "zones")
knows A.Other k = true
