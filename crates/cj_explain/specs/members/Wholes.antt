-- The members of a scenario for a plan, of a script and of a run's scenario, in the order in which
-- they are looked at.
use Rattle.std.specs.Prelude.{List, [], codes, Ok}
use Rattle.serde_json.specs.Data.{Data}
use Rattle.cj_scenario.specs.declared.detection.form.Form.{Form}
use Rattle.cj_scenario.specs.declared.detection.form.Form.TheVariants as A
use Rattle.cj_explain.specs.declared.members.entries.Entry.TheVariants as Of
use Rattle.cj_explain.specs.declared.members.items.Item.TheVariants as In
use Rattle.cj_explain.specs.declared.members.want.Range.TheVariants as Range
use Rattle.cj_explain.specs.declared.members.want.Want.TheVariants as Want
use Rattle.cj_explain.specs.declared.members.want.Word.TheVariants as Word
use Rattle.cj_explain.specs.members.Items.{entries, items}
use Rattle.cj_explain.specs.members.Members.{Checked, both, may, must}

abbrev pub zones : Data → Checked
zones d = both (may [] d (codes "zones") Want.Object) (entries Of.Zone d (codes "zones"))

abbrev pub jobs : Data → Checked
jobs d = both (may [] d (codes "jobs") Want.List) (items In.Job d (codes "jobs"))

-- rule: explain-members
abbrev pub scenario : Data → Checked
scenario d =
    both (must [] d (codes "manifest") Want.Manifest)
    (both (must [] d (codes "created") (Want.Text Word.Time))
    (both (may [] d (codes "last") (Want.Text Word.Time))
    (both (jobs d) (zones d))))

abbrev pub limits : Data → Checked
limits d =
    both (may [] d (codes "history") (Want.Number Range.History))
    (may [] d (codes "window") (Want.Number Range.Window))

abbrev pub callers : Data → Checked
callers d = both (must [] d (codes "callers") Want.Object) (entries Of.Caller d (codes "callers"))

abbrev pub steps : Data → Checked
steps d = both (must [] d (codes "steps") Want.List) (items In.Step d (codes "steps"))

-- rule: explain-members
abbrev pub script : Data → Checked
script d = both (limits d) (both (callers d) (both (steps d) (zones d)))

abbrev pub span : Data → Checked
span d =
    both (must [] d (codes "start") (Want.Text Word.Time))
    (both (must [] d (codes "end") (Want.Text Word.Time))
    (may [] d (codes "stepSeconds") (Want.Number Range.Step)))

abbrev pub seeds : Data → Checked
seeds d = both (must [] d (codes "cronJobs") Want.List) (items In.Seed d (codes "cronJobs"))

abbrev pub runs : Data → Checked
runs d = both (may [] d (codes "runs") Want.Object) (entries Of.Runs d (codes "runs"))

abbrev pub edits : Data → Checked
edits d = both (may [] d (codes "edits") Want.List) (items In.Edit d (codes "edits"))

-- rule: explain-members
abbrev pub simulation : Data → Checked
simulation d = both (span d) (both (seeds d) (both (runs d) (both (edits d) (zones d))))

-- rule: explain-members
abbrev pub whole : Form → Data → Checked
whole A.Scenario d = scenario d
whole A.Script d = script d
whole A.Simulation d = simulation d
whole A.List d = Ok tt
whole A.Manifest d = Ok tt
whole A.Other d = Ok tt
