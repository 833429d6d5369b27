-- The parts of a scenario, with its manifest still as a value.
use Rattle.serde_json.specs.View.{view}
use Rattle.cj_zone.specs.Table.{zones_of}
use Rattle.cj_scenario.specs.declared.form.Parts.{Parts}
use Rattle.cj_scenario.specs.Scenes.{Form}

abbrev pub form_of : Parts → Form
form_of p = record {
  zones = zones_of p.zones;
  manifest = view p.manifest.now;
  created = p.created;
  last = p.last;
  jobs = p.jobs.items;
}
