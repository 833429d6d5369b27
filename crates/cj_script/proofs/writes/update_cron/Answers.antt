-- update_cron: what cron_said requires, that the manifest nests no deeper than JSON may.
use Rattle.std.proofs.Common.{codes, sym}
use Rattle.serde_json.specs.Read.{max_depth}
use Rattle.serde_json.specs.View.{view}
use Rattle.cj_scenario.proofs.Depth.{depth-present}
use Rattle.cj_script.proofs.writes.update_cron.Goals as goal

pub cron_said-requires : goal.cron_said-requires
cron_said-requires c = record {
  flat = depth-present (codes "object") (view c.args.value.now) (view c.in-Some.manifest.now) max_depth c.requires.flat
      (sym c.in-Some.ensures);
}
