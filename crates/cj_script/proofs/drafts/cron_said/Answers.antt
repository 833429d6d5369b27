-- cron_said: its clause ok, and its clause err where the manifest has faults.
use Rattle.std.proofs.Common.{◌≡◌, ◌≢◌, ◌∙◌, Ok, Err, ap, sym}
use Rattle.serde_json.specs.View.{view}
use Rattle.cj_zone.specs.Table.{zones_of}
use Rattle.cj_scenario.specs.declared.fault.SceneFault.TheVariants.{Memory}
use Rattle.cj_script.specs.Drafts.{cron_said}
use Rattle.cj_script.proofs.Drafted.{cron_faulty, cron_fine, moved}
use Rattle.cj_script.proofs.drafts.cron_said.Goals as goal

pub returns-in_err-draft-clause-err : goal.returns-in_err-draft-clause-err
returns-in_err-draft-clause-err c =
    let zones = zones_of c.args.zones.now in
    let m = view c.args.manifest.now in
    moved c.from_residual.result c.in_err-draft.field-0.0 (λ e. e ≢ Memory → cron_said zones m ≡ Err e)
    c.from_residual.ensures.1 (cron_faulty zones m c.in_err-draft.field-0.0 c.in_err-draft.ensures.refused)

pub returns-clause-ok : goal.returns-clause-ok
returns-clause-ok c =
    cron_fine (zones_of c.args.zones.now) (view c.args.manifest.now) c.in_ok-draft.draft c.in_ok-draft.ensures.sound
    c.in_ok-draft.ensures.said
    ∙ ap (λ x. Ok x) (sym c.in_ok-new.ensures.ok)
