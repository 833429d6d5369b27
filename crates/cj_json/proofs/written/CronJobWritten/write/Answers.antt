-- CronJob::write: its clause ok, for which the value that is written must have no float.
use Rattle.std.proofs.Common.{Some, option_map, sym, ap, ◌∙◌}
use Rattle.serde_json.specs.View.{view}
use Rattle.serde_json.specs.Written.{compact_text}
use Rattle.cj_json.proofs.Plain.{cron_written_plain}
use Rattle.cj_json.proofs.written.CronJobWritten.write.Goals as goal

pub returns-clause-ok : goal.returns-clause-ok
returns-clause-ok c =
    let d = view c.in_ok-value.value in
    ap (option_map compact_text) c.in_ok-value.ensures.ok
    ∙ ap Some (sym (c.in_ok-to_string.ensures.text (cron_written_plain c.args.self.now d c.in_ok-value.ensures.ok)))
