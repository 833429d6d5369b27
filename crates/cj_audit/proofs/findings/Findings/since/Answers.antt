-- Findings::since: its clause, by the calls of the test that ran.
use Rattle.std.proofs.Common.{rules, ap, ◌∙◌}
use Rattle.std.specs.List.{filter}
use Rattle.std.proofs.lemmas.Fn.{filter_same}
use Rattle.cj_audit.specs.Since.{is_since}
use Rattle.cj_audit.proofs.findings.Findings.since.Goals as goal

pub returns : goal.returns
returns c =
    filter_same _ _ _ (λ x b f' k. search rules) _ _ c.retain.ensures.filtered
    ∙ ap (filter (is_since c.args.first)) c.self.view_is
