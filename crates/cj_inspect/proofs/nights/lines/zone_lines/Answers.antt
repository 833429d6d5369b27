-- zone_lines: its clause ok where a zone has the name.
use Rattle.std.proofs.Common.{◌∙◌, string_bytes, subst}
use Rattle.std.proofs.lemmas.Result.{IfOk-weaker}
use Rattle.std.specs.Prelude.{codes}
use Rattle.cj_zone.specs.Zones.{utc_zone}
use Rattle.cj_upcoming.specs.Changes.{changes}
use Rattle.cj_upcoming.specs.Named.{AreNamedLines}
use Rattle.cj_answers.proofs.Comes.{zone_same}
use Rattle.cj_inspect.proofs.nights.lines.zone_lines.Goals as goal

pub returns-in-Some-clause-ok : goal.returns-in-Some-clause-ok
returns-in-Some-clause-ok c =
    IfOk-weaker c.text_lines.result _ _
    (λ s h. record {
      says = λ sets zone said known.
          subst (λ z. AreNamedLines sets z (utc_zone (codes "UTC")) (changes z c.args.after c.args.last) (string_bytes s))
          (zone_same c.in-Some.zone.now zone (c.in-Some.ensures.found ∙ known)) (h sets said);
    }) c.text_lines.ensures.ok
