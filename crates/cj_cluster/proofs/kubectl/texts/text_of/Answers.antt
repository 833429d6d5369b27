-- text_of: its clause ok, as what is written reads back, and is UTF-8.
use Rattle.std.proofs.Common.{subst, sym}
use Rattle.std.proofs.lemmas.Str.{IsUtf8-string_bytes}
use Rattle.serde_json.specs.View.{view}
use Rattle.cj_manifest.specs.Reading.{Reads}
use Rattle.cj_cluster.proofs.kubectl.texts.text_of.Goals as goal

pub returns-clause-ok : goal.returns-clause-ok
returns-clause-ok c =
    subst (λ t. Reads t (view c.args.value.now)) (sym c.from_string.ensures)
    (IsUtf8-string_bytes c.in_ok-text.text, c.in_ok-text.ensures.reads_back c.requires)
