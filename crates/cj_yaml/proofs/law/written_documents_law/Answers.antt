-- written_documents_law: what else is read is the same.
use Rattle.std.proofs.lemmas.Result.{IfOk-weaker}
use Rattle.cj_yaml.proofs.law.written_documents_law.Goals as goal

pub returns : goal.returns
returns g c once =
    IfOk-weaker c.write_for.result _ _
    (λ text given found other. once _ found _ other given) c.write_for.ensures.reads_back
