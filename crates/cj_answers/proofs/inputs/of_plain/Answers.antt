-- of_plain: its clause where the documents are taken.
use Rattle.std.proofs.Common.{◌≡◌, inl, inr, rules}
use Rattle.std.proofs.lemmas.Result.{IfOk-weaker}
use Rattle.cj_manifest.specs.Reading.{IsNoValue}
use Rattle.cj_yaml.specs.ReadOf.{IsReadOf, values}
use Rattle.cj_answers.specs.Json.{shape_of}
use Rattle.cj_answers.specs.declared.json.TextShape.TheVariants.{Plain}
use Rattle.cj_answers.proofs.inputs.of_plain.Goals as goal

pub returns-then-any : goal.returns-then-any
returns-then-any c =
    let asked : IsNoValue c.args.bytes.items × (shape_of c.args.bytes.items ≡ Plain) = search rules in
    let read : IsReadOf c.args.bytes.items (values c.in-Ok.documents.items) = search rules in
    IfOk-weaker c.of_documents.result _ _
    (λ t h.
    inr (inl (record {
      none = asked.0;
      shape = asked.1;
      found = values c.in-Ok.documents.items;
      documents = read;
      value = h.0;
      for_them = h.1;
      text = h.2;
    }))) c.of_documents.ensures
