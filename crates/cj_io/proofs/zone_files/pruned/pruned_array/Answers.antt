-- pruned_array: the bracket, and the items behind it.
use Rattle.std.proofs.Common.{◌≡◌, ◌∙◌, ◌∷◌, sym, ap, subst}
use Rattle.json.specs.Token.{Token}
use Rattle.json.specs.Reads.{token_of}
use Rattle.serde_json.specs.View.{items_view, view}
use Rattle.serde_json.specs.declared.value.Value.{Array}
use Rattle.serde_json.proofs.Views.{view-Array}
use Rattle.cj_io.specs.zone_files.Pruned.{BeginsLike}
use Rattle.cj_io.proofs.ZoneFilesLemmas.Pruned.{array_like}
use Rattle.cj_io.proofs.zone_files.pruned.pruned_array.Goals as goal

pub returns-clause-ok : goal.returns-clause-ok
returns-clause-ok c =
    let r = c.next.new.self in
    let end = c.pruned_items.new.reader in
    let found = c.in_ok-pruned_items in
    let any : c.args.reader.now ≡ token_of c.in-Some-BeginArray.field-0 ∷ r = c.in-Some-BeginArray.ensures.value in
    let first : c.args.reader.now ≡ Token.begin_array ∷ r =
    any ∙ ap (λ t. token_of t ∷ r) c.in-Some-BeginArray.field-0-is in
    subst (λ ts. BeginsLike 126 ts end (view (Array found.field-0))) (sym first)
    (array_like r end (items_view found.field-0.items) (view (Array found.field-0)) found.ensures.ok
    (view-Array found.field-0))
