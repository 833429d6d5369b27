-- pruned_text: the brace, the members behind it, and nothing more.
use Rattle.std.proofs.Common.{◌≡◌, ◌∙◌, [], ◌∷◌, sym, ap, subst}
use Rattle.json.specs.Token.{Token}
use Rattle.json.specs.Lex.{tokens}
use Rattle.json.specs.Reads.{token_of}
use Rattle.serde_json.specs.View.{members_view, view}
use Rattle.serde_json.specs.declared.value.Value.{Object}
use Rattle.serde_json.proofs.Views.{view-Object}
use Rattle.cj_io.specs.zone_files.Pruned.{BeginsMembersLike}
use Rattle.cj_io.proofs.ZoneFilesLemmas.Pruned.{none_left, text_like}
use Rattle.cj_io.proofs.zone_files.pruned.pruned_text.Goals as goal

pub returns : goal.returns
returns c =
    let ts = c.next.new.self in
    let left = c.pruned_members.new.reader in
    let found = c.in_ok-members in
    let kept = members_view found.members.entries in
    let any : c.in_ok-reader.reader ≡ token_of c.in-Some-BeginObject.field-0 ∷ ts =
    c.in-Some-BeginObject.ensures.value in
    let first : tokens c.args.text.now ≡ Token.begin_object ∷ ts =
    sym c.in_ok-reader.ensures.ok ∙ any ∙ ap (λ t. token_of t ∷ ts) c.in-Some-BeginObject.field-0-is in
    let none : left ≡ [] =
    none_left left c.next-2.new.self c.next-2.result c.next-2.ensures.value
    (sym c.is_some.ensures ∙ c.if-is_some.false) in
    let behind : BeginsMembersLike 126 ts [] kept =
    subst (λ rest. BeginsMembersLike 126 ts rest kept) none found.ensures.ok in
    record {
      ok = text_like c.args.text.now ts kept (view (Object found.members)) first behind (view-Object found.members);
    }
