-- put_some_object: its clause ok, where the object has a member and is put in.
use Rattle.std.proofs.Common.{◌≡◌, ℕ, Bool, true, false, List, [], ◌∷◌, length, refl, ap, ◌∙◌}
use Rattle.std.specs.Prelude.{IsTrue, ◌↔◌, String}
use Rattle.std.specs.Global.{Global}
use Rattle.std.proofs.lemmas.Result.{on_ok_weaker}
use Rattle.serde_json.specs.Data.{Members, put, object}
use Rattle.serde_json.specs.View.{members_view}
use Rattle.serde_json.specs.declared.value.Value.{Value}
use Rattle.serde_json.proofs.Views.{view-Object}
use Rattle.cj_json.specs.Parts.{put_some_object}
use Rattle.cj_json.proofs.members.put_some_object.Goals as goal

-- An object that isn't empty is put in.
some_there : (name : List ℕ) (es : List (String Global × Value)) (ms : Members) (b : Bool)
    → (IsTrue b ↔ (length es ≡ 0)) → b ≡ false → put name (object (members_view es)) ms
    ≡ put_some_object name (members_view es) ms
some_there name [] ms b h f = let t : b ≡ true = h.1 refl in absurd (cc (t, f))
some_there name (e ∷ es) ms b h f = refl

pub returns-clause-ok : goal.returns-clause-ok
returns-clause-ok c =
    let name = c.args.name.now in
    let inner = c.args.inner in
    let old = members_view c.args.members.now.entries in
    on_ok_weaker c.put_value.result (λ e. e ∙ ap (λ d. put name d old) (view-Object inner)
    ∙ some_there name inner.entries old c.is_empty.result c.is_empty.ensures c.if-is_empty.false)
    c.put_value.ensures.ok
