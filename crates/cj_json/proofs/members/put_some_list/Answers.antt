-- put_some_list: its clause ok, where the list has an item and is put in.
use Rattle.std.proofs.Common.{◌≡◌, ℕ, Bool, true, false, ◌==◌, List, [], ◌∷◌, length, map, refl, ap, ◌∙◌}
use Rattle.std.proofs.lemmas.Result.{on_ok_weaker}
use Rattle.serde_json.specs.Data.{Members, put, array}
use Rattle.serde_json.specs.View.{view, items_view, members_view}
use Rattle.serde_json.specs.declared.value.Value.{Value}
use Rattle.serde_json.proofs.Views.{view-Array}
use Rattle.cj_json.specs.Parts.{put_some_list}
use Rattle.cj_json.proofs.members.put_some_list.Goals as goal

-- A list that isn't empty is put in.
some_there : (name : List ℕ) (vs : List Value) (ms : Members) (n : ℕ) (b : Bool)
    → n ≡ length vs → b ≡ (n == 0) → b ≡ false → put name (array (items_view vs)) ms
    ≡ put_some_list name (map view vs) ms
some_there name [] ms n b l h f = let t : b ≡ true = h ∙ ap (λ k. k == 0) l in absurd (cc (t, f))
some_there name (v ∷ vs) ms n b l h f = refl

pub returns-clause-ok : goal.returns-clause-ok
returns-clause-ok c =
    let name = c.args.name.now in
    let items = c.args.items in
    let old = members_view c.args.members.now.entries in
    on_ok_weaker c.put_value.result (λ e. e ∙ ap (λ d. put name d old) (view-Array items)
    ∙ some_there name items.items old items.len c.is_empty.result items.ok.0 c.is_empty.ensures c.if-is_empty.false)
    c.put_value.ensures.ok
