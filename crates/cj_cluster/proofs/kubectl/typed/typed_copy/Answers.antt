-- typed_copy: its clause flat, as a kind and a version nest nothing.
use Rattle.std.proofs.Common.{◌≡◌, option_map, rules}
use Rattle.std.proofs.lemmas.Result.{IfOk-weaker}
use Rattle.serde_json.specs.View.{view}
use Rattle.cj_cluster.proofs.KubectlLemmas.ListLemmas.{copy_flat}
use Rattle.cj_cluster.proofs.kubectl.typed.typed_copy.Goals as goal

pub returns-clause-flat : goal.returns-clause-flat
returns-clause-flat c =
    let copied : view c.in_ok-copy.copy ≡ view c.args.value.now = search rules in
    IfOk-weaker c.with_text.result _ _
    (λ v is. copy_flat c.args.kind.now (option_map (λ s. s.now) c.args.version) (view c.args.value.now)
    (view c.in_ok-copy.copy) (view c.in_ok-versioned.versioned) (view v) copied c.in_ok-versioned.ensures.ok is)
    c.with_text.ensures.ok
