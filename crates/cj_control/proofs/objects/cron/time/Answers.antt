-- time: its one clause, where the text prints no instant.
use Rattle.std.proofs.Common.{◌≡◌, List, ℕ, Option, Some, Err, refl, subst, rules}
use Rattle.serde_json.specs.Find.{as_str}
use Rattle.serde_json.specs.View.{view}
use Rattle.cj_base.specs.declared.cause.Cause.TheVariants as Why
use Rattle.cj_cluster.specs.kubectl.Instants.{IsNoInstant}
use Rattle.cj_cluster.specs.kubectl.Rows.{IsTimeRow}
use Rattle.cj_control.proofs.objects.cron.time.Goals as goal

-- A text that prints no instant is badly formed.
badly_formed : (o : Option (List ℕ)) (text : List ℕ) → Some text ≡ o → IsNoInstant text → IsTimeRow o (Err Why.Format)
badly_formed o text is none = subst (λ x. IsTimeRow x (Err Why.Format)) is (refl, none)

pub returns-in-None-read_instant : goal.returns-in-None-read_instant
returns-in-None-read_instant c =
    let is : Some c.in-Some.text.now ≡ as_str (view c.args.value.now) = search rules in
    badly_formed (as_str (view c.args.value.now)) c.in-Some.text.now is
    (λ t i. cc (c.in-None-read_instant.ensures.only t i))
