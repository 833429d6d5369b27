-- job_key: its clause err, as a Job's key without a fault is refused for memory alone.
use Rattle.std.proofs.Common.{rules}
use Rattle.std.proofs.lemmas.Result.{IfErr-weaker}
use Rattle.serde_json.specs.View.{view}
use Rattle.cj_manifest.specs.declared.kind.ObjectKind.TheVariants as Of
use Rattle.cj_manifest.proofs.KeyLemmas.{memory_alone}
use Rattle.cj_manifest.proofs.draft.job_key.Goals as goal

pub returns-clause-err : goal.returns-clause-err
returns-clause-err c =
    IfErr-weaker c.new.result _ _ (λ e h. memory_alone Of.Job (view c.args.metadata.now) _ _ e c.requires (search rules)
    (search rules) h) c.new.ensures.err
