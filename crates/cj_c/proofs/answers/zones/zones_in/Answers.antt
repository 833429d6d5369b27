-- zones_in: its clauses ok and err, from those of table_of for the object that the bytes are.
use Rattle.std.proofs.lemmas.Result.{IfOk-weaker, IfErr-weaker}
use Rattle.std.specs.Prelude.{Some}
use Rattle.serde_json.specs.View.{view}
use Rattle.cj_c.proofs.ZonesTold.{none_for}
use Rattle.cj_c.proofs.answers.zones.zones_in.Goals as goal

pub returns-clause-ok : goal.returns-clause-ok
returns-clause-ok c = IfOk-weaker c.table_of.result _ _
    (λ t are. record {
      given = c.args.given;
      bare = c.requires;
      object = Some
          (view c.in_ok-value.value);
      is_object = c.in_ok-value.ensures.reads;
      are = are;
    })
    c.table_of.ensures.ok

pub returns-clause-err : goal.returns-clause-err
returns-clause-err c = IfErr-weaker c.table_of.result _ _
    (λ e why. none_for c.args.bytes.now _ e (λ none. record {
      given = c.args.given;
      bare = c.requires;
      object = Some
          (view c.in_ok-value.value);
      is_object = c.in_ok-value.ensures.reads;
      none = none;
    }) why)
    c.table_of.ensures.refused
