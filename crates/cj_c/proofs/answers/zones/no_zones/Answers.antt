-- no_zones: its clauses ok and err, from those of table_of where there is no object.
use Rattle.std.proofs.Common.{refl}
use Rattle.std.proofs.lemmas.Result.{IfOk-weaker, IfErr-weaker}
use Rattle.std.specs.Prelude.{[], None}
use Rattle.cj_c.proofs.ZonesTold.{none_for}
use Rattle.cj_c.proofs.answers.zones.no_zones.Goals as goal

pub returns-clause-ok : goal.returns-clause-ok
returns-clause-ok c = IfOk-weaker c.table_of.result _ _
    (λ t are. record { given = c.args.given; bare = c.requires; object = None; is_object = refl; are = are })
    c.table_of.ensures.ok

pub returns-clause-err : goal.returns-clause-err
returns-clause-err c = IfErr-weaker c.table_of.result _ _
    (λ e why. none_for [] _ e (λ none. record {
      given = c.args.given;
      bare = c.requires;
      object = None;
      is_object =
          refl;
      none = none;
    }) why)
    c.table_of.ensures.refused
