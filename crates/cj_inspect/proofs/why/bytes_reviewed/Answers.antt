-- bytes_reviewed: its ensures where the bytes are a list, from what is answered of that.
use Rattle.std.proofs.Common.{inr, subst}
use Rattle.std.proofs.lemmas.Result.{IfOk-weaker}
use Rattle.cj_zone.specs.Table.{zones_of}
use Rattle.cj_answers.specs.Outcome.{outcome_of}
use Rattle.cj_inspect.specs.Why.{IsListReviewed}
use Rattle.cj_inspect.proofs.why.bytes_reviewed.Goals as goal

pub returns-in-Ok : goal.returns-in-Ok
returns-in-Ok c =
    IfOk-weaker c.list_reviewed.result _ _
    (λ a h. inr (record {
      list = c.in-Ok.list;
      read = c.in-Ok.ensures.read;
      reviewed =
          subst (λ list. IsListReviewed c.args.why.now (zones_of c.args.zones.now) c.args.now list (outcome_of a))
          c.narrowed-list.ensures h;
    })) c.list_reviewed.ensures
