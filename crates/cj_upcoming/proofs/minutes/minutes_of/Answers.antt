-- minutes_of: its clause within, by the definition of the minutes.
use Rattle.std.proofs.Common.{sym, subst}
use Rattle.std.specs.List.{All}
use Rattle.std.proofs.lemmas.Result.{IfOk-weaker}
use Rattle.cj_upcoming.specs.Minutes.{IsWithin}
use Rattle.cj_upcoming.proofs.Within.{minutes_within}
use Rattle.cj_upcoming.proofs.minutes.minutes_of.Goals as goal

pub returns-clause-within : goal.returns-clause-within
returns-clause-within c =
    IfOk-weaker c.grouped.result _ _
    (λ v e. subst (λ ms. All (IsWithin c.args.starts.now) ms) (sym e) (minutes_within c.args.starts.now))
    c.grouped.ensures
