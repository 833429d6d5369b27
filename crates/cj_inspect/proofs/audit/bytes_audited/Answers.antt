-- bytes_audited: its ensures, where the bytes are a list.
use Rattle.std.proofs.Common.{inr}
use Rattle.std.proofs.lemmas.Result.{IfOk-weaker}
use Rattle.cj_inspect.proofs.audit.bytes_audited.Goals as goal

pub returns-in-Ok : goal.returns-in-Ok
returns-in-Ok c =
    IfOk-weaker c.whole_audited.result _ _
    (λ a h. inr (record { whole = c.in-Ok.list; read = c.in-Ok.ensures.read; audited_is = h }))
    c.whole_audited.ensures
