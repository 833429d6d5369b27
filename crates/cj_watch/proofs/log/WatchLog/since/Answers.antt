-- WatchLog::since: its clauses ok and numbered, where the version is served.
use Rattle.std.proofs.Common.{◌≡◌, ◌∙◌, take, drop, ◌-◌, List, Ok, ap, sym, subst}
use Rattle.std.proofs.lemmas.Result.{IfOk-weaker}
use Rattle.cj_types.specs.declared.event.Event.{Event}
use Rattle.cj_watch.specs.Log.{Log, IsWindow, since}
use Rattle.cj_watch.specs.Numbers.{IsNumbered}
use Rattle.cj_watch.proofs.Logs.{told, told_numbered}
use Rattle.cj_watch.proofs.log.WatchLog.since.Goals as goal

pub returns-clause-ok : goal.returns-clause-ok
returns-clause-ok c =
    let log = c.args.self.now in
    let start = c.place_after-start.result in
    let end = c.end_after-end.result in
    let kept = subst (λ (l : Log). IsWindow l) c.self.view_is c.self.invariant in
    let items = ap (λ (l : Log). take (end - start) (drop start l.kept)) c.self.view_is in
    let answer = told log c.args.version c.args.max start end kept (sym c.is_gone.ensures ∙ c.if-is_gone.false)
    c.place_after-start.ensures c.end_after-end.ensures in
    IfOk-weaker c.new.result (λ l. l ≡ c.in_ok-copy_range.field-0.items)
    (λ l. since log c.args.version c.args.max ≡ Ok l)
    (λ l e. answer ∙ ap (λ (es : List Event). Ok es) (sym (e ∙ c.in_ok-copy_range.ensures.ok ∙ items))) c.new.ensures.ok

pub returns-clause-numbered : goal.returns-clause-numbered
returns-clause-numbered c =
    let log = c.args.self.now in
    let kept = subst (λ (l : Log). IsWindow l) c.self.view_is c.self.invariant in
    IfOk-weaker c.new.result (λ l. since log c.args.version c.args.max ≡ Ok l) (λ l. IsNumbered c.args.version l)
    (λ l e. told_numbered log c.args.version c.args.max l kept e) (returns-clause-ok c)
