-- list_audited: its ensures, from the findings of the list and what is told of them.
use Rattle.std.proofs.Common.{◌≡◌, ◌∙◌, ap, arith, map, rules, subst, subst₂, ℕ, List, string_bytes}
use Rattle.std.specs.FinMap as map_of
use Rattle.std.proofs.lemmas.Result.{IfOk-weaker}
use Rattle.cj_zone.specs.Table.{zones_of}
use Rattle.cj_audit.specs.Findings.{IsAudit}
use Rattle.cj_audit.specs.declared.finding.Finding.{Finding}
use Rattle.cj_cluster.specs.declared.kubectl.notes.ItemNote.{ItemNote}
use Rattle.cj_inspect.specs.Audit.{audited, seen, words_of}
use Rattle.cj_inspect.specs.Nights.{TellsNights}
use Rattle.cj_inspect.specs.declared.nights.look.Look.{Look}
use Rattle.cj_answers.specs.Outcome.{Outcome, explained, outcome_of}
use Rattle.cj_inspect.proofs.audit.list_audited.Goals as goal

pub returns : goal.returns
returns c =
    let list = c.args.list.now in
    let explain = c.args.audit_of.now.explain in
    let all = c.in_ok-all.all in
    let findings = seen c.args.since all in
    let printed = string_bytes c.in_ok-printed.printed in
    let base : outcome_of c.in_ok-answer.answer
    ≡ explained explain (words_of list findings) (audited list findings printed) = grind arith in
    IfOk-weaker c.with_clocks.result _ _ (λ a e. record {
      all = all;
      found = subst (λ (n : List ItemNote). IsAudit (zones_of c.args.zones.now) list.cluster n all)
          c.as_slice.ensures c.in_ok-all.ensures.ok;
      printed = printed;
      prints = search rules;
      nights = subst₂ (λ (l : Look) (b : Outcome). TellsNights explain (zones_of c.args.zones.now) l
          (map (λ x. x.cron) (map_of.values list.cluster.crons)) b (outcome_of a)) c.in_ok-look.ensures.ok base e;
    }) c.with_clocks.ensures
