-- part_audited: its ensures, from the part of the list that is asked about, and what is told beside it.
use Rattle.std.proofs.Common.{◌≡◌, rules, subst, ℕ, Bool, Bor, List, false}
use Rattle.cj_answers.specs.Outcome.{outcome_of}
use Rattle.cj_inspect.specs.Audit.{within_of}
use Rattle.cj_inspect.specs.Narrowing.{IsPart, is_everything}
use Rattle.cj_inspect.specs.Why.{IsNoticed, has_home}
use Rattle.cj_inspect.proofs.audit.part_audited.Goals as goal

pub returns : goal.returns
returns c =
    let home : c.has_home-home.result ≡ has_home (within_of c.args.audit.now) c.args.whole = search rules in
    record {
      list = c.in_ok-list.list;
      part = subst (λ (texts : List (Bor (List ℕ))).
          IsPart (is_everything (within_of c.args.audit.now) texts) c.args.whole c.in_ok-list.list)
          c.as_slice-2.ensures.value c.in_ok-list.ensures;
      base = outcome_of c.in_ok-answer.answer;
      audits = c.in_ok-answer.ensures;
      notices = subst (λ (b : Bool). IsNoticed b false (outcome_of c.in_ok-answer.answer)
          (outcome_of c.in_ok-with_home_notice.field-0)) home c.in_ok-with_home_notice.ensures.ok;
    }
