-- sentence: its ensures, where there is memory.
use Rattle.std.proofs.Common.{◌∙◌, ap, sym, subst, inl, ℕ, List, ◌++◌, codes}
use Rattle.cj_explain.specs.Schedules.{IsExplained}
use Rattle.cj_c.proofs.Lines.{line_of}
use Rattle.cj_c.proofs.answers.fault_text.sentence.Goals as goal

pub returns-in-Ok : goal.returns-in-Ok
returns-in-Ok c = λ told is.
    let split = line_of c.args.schedule.now c.args.fault _ c.in-Ok.ensures in
    let same = c.without_end.ensures split.0 (c.as_bytes.ensures.value ∙ split.1) in
    inl (
      c.without_end.result.now,
      record {
        fault = c.args.fault;
        is = is;
        explained =
            subst (λ (line : List ℕ). IsExplained c.args.schedule.now c.args.fault line)
            (split.1 ∙ ap (λ (text : List ℕ). text ++ codes "\n") (sym same)) c.in-Ok.ensures;
      },
      c.give.ensures,
    )
