-- remark: its ensures, since the gaps that were found are put in order.
use Rattle.std.proofs.Common.{◌∙◌, ap, subst, string_bytes, ℕ, List}
use Rattle.std.proofs.lemmas.Result.{IfOk-weaker}
use Rattle.cj_program.specs.remarks.Remarks.{HasNights, remark_words}
use Rattle.cj_program.proofs.remarks.whole.remark.Goals as goal

pub returns : goal.returns
returns c =
    IfOk-weaker c.with_nights.result _ _ (λ s has. record {
      gaps = c.in_ok-gaps.gaps.items;
      are = c.in_ok-gaps.ensures.ok;
      said = subst (λ (t : List ℕ). HasNights c.args.span.now c.args.zones.now c.args.closed.now t (string_bytes s))
          (c.in_ok-text.ensures ∙ ap (remark_words c.args.most c.args.span.now c.args.closed.now)
          (c.as_slice.ensures.value ∙ c.in_ok-sort.ensures.ok)) has;
    })
    c.with_nights.ensures
