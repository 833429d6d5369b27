-- end_share: its clause ended, where a call isn't entered, and its loop's invariant.
use Rattle.std.proofs.Common.{◌≡◌, ℕ, ◌++◌, ◌∷◌, [], ◌∙◌, List, ap, sym, append_assoc}
use Rattle.std.specs.Vec.Iter.{into_iter_items}
use Rattle.cj_calls.specs.declared.call.Call.{Call}
use Rattle.cj_hub.specs.declared.receipt.Receipt.{Receipt}
use Rattle.cj_runner.specs.Dues.{due_ends}
use Rattle.cj_runner.specs.Ends.{calls_of}
use Rattle.cj_runner.specs.declared.running.Running.{Running}
use Rattle.cj_runner.proofs.Calls.{due-append, due_yes, due_no, keeps_more, told_more, calls_more}
use Rattle.cj_runner.proofs.ending.end_share.Goals as goal

-- For the loop: with one Job more gone through, those gone through and those to come are still all.
left_over : (yielded before after all : List Running) (one : Running) → yielded ++ before ≡ all → before ≡ one ∷ after
    → (yielded ++ one ∷ []) ++ after ≡ all
left_over yielded before after all one is step = append_assoc yielded (one ∷ []) after
    ∙ ap (λ rs. yielded ++ rs) (sym step) ∙ is

-- For the clause ended: the ends due are the calls of the receipts and those due among the Jobs to
-- come.
due_left : (now : ℕ) (yielded left all : List Running) (before rs : List Receipt) → yielded ++ left ≡ all
    → calls_of before ≡ due_ends now yielded → rs ≡ before → due_ends now all ≡ calls_of rs ++ due_ends now left
due_left now yielded left all before rs is calls same =
    ap (λ (xs : List Running). due_ends now xs) (sym is) ∙ due-append now yielded left
    ∙ ap (λ (cs : List Call). cs ++ due_ends now left) (sym calls)
    ∙ ap (λ (xs : List Receipt). calls_of xs ++ due_ends now left) (sym same)

pub returns-in-Err-clause-ended : goal.returns-in-Err-clause-ended
returns-in-Err-clause-ended g c = record {
  rest = due_ends c.args.now (into_iter_items c.loop-one.one-iterator);
  due =
      due_left c.args.now c.loop-one.yielded (into_iter_items c.loop-one.one-iterator) c.args.running.items
      c.loop-one.receipts.items c.end_one.new.receipts.items c.loop-one.invariant.left
      c.loop-one.invariant.calls c.in-Err.ensures.same.1;
  all = tt;
}

pub loop-one-preserved : goal.loop-one-preserved
loop-one-preserved g c = record {
  left = left_over c.loop-one.yielded _ _ _ c.in-Some.one c.loop-one.invariant.left c.in-Some.ensures.steps.0;
  keeps = c.loop-one.invariant.keeps;
  told = c.loop-one.invariant.told;
  calls = c.loop-one.invariant.calls ∙ sym (due_no c.args.now c.loop-one.yielded c.in-Some.one
      (sym c.if-is_due.ensures));
}

pub loop-one-preserved-in-Ok : goal.loop-one-preserved-in-Ok
loop-one-preserved-in-Ok g c = record {
  left = left_over c.loop-one.yielded _ _ _ c.in-Some.one c.loop-one.invariant.left c.in-Some.ensures.steps.0;
  keeps = keeps_more c.loop-one.invariant.keeps c.in-Ok.ensures.ok;
  told = told_more _ c.loop-one.invariant.told c.in-Ok.ensures.ok;
  calls = calls_more _ c.loop-one.invariant.calls c.in-Ok.ensures.ok ∙ sym
      (due_yes c.args.now c.loop-one.yielded c.in-Some.one (sym c.if-is_due.ensures));
}
