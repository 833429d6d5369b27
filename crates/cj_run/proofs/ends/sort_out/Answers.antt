-- sort_out: its loop over the Jobs, with one Job more put where it belongs.
use Rattle.std.proofs.Common.{◌≡◌, ◌∙◌, Bool, List, [], ◌∷◌, ◌++◌, ap, sym, append_assoc}
use Rattle.std.specs.Prelude.{filter, not}
use Rattle.std.proofs.lemmas.List.Elements.{filter-append}
use Rattle.cj_runner.specs.Dues.{is_due}
use Rattle.cj_runner.specs.declared.running.Running.{Running}
use Rattle.cj_run.proofs.ends.sort_out.Goals as goal

-- The Jobs gone through and those left are still all with one more of these gone through.
left_over : (yielded before after all : List Running) (one : Running) → yielded ++ before ≡ all → before ≡ one ∷ after
    → (yielded ++ one ∷ []) ++ after ≡ all
left_over yielded before after all one is step = append_assoc yielded (one ∷ []) after
    ∙ ap (λ rs. yielded ++ rs) (sym step) ∙ is

-- The Jobs gone through that pass a test are, with one more, these and that one where it passes.
sorted_more : (p : Running → Bool) (yielded old new : List Running) (one : Running) → old ≡ filter p yielded
    → new ≡ old ++ filter p (one ∷ []) → new ≡ filter p (yielded ++ one ∷ [])
sorted_more p yielded old new one is more = more ∙ ap (λ (rs : List Running). rs ++ filter p (one ∷ [])) is
    ∙ sym (filter-append p yielded (one ∷ []))

pub loop-job-preserved : goal.loop-job-preserved
loop-job-preserved c = record {
  left = left_over c.loop-job.yielded _ _ _ c.in-Some.job c.loop-job.invariant.left c.in-Some.ensures.steps.0;
  due = sorted_more (is_due c.args.now) c.loop-job.yielded c.loop-job.sorted.due.items c.put.new.self.due.items
      c.in-Some.job c.loop-job.invariant.due c.in_ok-put.ensures.due;
  others = sorted_more (λ r. not (is_due c.args.now r)) c.loop-job.yielded c.loop-job.sorted.others.items
      c.put.new.self.others.items c.in-Some.job c.loop-job.invariant.others c.in_ok-put.ensures.others;
}
