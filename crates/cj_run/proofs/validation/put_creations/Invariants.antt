-- put_creations, its loop: none had begun before the creation of each draft gone through.
use Rattle.std.proofs.Common.{◌≡◌, ◌++◌, map, take}
use Rattle.cj_run.proofs.validation.put_creations.Given as goal

abbrev pub invariant-loop-draft : goal.invariant-loop-draft
invariant-loop-draft l = l.turns.items ≡ l.initial.turns.items ++ map (λ _. 0) (take l._draft-index l.drafts)
