-- Who calls in a run.
use Rattle.std.specs.Prelude.{◌≡◌, ◌+◌, ℕ, List, [], ◌∷◌, ◌++◌, All, Some, slice_get, length, map}
use Rattle.std.specs.List.{AllByRecursion}
use Rattle.cj_calls.specs.Rows.{Told}
use Rattle.cj_calls.specs.declared.caller.Caller.{Caller}
use Rattle.cj_calls.specs.declared.caller.Role.TheVariants.{Informer, Runner, User, Worker}
use Rattle.cj_hub.specs.Receipts.{IsExact, PassView, caller_of}
use Rattle.cj_run.specs.Works.{after_all}
use Rattle.cj_run.specs.declared.participants.Participants.{Participants}
use Rattle.cj_run.specs.declared.work.Stage.TheVariants.{Idle, Over}

-- a worker's pass: it made whole syncs, one after the other, and in the end found the queue shut
-- rule: run-report
pub record HasWorked (p : PassView) : Type 0 where
  pub role : p.role ≡ Worker
  pub over : after_all Idle p.receipts ≡ Over

-- an informer, two runners, as many workers as are wanted, and a user
-- rule: run-report
pub record AreComplete (workers : ℕ) (c : Participants) : Type 0 where
  pub informer : c.informer.role ≡ Informer
  pub runners : All (λ p. p.role ≡ Runner) c.runners.items
  pub two : length c.runners.items ≡ 2
  pub worked : All HasWorked c.workers.items
  pub wanted : length c.workers.items ≡ workers
  pub user : c.user.role ≡ User

-- their passes, in the order of their numbers
abbrev pub passes_of : Participants → List PassView
passes_of c = ((c.workers.items ++ c.runners.items) ++ c.informer ∷ []) ++ c.user ∷ []

-- they are numbered from there on
abbrev pub AreNumbered : ℕ → List Caller → Type 0
AreNumbered n [] = Unit {0}
AreNumbered n (c ∷ cs) = (c.number ≡ n) × AreNumbered (n + 1) cs

-- the entry is of the one of them that has its number
abbrev pub IsOwn : List Caller → Told → Type 0
IsOwn cs e = slice_get cs e.caller.number ≡ Some e.caller

-- the history has the entries of these passes and no others: their numbers are their places in the
-- list, each entry is of one of them, and each one's receipts are its entries, in order
-- rule: run-report
pub record AreAll (ps : List PassView) (h : List Told) : Type 0 where
  pub numbered : AreNumbered 0 (map caller_of ps)
  pub own : AllByRecursion (IsOwn (map caller_of ps)) h
  pub exact : All (IsExact h) ps
