-- What runners hand back.
use Rattle.std.specs.Prelude.{◌≡◌, ◌⊎◌, ℕ, List, [], ◌∷◌, ◌++◌, map}
use Rattle.std.specs.List.{AllByRecursion}
use Rattle.cj_base.specs.declared.refusal.Refusal.{Refusal}
use Rattle.cj_base.specs.declared.refusal.Refusal.TheVariants.{HistoryFull, Estranged, OutOfMemory}
use Rattle.cj_calls.specs.Rows.{Told}
use Rattle.cj_calls.specs.declared.call.Call.{Call}
use Rattle.cj_hub.specs.Receipts.{PassView, caller_of}
use Rattle.cj_hub.specs.declared.receipt.Receipt.{Receipt}
use Rattle.cj_runner.specs.Dues.{due_ends}
use Rattle.cj_runner.specs.declared.running.Running.{Running}

abbrev pub entries_of : List Receipt → List Told
entries_of rs = map (λ r. r.entry) rs

-- the calls of receipts, whatever they were answered
abbrev pub calls_of : List Receipt → List Call
calls_of rs = map (λ r. r.entry.call) rs

-- the pass has just these receipts more, all its own
-- rule: runner-ends
pub record Keeps (p q : PassView) (news : List Receipt) : Type 0 where
  pub own : AllByRecursion (λ r. r.entry.caller ≡ caller_of p) news
  pub kept : q ≡ record p { receipts = p.receipts ++ news }

-- each pass comes back, and the new receipts, one pass after the other, are these
-- rule: runner-ends
abbrev pub HandedBack : List PassView → List PassView → List Receipt → Type 0
HandedBack [] [] news = news ≡ []
HandedBack (p ∷ ps) (q ∷ qs) news = (mine : List Receipt) × (others : List Receipt) ×
    (news ≡ mine ++ others) × Keeps p q mine × HandedBack ps qs others
HandedBack _ _ _ = ⊥

-- the first list is the second without some of its members
-- rule: runner-ends
abbrev pub IsPart : {X : Type 0} → List X → List X → Type 0
IsPart [] ys = Unit {0}
IsPart (x ∷ xs) [] = ⊥
IsPart (x ∷ xs) (y ∷ ys) = ((x ≡ y) × IsPart xs ys) ⊎ IsPart (x ∷ xs) ys

-- the passes come back in order, without those that were lost; their new receipts are of ends that
-- are due, in the list's order, each at most once
-- rule: runner-ends
pub record CameBack (now : ℕ) (running : List Running) (passes back : List PassView) : Type 0 where
  pub kept : List PassView
  pub part : IsPart kept passes
  pub news : List Receipt
  pub handed : HandedBack kept back news
  pub due : IsPart (calls_of news) (due_ends now running)

-- the receipts are of just the ends that are due, in the list's order, and all passes come back
-- with them
-- rule: runner
pub record AreEnded (now : ℕ) (running : List Running) (passes back : List PassView)
    (receipts : List Receipt) : Type 0 where
  pub ends : calls_of receipts ≡ due_ends now running
  pub handed : HandedBack passes back receipts

-- why ends are left
-- rule: runner-ends
abbrev pub IsRunnerRefusal : Refusal → Type 0
IsRunnerRefusal HistoryFull = Unit {0}
IsRunnerRefusal Estranged = Unit {0}
IsRunnerRefusal OutOfMemory = Unit {0}
IsRunnerRefusal _ = ⊥
