-- The steps of the informer, one after the other.
use Rattle.std.proofs.Common.{inl, inr, ℕ, zero, suc, List, [], ◌++◌, append-nil, refl, sym, ap, subst}
use Rattle.std.specs.Prelude.{OnOk, Result, Ok, Err}
use Rattle.cj_base.specs.declared.refusal.Refusal.{Refusal}
use Rattle.cj_informer.specs.Outcomes.{HasStepped}
use Rattle.cj_hub.specs.declared.receipt.Receipt.{Receipt}
use Rattle.cj_worker.specs.Workers.{Extends, Gets}
use Rattle.cj_run.specs.Follows.{Follows, Steps, StepsOn, StepsOrStays}
use Rattle.cj_run.specs.declared.rest.Follower.{Follower}
use Rattle.cj_run.proofs.Done.{kept_then}

-- For Follower::step: a step that isn't refused is a whole one.
pub steps_on : (at : ℕ) (f g : Follower) (r : Result (Unit {0}) Refusal)
    → Gets f.pass g.pass (λ es. HasStepped f.informer at g.informer r es)
    → OnOk r (StepsOn at f g)
steps_on at f g (Ok tt) h = h
steps_on at f g (Err e) h = tt

-- For Follower::settle: one step.
pub follows_first : (at : ℕ) (f g : Follower) → StepsOn at f g → Follows at f g
follows_first at f g step = (0, (f, refl, step))

-- For Follower::settle: one step more, or none.
pub follows_more : (at : ℕ) (f m g : Follower) → Follows at f m → StepsOrStays at m g → Follows at f g
follows_more at f m g follows (inl step) = (suc follows.0, (m, follows.1, step))
follows_more at f m g follows (inr same) = subst (λ (x : Follower). Follows at f x) (sym same) follows

-- For follows_longer: the informer's pass got receipts in so many steps, or none.
steps_longer : (k at : ℕ) (f g : Follower) → Steps k at f g → Extends f.pass g.pass
steps_longer zero at f g same =
    subst (λ (x : Follower). Extends f.pass x.pass) (sym same)
    ([], ap (λ (rs : List Receipt). record f.pass { receipts = rs }) (sym (append-nil f.pass.receipts)))
steps_longer (suc k) at f g s =
    let before = steps_longer k at f s.0 s.1 in
    let more = s.2.gains in
    (before.0 ++ more.news, kept_then f.pass s.0.pass g.pass before.0 more.news before.1 more.kept)

-- For run_instant: what the informer was told at an instant stands behind what it was told before.
pub follows_longer : (at : ℕ) (f g : Follower) → Follows at f g → Extends f.pass g.pass
follows_longer at f g follows = steps_longer (suc follows.0) at f g follows.1
