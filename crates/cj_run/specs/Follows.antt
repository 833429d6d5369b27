-- How the informer of a run follows what is written.
use Rattle.std.specs.Prelude.{◌≡◌, ◌⊎◌, ℕ, zero, suc, Ok}
use Rattle.cj_informer.specs.Outcomes.{HasStepped}
use Rattle.cj_worker.specs.Workers.{Gets}
use Rattle.cj_run.specs.declared.rest.Follower.{Follower}

-- the informer makes a whole step at the moment, of which no call is refused
-- rule: run-clock
abbrev pub StepsOn : ℕ → Follower → Follower → Type 0
StepsOn at f g = Gets f.pass g.pass (λ es. HasStepped f.informer at g.informer (Ok tt) es)

abbrev pub StepsOrStays : ℕ → Follower → Follower → Type 0
StepsOrStays at f g = StepsOn at f g ⊎ (g ≡ f)

-- that many steps at the moment, one after the other
abbrev pub Steps : ℕ → ℕ → Follower → Follower → Type 0
Steps zero at f g = g ≡ f
Steps (suc k) at f g = (m : Follower) × Steps k at f m × StepsOn at m g

-- one step or more
-- rule: run-clock
abbrev pub Follows : ℕ → Follower → Follower → Type 0
Follows at f g = (k : ℕ) × Steps (suc k) at f g
