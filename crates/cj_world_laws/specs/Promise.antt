-- What is promised of every world's history.
use Rattle.std.specs.Prelude.{ℕ, List}
use Rattle.cj_calls.specs.Rows.{Told}
use Rattle.cj_state.specs.Legal.{ArePlanned, IsLegal}
use Rattle.cj_world_laws.specs.legal.Exclusive.{Exclusive}
use Rattle.cj_world_laws.specs.once.Once.{Alone, Once}
use Rattle.cj_world_laws.specs.once.Times.{Timely}

-- each answer is the one that the entries before it give, no key is in two workers' hands, no
-- scheduled time of a CronJob got two Jobs, what was claimed under Forbid or Replace was made
-- alone, and each claim is of the greatest time missed
pub record KeepsPromise (window : ℕ) (h : List Told) : Type 0 where
  pub legal : IsLegal window h
  pub planned : ArePlanned h
  pub exclusive : Exclusive h
  pub once : Once window h
  pub alone : Alone window h
  pub timely : Timely window h
