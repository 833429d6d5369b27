-- How far the work on a hub is, as one who has followed the writes up to a version sees it.
use Rattle.std.specs.Prelude.{◌≡◌, ℕ, true, false}
use Rattle.cj_world_laws.specs.legal.Rest.{IsAtRest}
use Rattle.cj_hub.specs.declared.state.HubState.{HubState}
use Rattle.cj_hub.specs.declared.state.HubState.TheVariants.{Broken, Behind, Quiet, Busy}
use Rattle.cj_hub.specs.Books.{BookView, state_in}

-- a book as it was, and a version
-- rule: hub-state
pub record Rest : Type 0 where
  pub book : BookView
  pub seen : ℕ

-- the version is that of the last write, and the listings know of all writes
-- rule: hub-state
abbrev pub IsFollowed : BookView → ℕ → Type 0
IsFollowed b seen = ((state_in b).store.version ≡ seen) × ((state_in b).mirror.fed ≡ seen)

-- the first that holds
-- rule: hub-state
abbrev pub IsState : BookView → ℕ → HubState → Type 0
IsState b seen Broken = b.given_up ≡ true
IsState b seen Behind = (b.given_up ≡ false) × (IsFollowed b seen → ⊥)
IsState b seen Quiet = (b.given_up ≡ false) × IsFollowed b seen × IsAtRest (state_in b)
IsState b seen Busy = (b.given_up ≡ false) × IsFollowed b seen × (IsAtRest (state_in b) → ⊥)
