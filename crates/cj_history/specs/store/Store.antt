-- The store that a history leaves.
use Rattle.std.specs.Prelude.{◌≡◌, ℕ, List}
use Rattle.std.specs.FinMap as map
use Rattle.cj_types.specs.Keys.{Place}
use Rattle.cj_types.specs.declared.event.Event.{Event}
use Rattle.cj_calls.specs.Rows.{Told}
use Rattle.cj_store.specs.Content.{Content}
use Rattle.cj_state.specs.Legal.{IsLegal, state_of}
use Rattle.cj_history.specs.store.Written.{version, made, current_cron, current_job}
use Rattle.cj_history.specs.store.Writes.{writes}

-- its version is the number of the writes, its count of uids that of the creations, and what stands
-- at a key is what the last write about it left
-- rule: written-history
pub record IsStore (ws : List Event) (s : Content) : Type 0 where
  pub version : s.version ≡ version ws
  pub uids : s.uids ≡ made ws
  pub crons : (k : Place) → map.get s.crons k ≡ current_cron ws k
  pub jobs : (k : Place) → map.get s.jobs k ≡ current_job ws k

-- whoever called whatever
-- rule: written-history
abbrev pub StoreLaw : Type 0
StoreLaw = (window : ℕ) (h : List Told) → IsLegal window h
    → IsStore (writes h) (state_of window h).store
