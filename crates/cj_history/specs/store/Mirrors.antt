-- The listing that lags behind, after a history: Kubernetes API concepts, "Resource versions" (a
-- list may be older than what was written), and client-go, package cache (a reflector applies
-- events, and lists again where they are gone).
use Rattle.std.specs.Prelude.{◌≡◌, ℕ, ◌-◌, List, [], ◌∷◌, drop, Result, Ok}
use Rattle.std.specs.FinMap as map
use Rattle.cj_base.specs.declared.refusal.Refusal.{Refusal}
use Rattle.cj_types.specs.Keys.{Place}
use Rattle.cj_types.specs.declared.event.Event.{Event}
use Rattle.cj_calls.specs.declared.call.Call.{Call}
use Rattle.cj_calls.specs.declared.call.Call.TheVariants as Of
use Rattle.cj_calls.specs.declared.reply.Reply.{Reply}
use Rattle.cj_calls.specs.Rows.{Told}
use Rattle.cj_watch.specs.mirror.Lagging.{Mirror}
use Rattle.cj_watch.specs.mirror.Laws.{next_fed}
use Rattle.cj_state.specs.Legal.{IsLegal, state_of}
use Rattle.cj_history.specs.store.Written.{version, current_job}
use Rattle.cj_history.specs.store.Writes.{writes}

-- how many writes the listing knows after a call, of `n` that were made: an accepted Feed teaches
-- it so many more, as far as there are, or all of them where some that it doesn't know are kept no
-- more
abbrev pub fed_after : ℕ → ℕ → ℕ → Call → Result Reply Refusal → ℕ
fed_after window n was (Of.Feed max) (Ok r) = next_fed window n was max
fed_after window n was call answer = was

-- how many it knows after a history
-- rule: written-history
abbrev pub fed : ℕ → List Told → ℕ
fed window [] = 0
fed window (e ∷ h) = fed_after window (version (writes h)) (fed window h) e.call e.answer

-- the first so many of the writes, of which the newest comes first
abbrev pub earliest : ℕ → List Event → List Event
earliest n ws = drop (version ws - n) ws

-- it has the Jobs that these writes left
-- rule: written-history
pub record IsMirror (n : ℕ) (ws : List Event) (m : Mirror) : Type 0 where
  pub fed : m.fed ≡ n
  pub jobs : (k : Place) → map.get m.jobs k ≡ current_job (earliest n ws) k

-- whoever called whatever
-- rule: written-history
abbrev pub MirrorLaw : Type 0
MirrorLaw = (window : ℕ) (h : List Told) → IsLegal window h
    → IsMirror (fed window h) (writes h) (state_of window h).mirror
