-- What a watch is told after a history: Kubernetes API concepts, "Efficient detection of changes"
-- and "410 Gone responses".
use Rattle.std.specs.Prelude.{◌≡◌, ℕ, List, reverse}
use Rattle.cj_calls.specs.Rows.{Told}
use Rattle.cj_watch.specs.Log.{since}
use Rattle.cj_watch.specs.Laws.{answer_in}
use Rattle.cj_state.specs.Legal.{IsLegal, state_of}
use Rattle.cj_history.specs.store.Writes.{writes}

-- of all writes in their order the first so many after a version; or that some of them are kept no
-- more, where more came since than the window has room for
-- rule: written-history
abbrev pub EventLaw : Type 0
EventLaw = (window : ℕ) (h : List Told) → IsLegal window h → (version max : ℕ)
    → since (state_of window h).watch version max
    ≡ answer_in window (reverse (writes h)) version max
