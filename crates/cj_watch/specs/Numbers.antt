-- The numbers of writes: Kubernetes API concepts, "Resource versions".
use Rattle.std.specs.Prelude.{◌≡◌, ℕ, ◌+◌, nat_lt, List, [], ◌∷◌, filter}
use Rattle.cj_types.specs.declared.event.Event.{Event}
use Rattle.cj_types.specs.Events.{version_of}

-- the events have the versions n + 1, n + 2, and so on
abbrev pub IsNumbered : ℕ → List Event → Type 0
IsNumbered n [] = Unit {0}
IsNumbered n (e ∷ es) = (version_of e ≡ n + 1) × IsNumbered (n + 1) es

-- the events with a version above the given one, in their order
abbrev pub later : ℕ → List Event → List Event
later version events = filter (λ e. nat_lt version (version_of e)) events
