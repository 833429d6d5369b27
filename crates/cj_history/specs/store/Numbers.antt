-- The numbers that writes and objects get: Kubernetes API concepts, "Resource versions", and
-- "Object Names and IDs", "UIDs" ("every object created over the whole lifetime of a cluster has a
-- distinct UID").
use Rattle.std.specs.Prelude.{◌≡◌, ℕ, ◌<◌, List, ◌∷◌, ◌++◌, reverse}
use Rattle.cj_types.specs.declared.event.Object.{Object}
use Rattle.cj_types.specs.declared.event.Object.TheVariants as Kind
use Rattle.cj_types.specs.declared.event.Event.{Event}
use Rattle.cj_types.specs.declared.event.Event.TheVariants.{Added}
use Rattle.cj_calls.specs.Rows.{Told}
use Rattle.cj_watch.specs.Numbers.{IsNumbered}
use Rattle.cj_history.specs.store.Writes.{writes}

abbrev pub uid_of : Object → ℕ
uid_of (Kind.Cron c) = c.meta.uid
uid_of (Kind.Job j) = j.meta.uid

-- the n-th write has version n
-- rule: written-history
abbrev pub NumbersLaw : Type 0
NumbersLaw = (h : List Told) → IsNumbered 0 (reverse (writes h))

-- of two objects that were created the later has the greater uid: no uid is given again, whatever
-- was deleted
-- rules: written-history, uid-never-returns
abbrev pub UidLaw : Type 0
UidLaw = (h : List Told) (after between before : List Event) (second first : Object)
    → writes h ≡ after ++ Added second ∷ (between ++ Added first ∷ before)
    → uid_of first < uid_of second
