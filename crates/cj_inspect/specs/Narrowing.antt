-- The part of a cluster that is asked about.
use Rattle.std.specs.Prelude.{◌≡◌, ℕ, ◌&&◌, List, Option, None, Some, Bool, true, false}
use Rattle.std.specs.Borrow.{Bor}
use Rattle.cj_cluster.specs.declared.kubectl.list.ClusterList.{ClusterList}
use Rattle.cj_inspect.specs.Why.{is_nothing}

abbrev pub is_anywhere : Option (List ℕ) → Bool
is_anywhere None = true
is_anywhere (Some namespace) = false

-- no namespace is given, and no CronJob is named
abbrev pub is_everything : Option (List ℕ) → List (Bor (List ℕ)) → Bool
is_everything within texts = is_anywhere within && is_nothing texts

-- the whole list then; of another part nothing is said
abbrev pub IsPart : Bool → ClusterList → ClusterList → Type 0
IsPart true whole part = part ≡ whole
IsPart false whole part = Unit {0}
