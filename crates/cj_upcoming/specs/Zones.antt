-- The zones that CronJobs name, and where their clocks are put in a window.
use Rattle.std.specs.Prelude.{ℕ, ◌-◌, List, [], ◌∷◌, ◌++◌, Option, Some, None, bytes_eq, if◌then◌else◌}
use Rattle.std.specs.List.{list_any}
use Rattle.cj_zone.specs.declared.zone.Zone.{Zone}
use Rattle.cj_zone.specs.Zones.{zone_named}
use Rattle.cj_cluster.specs.declared.cron.ClusterCron.{ClusterCron}
use Rattle.cj_upcoming.specs.Changes.{changes, change_lines}
use Rattle.cj_upcoming.specs.Window.{Span}

-- the name, where it isn't among those before
abbrev pub fresh : List (List ℕ) → Option (List ℕ) → List (List ℕ)
fresh seen None = []
fresh seen (Some name) = if list_any (λ n. bytes_eq n name) seen then [] else name ∷ []

-- the names that CronJobs name, each once, behind those before
abbrev pub named : List (List ℕ) → List ClusterCron → List (List ℕ)
named seen [] = []
named seen (c ∷ cs) =
    fresh seen c.cron.spec.time_zone ++ named (seen ++ fresh seen c.cron.spec.time_zone) cs

abbrev pub lines_where : Option Zone → Span → List ℕ
lines_where None w = []
lines_where (Some z) w = change_lines z (changes z w.from (w.end - 1))

-- of each of these zones that is given, the lines of its changes after the window's first instant
-- rule: upcoming-changes
abbrev pub zone_lines : List Zone → Span → List (List ℕ) → List ℕ
zone_lines zones w [] = []
zone_lines zones w (n ∷ ns) = lines_where (zone_named n zones) w ++ zone_lines zones w ns
