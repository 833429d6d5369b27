-- The places that keys can be at.
use Rattle.std.specs.Prelude.{ℕ, List, Option, Some, None, IsTrue, All, if◌then◌else◌}
use Rattle.std.specs.FinMap as map
use Rattle.cj_types.specs.Names.{longest, longest_cron}
use Rattle.cj_types.specs.Keys.{Place, place, place_cmp, is_place}
use Rattle.cj_cluster.specs.declared.cron.ClusterCron.{ClusterCron}

-- the place of two texts that are well formed
abbrev pub place_if : List ℕ → List ℕ → Option Place
place_if namespace name =
    if is_place longest (place namespace name) then Some (place namespace name) else None

-- the keys of the CronJobs are well formed
abbrev pub AreShort : map.FinMap place_cmp ClusterCron → Type 0
AreShort crons = All (λ c. IsTrue (is_place longest_cron c.cron.key)) (map.values crons)
