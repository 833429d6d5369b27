-- The names of zones are gathered one CronJob after another.
use Rattle.std.proofs.Common.{◌≡◌, ◌<◌, ◌+◌, ℕ, List, ◌++◌, length, drop, get_or, sym, ap, ◌∙◌, subst, append_assoc}
use Rattle.cj_cluster.specs.declared.cron.ClusterCron.{ClusterCron}
use Rattle.cj_upcoming.specs.Zones.{fresh, named}
use Rattle.cj_upcoming.proofs.Places.{rest_at}

-- With the name of the CronJob at a place, if it is new, those of the rest are left.
pub named_step : (crons : List ClusterCron) (i : ℕ) (c : ClusterCron) (old new whole : List (List ℕ)) → i < length crons
    → c ≡ get_or crons i c → new ≡ old ++ fresh old c.cron.spec.time_zone → old ++ named old (drop i crons) ≡ whole
    → new ++ named new (drop (i + 1) crons) ≡ whole
named_step crons i c old new whole inside at grown so_far =
    let one = fresh old c.cron.spec.time_zone in
    subst (λ n. n ++ named n (drop (i + 1) crons) ≡ whole) (sym grown)
    (append_assoc old one (named (old ++ one) (drop (i + 1) crons))
    ∙ ap (λ xs. old ++ named old xs) (sym (rest_at crons i c inside at)) ∙ so_far)
