-- Values that tell of one CronJob after another: what is still to come is told by the rest of the list.
use Rattle.std.proofs.Common.{◌≡◌, ◌<◌, ◌≤◌, ◌+◌, ℕ, List, [], ◌∷◌, ◌++◌, length, drop, get_or, refl, sym, ap, ◌∙◌, subst, append_assoc, append-nil}
use Rattle.cj_zone.specs.declared.zone.Zone.{Zone}
use Rattle.cj_cluster.specs.declared.cron.ClusterCron.{ClusterCron}
use Rattle.cj_upcoming.specs.declared.standing.Standing.{Standing}
use Rattle.serde_json.specs.Data.{Data}
use Rattle.cj_upcoming.specs.Standings.{IsStandingOf}
use Rattle.cj_upcoming.specs.json.Standings.{standing_data, AreStandingData}
use Rattle.cj_upcoming.proofs.Places.{rest_at, past_end}

-- what is told from a place on makes, behind the text so far, all that is told
pub record Tells (zones : List Zone) (from : ℕ) (crons : List ClusterCron) (i : ℕ) (text : List Data) : Type 0 where
  pub goes_on : (rest : List Data) → AreStandingData zones from (drop i crons) rest
      → AreStandingData zones from crons (text ++ rest)

module _ (zones : List Zone) (from : ℕ) (crons : List ClusterCron) where
  -- At the beginning all is still to be told.
  pub tells_start : Tells zones from crons 0 []
  tells_start = record { goes_on = λ rest h. h }

  -- With what is told of the CronJob at a place the rest is told from the next place on.
  pub tells_step : (i : ℕ) (c : ClusterCron) (standing : Standing) (old new : List Data) → i < length crons
      → c ≡ get_or crons i c → IsStandingOf zones from c standing
      → new ≡ old ++ standing_data standing c.cron.key → Tells zones from crons i old
      → Tells zones from crons (i + 1) new
  tells_step i c standing old new inside at is grown tells = record {
    goes_on = λ rest h.
        let here : AreStandingData zones from (c ∷ drop (i + 1) crons) (standing_data standing c.cron.key ++ rest) =
        record { standing = standing; is = is; rest = rest; more = h; are = refl } in
        let whole = tells.goes_on (standing_data standing c.cron.key ++ rest)
        (subst (λ xs. AreStandingData zones from xs (standing_data standing c.cron.key ++ rest))
        (sym (rest_at crons i c inside at)) here) in
        subst (λ t. AreStandingData zones from crons t)
        (sym (append_assoc old (standing_data standing c.cron.key) rest) ∙ ap (λ t. t ++ rest) (sym grown)) whole;
  }

  -- At the end all is told.
  pub tells_done : (i : ℕ) (text : List Data) → length crons ≤ i → Tells zones from crons i text
      → AreStandingData zones from crons text
  tells_done i text past tells =
      subst (λ t. AreStandingData zones from crons t) (append-nil text)
      (tells.goes_on [] (subst (λ xs. AreStandingData zones from xs []) (sym (past_end crons i past)) refl))
