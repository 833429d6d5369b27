-- A text that tells of one CronJob after another: what is still to come is told by the rest of the list.
use Rattle.std.proofs.Common.{◌≡◌, ◌<◌, ◌≤◌, ◌+◌, ℕ, List, [], ◌∷◌, ◌++◌, length, drop, get_or, refl, sym, ap, ◌∙◌, subst, append_assoc, append-nil}
use Rattle.cj_zone.specs.declared.zone.Zone.{Zone}
use Rattle.cj_cluster.specs.declared.cron.ClusterCron.{ClusterCron}
use Rattle.cj_upcoming.specs.declared.standing.Standing.{Standing}
use Rattle.cj_upcoming.specs.Standings.{standing_line, AreStandings, IsStandingOf}
use Rattle.cj_upcoming.proofs.Places.{rest_at, past_end}

-- what is told from a place on makes, behind the text so far, all that is told
pub record Leads (zones : List Zone) (from : ℕ) (crons : List ClusterCron) (i : ℕ) (text : List ℕ) : Type 0 where
  pub goes_on : (rest : List ℕ) → AreStandings zones from (drop i crons) rest
      → AreStandings zones from crons (text ++ rest)

module _ (zones : List Zone) (from : ℕ) (crons : List ClusterCron) where
  -- At the beginning all is still to be told.
  pub leads_start : Leads zones from crons 0 []
  leads_start = record { goes_on = λ rest h. h }

  -- With the line of the CronJob at a place the rest is told from the next place on.
  pub leads_step : (i : ℕ) (c : ClusterCron) (standing : Standing) (old new : List ℕ) → i < length crons
      → c ≡ get_or crons i c → IsStandingOf zones from c standing
      → new ≡ old ++ standing_line standing c.cron.key → Leads zones from crons i old
      → Leads zones from crons (i + 1) new
  leads_step i c standing old new inside at is grown leads = record {
    goes_on = λ rest h.
        let here : AreStandings zones from (c ∷ drop (i + 1) crons) (standing_line standing c.cron.key ++ rest) =
        record { standing = standing; is = is; rest = rest; more = h; are = refl } in
        let whole = leads.goes_on (standing_line standing c.cron.key ++ rest)
        (subst (λ xs. AreStandings zones from xs (standing_line standing c.cron.key ++ rest))
        (sym (rest_at crons i c inside at)) here) in
        subst (λ t. AreStandings zones from crons t)
        (sym (append_assoc old (standing_line standing c.cron.key) rest) ∙ ap (λ t. t ++ rest) (sym grown)) whole;
  }

  -- At the end all is told.
  pub leads_done : (i : ℕ) (text : List ℕ) → length crons ≤ i → Leads zones from crons i text
      → AreStandings zones from crons text
  leads_done i text past leads =
      subst (λ t. AreStandings zones from crons t) (append-nil text)
      (leads.goes_on [] (subst (λ xs. AreStandings zones from xs []) (sym (past_end crons i past)) refl))
