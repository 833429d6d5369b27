-- What the clocks of CronJobs do, one after another.
use Rattle.std.proofs.Common.{◌≡◌, ◌∙◌, ◌<◌, ◌≤◌, ◌+◌, ap, ℕ, List, [], ◌∷◌, ◌++◌, length, drop, get_or, refl, sym, subst, append_assoc, append-nil}
use Rattle.std.proofs.lemmas.List.{drop_all, drop_more}
use Rattle.cj_types.specs.declared.cron.CronJob.{CronJob}
use Rattle.cj_zone.specs.declared.zone.Zone.{Zone}
use Rattle.cj_inspect.specs.declared.nights.look.Look.{Look}
use Rattle.cj_inspect.specs.Nights.{AddsNight, AreNights, IsNightOf}

-- with the lines of the rest behind these, they are those of all
pub record Leads (zones : List Zone) (look : Look) (all rest : List CronJob) (lines : List ℕ) : Type 0 where
  pub whole : (more : List ℕ) → AreNights zones look rest more → AreNights zones look all (lines ++ more)

-- With the lines of the next CronJob they go on.
leads_cron : (zones : List Zone) (look : Look) (all rest : List CronJob) (lines line : List ℕ) (c : CronJob)
    → Leads zones look all (c ∷ rest) lines
    → IsNightOf zones look c line → Leads zones look all rest (lines ++ line)
leads_cron zones look all rest lines line c leads is = record {
  whole = λ more h. subst (AreNights zones look all) (sym (append_assoc lines line more))
      (leads.whole (line ++ more) (line, more, is, h, refl));
}

-- For nights_among: so it is with the CronJob at a place.
pub leads_at : (zones : List Zone) (look : Look) (crons : List CronJob) (i : ℕ) (x : CronJob)
    (lines longer : List ℕ) → i < length crons → x ≡ get_or crons i x → Leads zones look crons (drop i crons) lines
    → AddsNight zones look x lines longer → Leads zones look crons (drop (i + 1) crons) longer
leads_at zones look crons i x lines longer inside at leads adds =
    let here : drop i crons ≡ x ∷ drop (i + 1) crons = drop_more crons i x inside
    ∙ ap (λ (c : CronJob). c ∷ drop (i + 1) crons) (sym at) in
    subst (Leads zones look crons (drop (i + 1) crons)) (sym adds.are)
    (leads_cron zones look crons (drop (i + 1) crons) lines adds.lines x
    (subst (λ rest. Leads zones look crons rest lines) here leads) adds.is)

-- For leads_end: where no CronJob is left, they are the lines of all.
leads_done : (zones : List Zone) (look : Look) (all : List CronJob) (lines : List ℕ) → Leads zones look all [] lines
    → AreNights zones look all lines
leads_done zones look all lines leads = subst (AreNights zones look all) (append-nil lines) (leads.whole [] refl)

-- For nights_among: so it is behind the last CronJob.
pub leads_end : (zones : List Zone) (look : Look) (crons : List CronJob) (i : ℕ) (lines : List ℕ) → length crons ≤ i
    → Leads zones look crons (drop i crons) lines → AreNights zones look crons lines
leads_end zones look crons i lines past leads =
    leads_done zones look crons lines (subst (λ xs. Leads zones look crons xs lines) (drop_all i crons past) leads)
