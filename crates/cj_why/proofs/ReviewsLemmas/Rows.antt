-- Rows of CronJobs, one after the other: those so far, with those of the rest, are all that are shown.
use Rattle.std.proofs.Common.{◌≡◌, ◌++◌, ◌∙◌, ◌+◌, ◌<◌, ◌≤◌, ℕ, suc, List, [], ◌∷◌, Bool, drop, length, get_or, refl, sym, ap, subst, arith}
use Rattle.std.proofs.lemmas.List.{append_assoc, append-nil}
use Rattle.std.proofs.Math.ListN.{drop_of_length-le}
use Rattle.std.proofs.Math.Seq.{drop-cons}
use Rattle.cj_zone.specs.declared.zone.Zone.{Zone}
use Rattle.cj_cluster.specs.Content.{Content}
use Rattle.cj_cluster.specs.declared.cron.ClusterCron.{ClusterCron}
use Rattle.cj_why.specs.declared.reviews.rows.CronRow.{CronRow}
use Rattle.cj_why.specs.reviews.Rows.{AreRows, IsRow, is_shown, shown_if}

module _ (problems explain : Bool) (zones : List Zone) (content : Content) (now : ℕ) (crons : List ClusterCron) where
  -- what the rest makes of the rows so far
  pub record Grows (rest : List ClusterCron) (rows : List CronRow) : Type 0 where
    pub whole : (more : List CronRow) → AreRows problems explain zones content now rest more
        → AreRows problems explain zones content now crons (rows ++ more)

  -- Before the first CronJob there is no row.
  pub grows_start : Grows crons []
  grows_start = record { whole = λ more h. h }

  -- With one CronJob more, the rows have its row, where it is shown.
  pub grows_one : (c : ClusterCron) (rest : List ClusterCron) (rows : List CronRow) (row : CronRow)
      → Grows (c ∷ rest) rows
      → IsRow explain zones content now c row → Grows rest (rows ++ shown_if (is_shown problems now row) row)
  grows_one c rest rows row h is = record {
    whole = λ more k.
        subst (λ r. AreRows problems explain zones content now crons r)
        (sym (append_assoc rows (shown_if (is_shown problems now row) row) more))
        (h.whole (shown_if (is_shown problems now row) row ++ more) (row, more, is, k, refl));
  }

  -- Behind the last CronJob the rows are all.
  pub grows_end : (rows : List CronRow) → Grows [] rows → AreRows problems explain zones content now crons rows
  grows_end rows h = subst (λ r. AreRows problems explain zones content now crons r) (append-nil rows) (h.whole [] refl)

  -- For grows_rest: what is left at a place is its CronJob and what is left behind it.
  rest_at : (i : ℕ) (c : ClusterCron) → i < length crons → c ≡ get_or crons i c → drop i crons ≡ c ∷ drop (i + 1) crons
  rest_at i c inside at =
      let next : suc i ≡ i + 1 = omega arith in
      drop-cons crons i c inside ∙ ap (λ y. y ∷ drop (suc i) crons) (sym at) ∙ ap (λ n. c ∷ drop n crons) next

  -- The same at a place in the list, whose CronJob is the next.
  pub grows_rest : (i : ℕ) (c : ClusterCron) (rows more : List CronRow) (row : CronRow) → i < length crons
      → c ≡ get_or crons i c → Grows (drop i crons) rows → IsRow explain zones content now c row
      → more ≡ rows ++ shown_if (is_shown problems now row) row → Grows (drop (i + 1) crons) more
  grows_rest i c rows more row inside at h is m =
      subst (λ r. Grows (drop (i + 1) crons) r) (sym m)
      (grows_one c (drop (i + 1) crons) rows row (subst (λ r. Grows r rows) (rest_at i c inside at) h) is)

  -- Where no CronJob is left, the rows are all.
  pub grows_over : (i : ℕ) (rows : List CronRow) → length crons ≤ i → Grows (drop i crons) rows
      → AreRows problems explain zones content now crons rows
  grows_over i rows over h = grows_end rows (subst (λ r. Grows r rows) (drop_of_length-le crons over) h)
