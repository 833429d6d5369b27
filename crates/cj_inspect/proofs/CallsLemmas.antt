-- The calls of CronJobs, one after the other: what there is so far, with that of the rest, is all.
use Rattle.std.proofs.Common.{◌≡◌, ◌++◌, ◌∙◌, ◌+◌, ◌<◌, ◌≤◌, ℕ, suc, List, [], ◌∷◌, drop, length, get_or, refl, sym, ap, subst, arith}
use Rattle.std.proofs.lemmas.List.{append_assoc, append-nil}
use Rattle.std.proofs.Math.ListN.{drop_of_length-le}
use Rattle.std.proofs.Math.Seq.{drop-cons}
use Rattle.serde_json.specs.Data.{Data}
use Rattle.cj_zone.specs.declared.zone.Zone.{Zone}
use Rattle.cj_cluster.specs.Content.{Content}
use Rattle.cj_cluster.specs.declared.cron.ClusterCron.{ClusterCron}
use Rattle.cj_inspect.specs.Calls.{AreCallsJson, IsCallsJson}

module _ (zones : List Zone) (content : Content) (now : ℕ) (crons : List ClusterCron) where
  -- what the rest makes of what there is so far
  pub record Fills (rest : List ClusterCron) (ds : List Data) : Type 0 where
    pub whole : (more : List Data) → AreCallsJson zones content now rest more
        → AreCallsJson zones content now crons (ds ++ more)

  -- Before the first CronJob there is nothing.
  pub fills_start : Fills crons []
  fills_start = record { whole = λ more h. h }

  -- With one CronJob more there is its value.
  pub fills_one : (c : ClusterCron) (rest : List ClusterCron) (ds : List Data) (d : Data) → Fills (c ∷ rest) ds
      → IsCallsJson zones content now c d → Fills rest (ds ++ (d ∷ []))
  fills_one c rest ds d h is = record {
    whole = λ more k.
        subst (λ r. AreCallsJson zones content now crons r) (sym (append_assoc ds (d ∷ []) more))
        (h.whole (d ∷ more) (d, more, is, k, refl));
  }

  -- For fills_rest: what is left at a place is its CronJob and what is left behind it.
  rest_at : (i : ℕ) (c : ClusterCron) → i < length crons → c ≡ get_or crons i c → drop i crons ≡ c ∷ drop (i + 1) crons
  rest_at i c inside at =
      let next : suc i ≡ i + 1 = omega arith in
      drop-cons crons i c inside ∙ ap (λ y. y ∷ drop (suc i) crons) (sym at) ∙ ap (λ n. c ∷ drop n crons) next

  -- The same at a place in the list, whose CronJob is the next.
  pub fills_rest : (i : ℕ) (c : ClusterCron) (ds more : List Data) (d : Data) → i < length crons → c ≡ get_or crons i c
      → Fills (drop i crons) ds → IsCallsJson zones content now c d → more ≡ ds ++ (d ∷ [])
      → Fills (drop (i + 1) crons) more
  fills_rest i c ds more d inside at h is m =
      subst (λ r. Fills (drop (i + 1) crons) r) (sym m)
      (fills_one c (drop (i + 1) crons) ds d (subst (λ r. Fills r ds) (rest_at i c inside at) h) is)

  -- Where no CronJob is left, that is all.
  pub fills_over : (i : ℕ) (ds : List Data) → length crons ≤ i → Fills (drop i crons) ds
      → AreCallsJson zones content now crons ds
  fills_over i ds over h =
      let end : Fills [] ds = subst (λ r. Fills r ds) (drop_of_length-le crons over) h in
      subst (λ r. AreCallsJson zones content now crons r) (append-nil ds) (end.whole [] refl)
