-- A review of CronJobs, one after the other: what was printed and said so far, with that of the rest, is the whole.
use Rattle.std.proofs.Common.{◌≡◌, ◌++◌, ◌∙◌, ◌+◌, ◌<◌, ◌≤◌, ℕ, suc, List, [], ◌∷◌, Bool, drop, length, get_or, refl, sym, ap, subst, arith}
use Rattle.std.proofs.lemmas.List.{append_assoc, append-nil}
use Rattle.std.proofs.Math.ListN.{drop_of_length-le}
use Rattle.std.proofs.Math.Seq.{drop-cons}
use Rattle.cj_zone.specs.declared.zone.Zone.{Zone}
use Rattle.cj_cluster.specs.Content.{Content}
use Rattle.cj_cluster.specs.declared.cron.ClusterCron.{ClusterCron}
use Rattle.cj_why.specs.reviews.Words.{IsOne, IsReview}

module _ (explain : Bool) (zones : List Zone) (content : Content) (now : ℕ) (crons : List ClusterCron) where
  -- what the rest makes of what was printed and said so far
  pub record Leads (rest : List ClusterCron) (printed said : List ℕ) : Type 0 where
    pub whole : (lines words : List ℕ) → IsReview explain zones content now rest lines words
        → IsReview explain zones content now crons (printed ++ lines) (said ++ words)

  -- Before the first CronJob nothing was printed or said.
  pub leads_start : Leads crons [] []
  leads_start = record { whole = λ lines words h. h }

  -- With one CronJob more, what was printed and said has its lines and words.
  pub leads_one : (c : ClusterCron) (rest : List ClusterCron) (printed said one told : List ℕ)
      → Leads (c ∷ rest) printed said
      → IsOne explain zones content now c one told → Leads rest (printed ++ one) (said ++ told)
  leads_one c rest printed said one told h is = record {
    whole = λ lines words k.
        subst (λ p. IsReview explain zones content now crons p ((said ++ told)
        ++ words)) (sym (append_assoc printed one lines))
        (subst (λ w. IsReview explain zones content now crons (printed
        ++ (one ++ lines)) w) (sym (append_assoc said told words))
        (h.whole (one ++ lines) (told ++ words) (one, told, lines, words, is, k, refl, refl)));
  }

  -- Behind the last CronJob the whole was printed and said.
  pub leads_end : (printed said : List ℕ) → Leads [] printed said
      → IsReview explain zones content now crons printed said
  leads_end printed said h =
      subst (λ p. IsReview explain zones content now crons p said) (append-nil printed)
      (subst (λ w. IsReview explain zones content now crons (printed ++ []) w) (append-nil said)
      (h.whole [] [] (refl, refl)))

  -- For leads_rest: what is left at a place is its CronJob and what is left behind it.
  rest_at : (i : ℕ) (c : ClusterCron) → i < length crons → c ≡ get_or crons i c → drop i crons ≡ c ∷ drop (i + 1) crons
  rest_at i c inside at =
      let next : suc i ≡ i + 1 = omega arith in
      drop-cons crons i c inside ∙ ap (λ y. y ∷ drop (suc i) crons) (sym at) ∙ ap (λ n. c ∷ drop n crons) next

  -- The same at a place in the list, whose CronJob is the next.
  pub leads_rest : (i : ℕ) (c : ClusterCron) (printed said one told more words : List ℕ) → i < length crons
      → c ≡ get_or crons i c → Leads (drop i crons) printed said → IsOne explain zones content now c one told
      → more ≡ printed ++ one → words ≡ said ++ told → Leads (drop (i + 1) crons) more words
  leads_rest i c printed said one told more words inside at h is m w =
      rw (m, w) (leads_one c (drop (i + 1) crons) printed said one told
      (subst (λ r. Leads r printed said) (rest_at i c inside at) h) is)

  -- Where no CronJob is left, the whole was printed and said.
  pub leads_over : (i : ℕ) (printed said : List ℕ) → length crons ≤ i → Leads (drop i crons) printed said
      → IsReview explain zones content now crons printed said
  leads_over i printed said over h =
      leads_end printed said (subst (λ r. Leads r printed said) (drop_of_length-le crons over) h)
