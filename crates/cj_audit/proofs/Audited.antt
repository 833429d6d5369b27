-- What is noted of all CronJobs and of all Jobs is what is wrong in the cluster.
use Rattle.std.proofs.Common.{◌≡◌, ◌⊎◌, inl, inr, Bool, true, false, ◌||◌, List, [], ◌∷◌, refl, ap, subst}
use Rattle.std.specs.List.{list_any}
use Rattle.std.specs.BTreeSet.{BTreeSet, contains, IsOrdered}
use Rattle.std.specs.BTreeMap.{is_at}
use Rattle.std.specs.Ordering.{is_eq}
use Rattle.std.proofs.lemmas.Cmp.{tied_itself}
use Rattle.std.specs.FinMap as map
use Rattle.cj_zone.specs.declared.zone.Zone.{Zone}
use Rattle.cj_cluster.specs.declared.cron.ClusterCron.{ClusterCron}
use Rattle.cj_cluster.specs.Content.{Content}
use Rattle.cj_cluster.specs.declared.kubectl.notes.ItemNote.{ItemNote}
use Rattle.cj_audit.specs.declared.finding.Finding.{Finding}
use Rattle.cj_audit.specs.Order.{finding_cmp, findings_total}
use Rattle.cj_audit.specs.Notes.{AnyOf, Notes}
use Rattle.cj_audit.specs.Findings.{IsAudit, IsFinding, IsFindingIn, IsFindingOf, IsStrayJob, IsStuck, IsStuckCron}
use Rattle.cj_audit.proofs.Members.{IsIn, all_in, any_true, contains_in, in_contains}
use Rattle.cj_audit.proofs.Noting.{notes_then, tie}
use Rattle.cj_audit.proofs.Orders.{findings_exact}
use Rattle.cj_audit.proofs.Walks.{any_in, in_any}

-- For keys_have: what a test by comparison finds in a list stands there.
tied_in : (f : Finding) (xs : List Finding) → list_any (is_at (finding_cmp f)) xs ≡ true → IsIn f xs
tied_in f [] e = absurd (cc e)
tied_in f (x ∷ xs) e = by (is_eq (finding_cmp f x)) refl (λ h. tied_in f xs h) e
  where
    by : (b : Bool) → is_eq (finding_cmp f x) ≡ b → (list_any (is_at (finding_cmp f)) xs ≡ true → IsIn f xs)
        → (b || list_any (is_at (finding_cmp f)) xs) ≡ true → IsIn f (x ∷ xs)
    by true t more e = inl (findings_exact f x (tie (finding_cmp f x) t))
    by false t more e = inr (more e)

-- What a set has stands in the list of its keys.
keys_have : (f : Finding) (s : BTreeSet Finding) → contains finding_cmp s f ≡ true → IsIn f s.keys
keys_have f s h = tied_in f s.keys h

-- And the other way round.
have_keys : (f : Finding) (s : BTreeSet Finding) → IsIn f s.keys → contains finding_cmp s f ≡ true
have_keys f s h = any_true (is_at (finding_cmp f)) f s.keys h (ap is_eq (tied_itself findings_total f))

module _ (zones : List Zone) (content : Content) (refused : List ItemNote) where
  -- what is noted of CronJobs, then of Jobs, then of CronJobs that are stuck
  abbrev Noted : Finding → Type 0
  Noted f = (AnyOf (IsFindingOf zones content) (map.values content.crons) f
      ⊎ AnyOf (IsStrayJob content refused) (map.values content.jobs) f)
      ⊎ AnyOf IsStuckCron (map.values content.crons) f

  -- For finding_of: of a CronJob that stands in the cluster.
  in_cron : (f : Finding) → (c : ClusterCron) × (IsIn c (map.values content.crons) × IsFindingOf zones content c f)
      → IsFindingIn zones content f
  in_cron f (c, (i, h)) =
      record { cron = c; there = in_contains c (map.values content.crons) i; finding = h }

  -- For finding_of: one that is stuck.
  in_stuck : (f : Finding) → (c : ClusterCron) × (IsIn c (map.values content.crons) × IsStuckCron c f)
      → IsStuck content f
  in_stuck f (c, (i, h)) =
      record { cron = c; there = in_contains c (map.values content.crons) i; stuck = h }

  -- What is noted is a finding.
  finding_of : (f : Finding) → Noted f → IsFinding zones content refused f
  finding_of f (inl (inl h)) = inl (in_cron f (any_in (IsFindingOf zones content) (map.values content.crons) f h))
  finding_of f (inl (inr h)) =
      let k = any_in (IsStrayJob content refused) (map.values content.jobs) f h in
      inr (inl (record { job = k.0; there = in_contains k.0 (map.values content.jobs) (k.1).0; stray = (k.1).1 }))
  finding_of f (inr h) = inr (inr (in_stuck f (any_in IsStuckCron (map.values content.crons) f h)))

  -- A finding is noted.
  of_finding : (f : Finding) → IsFinding zones content refused f → Noted f
  of_finding f (inl h) = inl (inl (in_any (IsFindingOf zones content) (map.values content.crons) f h.cron
      (contains_in h.cron (map.values content.crons) h.there) h.finding))
  of_finding f (inr (inl h)) = inl (inr (in_any (IsStrayJob content refused) (map.values content.jobs) f h.job
      (contains_in h.job (map.values content.jobs) h.there) h.stray))
  of_finding f (inr (inr h)) = inr (in_any IsStuckCron (map.values content.crons) f h.cron
      (contains_in h.cron (map.values content.crons) h.there) h.stuck)

  -- For audit: what is noted in an empty set is what is wrong in the cluster.
  pub audited : (a b c d : BTreeSet Finding) → a.keys ≡ []
      → Notes (AnyOf (IsFindingOf zones content) (map.values content.crons)) a b
      → Notes (AnyOf (IsStrayJob content refused) (map.values content.jobs)) b c
      → Notes (AnyOf IsStuckCron (map.values content.crons)) c d → IsOrdered finding_cmp d
      → IsAudit zones content refused d.keys
  audited a b c d empty n m o ordered =
      let two = notes_then (AnyOf (IsFindingOf zones content) (map.values content.crons))
      (AnyOf (IsStrayJob content refused) (map.values content.jobs)) a b c n m in
      let all = notes_then (λ f. AnyOf (IsFindingOf zones content) (map.values content.crons) f
      ⊎ AnyOf (IsStrayJob content refused) (map.values content.jobs) f)
      (AnyOf IsStuckCron (map.values content.crons)) a c d two o in
      record {
        each = all_in (IsFinding zones content refused) d.keys (λ f i. elim (all.found f (have_keys f d i)) [
          | inl was ↦ absurd (subst (λ xs. IsIn f xs) empty (keys_have f a was))
          | inr h ↦ finding_of f h
        ]);
        all = λ f h. in_contains f d.keys (keys_have f d (all.noted f (of_finding f h)));
        rises = ordered;
      }
