-- What is cleaned up, and what the final status names.
use Rattle.std.proofs.Common.{◌≡◌, ◌∙◌, ◌⊎◌, inl, inr, ap, sym, subst, refl, ℕ, Bool, true, false, not, ◌&&◌, cond, List, [], ◌++◌, Option, None, Some, option_map, is_none}
use Rattle.cj_types.specs.declared.cron.CronJob.{CronJob}
use Rattle.cj_types.specs.declared.cron.CronStatus.{CronStatus}
use Rattle.cj_types.specs.declared.job.Job.{Job}
use Rattle.cj_types.specs.declared.policy.Outcome.{Outcome}
use Rattle.cj_types.specs.Made.{made_name}
use Rattle.cj_types.specs.Objects.{is_unfinished}
use Rattle.cj_types.specs.Uids.{uid_text}
use Rattle.cj_zone.specs.declared.zone.Zone.{Zone}
use Rattle.cj_status.specs.declared.listing.Pick.{Pick}
use Rattle.cj_status.specs.declared.listing.Pick.TheVariants as Meant
use Rattle.cj_status.specs.declared.order.Sorting.TheVariants.{ByName, ByAge}
use Rattle.cj_status.specs.declared.refs.JobRef.{JobRef}
use Rattle.cj_status.specs.Active.{names_with, still_active}
use Rattle.cj_status.specs.Mine.{is_mine, is_running, ended_well, ended_badly}
use Rattle.cj_status.specs.Picked.{picks, picked, gathered}
use Rattle.cj_status.specs.Refs.{precedes, has_any}
use Rattle.cj_status.specs.Surplus.{is_kept, surplus_by}
use Rattle.cj_decide.specs.declared.steps.Steps.{Steps}
use Rattle.cj_decide.specs.Start.{claim_of}
use Rattle.cj_decide.specs.Finally.{with_made, active_after, final, standing, IsStatusStep, cleanup_of}
use Rattle.cj_decide.specs.Decision.{running_of, claim_by, IsDecision}
use Rattle.cj_decide.specs.laws.Laws.{IsIn, IsCleaned, CleansFinished, IsFoundOf, IsMadeName, IsNamed, is_replacing, NamesAtEnd}
use Rattle.cj_decide.proofs.LawsLemmas.Members.{in_parts, in_filtered, in_ordered, in_gathered, with_has, with_one, with_others, still_has, has_still}
use Rattle.cj_decide.proofs.LawsLemmas.StartDecisions.{start_replaces}

-- ---- cleanup

-- A Job that isn't the CronJob's own is none of its unfinished ones.
foreign_rests : (mine left : Bool) → not mine ≡ true → mine && left ≡ false
foreign_rests true left e = absurd (cc)
foreign_rests false left e = refl

-- A Job of the CronJob that ended with success is none of its unfinished ones.
well_rests : (mine : Bool) (o : Option Outcome) → mine && ended_well o ≡ true → mine && is_none o ≡ false
well_rests false o e = refl
well_rests true None e = absurd (cc)
well_rests true (Some o) e = refl

-- A Job of the CronJob that failed is none of its unfinished ones.
badly_rests : (mine : Bool) (o : Option Outcome) → mine && ended_badly o ≡ true → mine && is_none o ≡ false
badly_rests false o e = refl
badly_rests true None e = absurd (cc)
badly_rests true (Some o) e = refl

-- Where a pick means none of the unfinished Jobs, what it gathers are listed Jobs that aren't
-- unfinished ones of the CronJob.
picked_cleaned : (pick : Pick) (uid : List ℕ) (jobs : List Job) (r : JobRef)
    → ((job : Job) → picks pick uid job ≡ true → is_running uid job ≡ false)
    → IsIn r (gathered (picks pick uid) jobs) → IsCleaned uid jobs r
picked_cleaned pick uid jobs r f h =
    let k = in_gathered (picks pick uid) jobs r h in
    record { job = k.job; listed = k.listed; is = k.is; rests = f k.job k.passes }

-- The same of those of a pick that the history limit no longer keeps.
surplus_cleaned : (pick : Pick) (limit : ℕ) (uid : List ℕ) (jobs : List Job) (r : JobRef)
    → ((job : Job) → picks pick uid job ≡ true → is_running uid job ≡ false)
    → IsIn r (surplus_by pick limit uid jobs) → IsCleaned uid jobs r
surplus_cleaned pick limit uid jobs r f h =
    let k = in_filtered (λ x. not (is_kept limit (picked pick ByAge uid jobs) x)) r (picked pick ByAge uid jobs) h in
    picked_cleaned pick uid jobs r f (in_ordered (precedes ByAge) r (gathered (picks pick uid) jobs) k.0)

-- All that the cleanup of a CronJob names are listed Jobs that aren't unfinished ones of it.
cleaned : (c : CronJob) (jobs : List Job) (r : JobRef) → IsIn r (cleanup_of c jobs)
    → IsCleaned (uid_text c.meta.uid) jobs r
cleaned c jobs r h = first (in_parts r (picked Meant.Foreign ByName (uid_text c.meta.uid) jobs) _ h)
  where
    second : IsIn r (surplus_by Meant.Completed c.spec.successful_limit (uid_text c.meta.uid) jobs)
        ⊎ IsIn r (surplus_by Meant.Failed c.spec.failed_limit (uid_text c.meta.uid) jobs)
        → IsCleaned (uid_text c.meta.uid) jobs r
    second (inl k) = surplus_cleaned Meant.Completed c.spec.successful_limit (uid_text c.meta.uid) jobs r
        (λ job e. well_rests (is_mine (uid_text c.meta.uid) job) job.outcome e) k
    second (inr k) = surplus_cleaned Meant.Failed c.spec.failed_limit (uid_text c.meta.uid) jobs r
        (λ job e. badly_rests (is_mine (uid_text c.meta.uid) job) job.outcome e) k

    first : IsIn r (picked Meant.Foreign ByName (uid_text c.meta.uid) jobs)
        ⊎ IsIn r (surplus_by Meant.Completed c.spec.successful_limit (uid_text c.meta.uid) jobs
        ++ surplus_by Meant.Failed c.spec.failed_limit (uid_text c.meta.uid) jobs)
        → IsCleaned (uid_text c.meta.uid) jobs r
    first (inl k) = picked_cleaned Meant.Foreign (uid_text c.meta.uid) jobs r
        (λ job e. foreign_rests (is_mine (uid_text c.meta.uid) job) (is_unfinished job) e)
        (in_ordered (precedes ByName) r (gathered (picks Meant.Foreign (uid_text c.meta.uid)) jobs) k)
    first (inr k) = second (in_parts r (surplus_by Meant.Completed c.spec.successful_limit (uid_text c.meta.uid) jobs) _
        k)

-- For plan_laws: a plan for a CronJob cleans up none of its unfinished Jobs.
pub cleans_finished : CleansFinished
cleans_finished c jobs found now z p d r h = cleaned c jobs r
    (subst (IsIn r) (ap (λ (x : Steps). x.cleanup) d.meant.are) h)

-- ---- the final status

-- A name in a list with the made Job's name is one of the list, or the made Job's.
made_has : (c : CronJob) (start : Option ℕ) (names : List (List ℕ)) (name : List ℕ)
    → IsIn name (with_made c start names) → IsIn name names ⊎ IsMadeName c (option_map (claim_of c) start) name
made_has c None names name h = inl h
made_has c (Some t) names name h = by (with_has (made_name c.key.name t) names name h)
  where
    by : (made_name c.key.name t ≡ name) ⊎ IsIn name names → IsIn name names ⊎ (made_name c.key.name t ≡ name)
    by (inl e) = inr e
    by (inr k) = inl k

-- Conversely, a name of the list, or the made Job's, is in the list with the made Job's name.
has_made : (c : CronJob) (start : Option ℕ) (names : List (List ℕ)) (name : List ℕ)
    → IsIn name names ⊎ IsMadeName c (option_map (claim_of c) start) name → IsIn name (with_made c start names)
has_made c None names name (inl h) = h
has_made c None names name (inr h) = absurd h
has_made c (Some t) names name (inl h) = with_others (made_name c.key.name t) names name h
has_made c (Some t) names name (inr e) = subst (λ x. IsIn x (names_with (made_name c.key.name t) names)) e
    (with_one (made_name c.key.name t) names)

-- what is kept, by whether what runs is replaced
kept_has : (b : Bool) (uid : List ℕ) (names : List (List ℕ)) (found : List (Option Job)) (name : List ℕ)
    → IsIn name (cond b [] (still_active uid names found)) → (b ≡ false) × IsFoundOf uid names found name
kept_has true uid names found name h = absurd h
kept_has false uid names found name h = (refl, still_has uid names found name h)

-- Conversely, where what runs isn't replaced, each name whose Job was found unfinished is kept.
has_kept : (b : Bool) (uid : List ℕ) (names : List (List ℕ)) (found : List (Option Job)) (name : List ℕ)
    → (b ≡ false) × IsFoundOf uid names found name → IsIn name (cond b [] (still_active uid names found))
has_kept true uid names found name h = absurd (cc (h.0))
has_kept false uid names found name h = has_still uid names found name h.1

-- A status that a plan writes at the end is the final status by its start decision.
pub final_is : (c : CronJob) (jobs : List Job) (found : List (Option Job)) (now : ℕ) (z : Option
    Zone) (p : Steps) (f : CronStatus) (d : IsDecision c jobs found now z p)
    → p.status ≡ Some f → f ≡ final c jobs found d.start (claim_by c d.start)
final_is c jobs found now z p f d h = by d.meant.status d.meant.changes (sym (ap (λ (x : Steps). x.status) d.meant.are)
    ∙ h)
  where
    by : (s : Option CronStatus) → IsStatusStep (standing c (claim_by c d.start))
        (final c jobs found d.start (claim_by c d.start)) s → s ≡ Some f
        → f ≡ final c jobs found d.start (claim_by c d.start)
    by None k e = absurd (cc)
    by (Some s) k e = let same : s ≡ f = cc in sym same ∙ k.0

-- The start decision of a plan replaces what runs just where the policy does and the plan claims a time.
pub replaces_is : (c : CronJob) (jobs : List Job) (found : List (Option Job)) (now : ℕ) (z : Option
    Zone) (p : Steps) (d : IsDecision c jobs found now z p)
    → d.start.replaces ≡ is_replacing c.spec.policy p.claim
replaces_is c jobs found now z p d =
    start_replaces c z (has_any (running_of c found)) now d.start d.decided
    ∙ ap (is_replacing c.spec.policy) (sym (ap (λ (x : Steps). x.claim) d.meant.are))

-- For plan_laws: the final status names the Jobs found unfinished, where they aren't dropped, the
-- one that is made, and no others.
pub names_at_end : NamesAtEnd
names_at_end c jobs found now z p f d h name = record { only = only; all = all }
  where
    active : f.active ≡ active_after c found d.start
    active = ap (λ (x : CronStatus). x.active) (final_is c jobs found now z p f d h)

    claim : p.claim ≡ claim_by c d.start
    claim = ap (λ (x : Steps). x.claim) d.meant.are

    replaces : d.start.replaces ≡ is_replacing c.spec.policy p.claim
    replaces = replaces_is c jobs found now z p d

    kept : List (List ℕ)
    kept = cond d.start.replaces [] (still_active (uid_text c.meta.uid) c.status.active found)

    turn : IsIn name (cond d.start.replaces [] (still_active (uid_text c.meta.uid) c.status.active found))
        ⊎ IsMadeName c (claim_by c d.start) name → IsNamed c found p name
    turn (inl k) = let r = kept_has d.start.replaces (uid_text c.meta.uid) c.status.active found name k in inl
        (sym replaces ∙ r.0, r.1)
    turn (inr k) = inr (subst (λ x. IsMadeName c x name) (sym claim) k)

    back : IsNamed c found p name → IsIn name (cond d.start.replaces []
        (still_active (uid_text c.meta.uid) c.status.active found)) ⊎ IsMadeName c (claim_by c d.start) name
    back (inl k) = inl (has_kept d.start.replaces (uid_text c.meta.uid) c.status.active found name
        (replaces ∙ k.0, k.1))
    back (inr k) = inr (subst (λ x. IsMadeName c x name) claim k)

    only : IsIn name f.active → IsNamed c found p name
    only k =
        turn
        (made_has c d.start.time (cond d.start.replaces []
        (still_active (uid_text c.meta.uid) c.status.active found)) name (subst (IsIn name) active k))

    all : IsNamed c found p name → IsIn name f.active
    all k = subst (IsIn name) (sym active) (has_made c d.start.time
        (cond d.start.replaces [] (still_active (uid_text c.meta.uid) c.status.active found)) name (back k))
