-- The due times that have no Job, as they are noted and as they are defined.
use Rattle.std.proofs.Common.{◌≡◌, ◌⊎◌, inl, inr, ◌<◌, ℕ, Bool, true, false, ◌&&◌, ◌||◌, not, nat_lt, cond, List, [], ◌∷◌, Option, Some, filter, length, refl, sym, ap, ◌∙◌, subst, arith}
use Rattle.std.proofs.lemmas.Bool.Decides.{nat_tests}
use Rattle.std.specs.List.{list_any}
use Rattle.std.specs.BTreeSet.{BTreeSet, contains}
use Rattle.std.specs.Ordering.{nat_cmp}
use Rattle.std.specs.FinMap as map
use Rattle.cj_types.specs.declared.job.Job.{Job}
use Rattle.cj_schedule.specs.Matches.{Sets}
use Rattle.cj_zone.specs.declared.zone.Zone.{Zone}
use Rattle.cj_table.specs.jobs.Owners.{is_job_of, owned_by}
use Rattle.cj_cluster.specs.declared.cron.ClusterCron.{ClusterCron}
use Rattle.cj_cluster.specs.Content.{Content, is_of}
use Rattle.cj_audit.specs.declared.ending.Ending.{Ending}
use Rattle.cj_audit.specs.declared.ending.Ending.TheVariants.{Success, Failure}
use Rattle.cj_audit.specs.declared.marks.Marks.{Marks}
use Rattle.cj_audit.specs.declared.finding.Finding.{Finding}
use Rattle.cj_audit.specs.declared.run.Run.{Run}
use Rattle.cj_audit.specs.Marks.{kept_in, AreMarks, IsGapNote, IsMissingIn}
use Rattle.cj_audit.specs.Missing.{ended_count, ends, is_at, is_behind, is_ended, is_older, limit_of, row_most, HasRun, IsInRow, IsKept, IsMissingOf}
use Rattle.cj_audit.specs.Notes.{AnyOf, Notes}
use Rattle.cj_audit.specs.Runs.{AreRunsOf, IsRunOf}
use Rattle.cj_audit.specs.Times.{zone_for}
use Rattle.cj_audit.proofs.Marking.{marks_lack}
use Rattle.cj_audit.proofs.Members.{IsIn, any_true, contains_in, in_all, in_contains}
use Rattle.cj_audit.proofs.Noting.{notes_as}
use Rattle.cj_audit.proofs.OfCron.{IsRead}
use Rattle.cj_audit.proofs.PairsIn.{first_of, second_of}
use Rattle.cj_audit.proofs.Rows.{row_map}
use Rattle.cj_audit.proofs.RunsIn.{of_key}
use Rattle.cj_audit.proofs.Walks.{any_in, in_any}

-- Where any of a list passes the test, one that stands in it does.
any_found : (p : Run → Bool) (xs : List Run) → list_any p xs ≡ true → (run : Run) × (IsIn run xs × (p run ≡ true))
any_found p [] h = absurd (cc h)
any_found p (x ∷ xs) h = by (p x) refl (λ rest. any_found p xs rest) h
  where
    by : (b : Bool) → p x ≡ b → (list_any p xs ≡ true → (run : Run) × (IsIn run xs × (p run ≡ true)))
        → (b || list_any p xs) ≡ true → (run : Run) × (IsIn run (x ∷ xs) × (p run ≡ true))
    by true e more k = (x, (inl refl, e))
    by false e more k = let rest = more k in (rest.0, (inr (rest.1).0, (rest.1).1))

-- For count_owned: what a filter leaves of what another has left that lets pass all that it does.
filter_filter : (p q : Job → Bool) → ((job : Job) → q job ≡ true → p job ≡ true) → (jobs : List Job)
    → filter q (filter p jobs) ≡ filter q jobs
filter_filter p q within [] = refl
filter_filter p q within (job ∷ jobs) = by (p job) (q job) refl refl (filter_filter p q within jobs)
  where
    by : (a b : Bool) → p job ≡ a → q job ≡ b → filter q (filter p jobs) ≡ filter q jobs
        → filter q (cond a (job ∷ filter p jobs) (filter p jobs)) ≡ cond b (job ∷ filter q jobs) (filter q jobs)
    by true true e f rest = rw f (ap (λ xs. job ∷ xs) rest)
    by true false e f rest = rw f rest
    by false true e f rest = let also = within job f in absurd (cc (also, e))
    by false false e f rest = rest

-- Jobs of a CronJob that ended are counted among those that name it.
count_owned : (e : Ending) (content : Content) (c : ClusterCron)
    → ended_count e c (owned_by content.jobs c.cron.key) ≡ ended_count e c (map.values content.jobs)
count_owned e content c = ap length (filter_filter (is_job_of c.cron.key) (is_ended e c)
    (λ job h. of_key c job (first_of (is_of c job) (ends e job) h)) (map.values content.jobs))

-- Of two tests of which one holds, which it is.
or_either : (a b : Bool) → (a || b) ≡ true → (a ≡ true) ⊎ (b ≡ true)
or_either true b h = inl refl
or_either false b h = inr h

module _ (content : Content) (c : ClusterCron) (runs : List Run) (are : AreRunsOf content c runs) where
  -- What any Job of the list passes some Job of the CronJob does.
  has_of : (p : Run → Bool) → list_any p runs ≡ true → HasRun content c p
  has_of p h = by (any_found p runs h)
    where
      by : (run : Run) × (IsIn run runs × (p run ≡ true)) → HasRun content c p
      by (run, (i, passes)) =
          record { run = run; run_of = in_all (IsRunOf content c) runs run are.each i; passes = passes }

  -- And the other way round.
  of_has : (p : Run → Bool) → HasRun content c p → list_any p runs ≡ true
  of_has p h = any_true p h.run runs (contains_in h.run runs (are.all h.run h.run_of)) h.passes

  -- Where no Job of the CronJob passes, none of the list does.
  of_none : (p : Run → Bool) → (HasRun content c p → ⊥) → not (list_any p runs) ≡ true
  of_none p none = by (list_any p runs) refl
    where
      by : (b : Bool) → list_any p runs ≡ b → not b ≡ true
      by true e = absurd (none (has_of p e))
      by false e = refl

  none_of : (p : Run → Bool) → not (list_any p runs) ≡ true → HasRun content c p → ⊥
  none_of p h has = let some = of_has p has in
      let not_true : not true ≡ true = subst (λ b. not b ≡ true) some h in absurd (cc not_true)

  -- What clean-up would have left, by the Jobs of the list and those that name the CronJob.
  kept_of : (e : Ending) (time : ℕ) → kept_in e c runs (owned_by content.jobs c.cron.key) time ≡ true
      → IsKept content c time e
  kept_of e time h =
      elim (or_either (list_any (is_older e time) runs)
      (nat_lt (ended_count e c (owned_by content.jobs c.cron.key)) (limit_of e c.cron.spec)) h) [
        | inl a ↦ inl (has_of (is_older e time) a)
        | inr b ↦ inr (fewer (ended_count e c (owned_by content.jobs c.cron.key))
            (ended_count e c (map.values content.jobs)) (limit_of e c.cron.spec) (count_owned e content c) b)
      ]
    where
      fewer : (n m limit : ℕ) → n ≡ m → nat_lt n limit ≡ true → m < limit
      fewer n m limit same b = grind (arith, nat_tests)

  -- And the other way round.
  of_kept : (e : Ending) (time : ℕ) → IsKept content c time e
      → kept_in e c runs (owned_by content.jobs c.cron.key) time ≡ true
  of_kept e time (inl has) =
      or_left (list_any (is_older e time) runs)
      (nat_lt (ended_count e c (owned_by content.jobs c.cron.key)) (limit_of e c.cron.spec))
      (of_has (is_older e time) has)
    where
      or_left : (a b : Bool) → a ≡ true → (a || b) ≡ true
      or_left true b h = refl
      or_left false b h = absurd (cc h)
  of_kept e time (inr less) =
      or_right (list_any (is_older e time) runs)
      (nat_lt (ended_count e c (owned_by content.jobs c.cron.key)) (limit_of e c.cron.spec))
      (fewer (ended_count e c (owned_by content.jobs c.cron.key)) (ended_count e c (map.values content.jobs))
      (limit_of e c.cron.spec) (count_owned e content c) less)
    where
      or_right : (a b : Bool) → b ≡ true → (a || b) ≡ true
      or_right true b h = refl
      or_right false b h = h

      fewer : (n m limit : ℕ) → n ≡ m → m < limit → nat_lt n limit ≡ true
      fewer n m limit same l = grind (arith, nat_tests)

-- Of two tests both hold.
both : (a b : Bool) → a ≡ true → b ≡ true → (a && b) ≡ true
both true b h k = k
both false b h k = absurd (cc h)

module _ (zones : List Zone) (content : Content) (c : ClusterCron) (s : Option Sets) (z : Option Zone) (runs : List Run)
    (read : IsRead c.cron.spec.schedule s) (in_zone : z ≡ zone_for c.cron.spec.time_zone zones)
    (are : AreRunsOf content c runs) where
  abbrev Jobs : List Job
  Jobs = owned_by content.jobs c.cron.key

  -- What is noted of these Jobs is a due time that has no Job.
  missing_of : (f : Finding) → IsMissingIn s z c runs Jobs f → IsMissingOf zones content c f
  missing_of f h =
      let Behind = list_any (is_behind h.time) runs in
      let Free = not (list_any (is_at h.time) runs) in
      let Done = kept_in Success c runs Jobs h.time in
      let Bad = kept_in Failure c runs Jobs h.time in
      let rest = second_of Behind (Free && (Done && Bad)) h.lacks in
      let kept = second_of Free (Done && Bad) rest in
      record {
        run = h.run;
        run_of = in_all (IsRunOf content c) runs h.run are.each (contains_in h.run runs h.run_in);
        last = h.last;
        scheduled = h.scheduled;
        time = h.time;
        next = record {
          schedule = h.schedule;
          zone = h.zone;
          reads = read.found h.schedule h.is_schedule;
          in_zone = sym in_zone ∙ h.is_zone;
          row = row_map h.schedule h.zone (λ t. not (list_any (is_at t) runs) ≡ true)
              (λ t. HasRun content c (is_at t) → ⊥) (λ t k. none_of content c runs are (is_at t) k) row_most h.last
              h.time h.row;
        };
        none = none_of content c runs are (is_at h.time) (first_of Free (Done && Bad) rest);
        later = has_of content c runs are (is_behind h.time) (first_of Behind (Free && (Done && Bad)) h.lacks);
        starts = h.starts;
        kept =
            λ e. kept_of content c runs are e h.time (of_ending e (first_of Done Bad kept) (second_of Done Bad kept));
        awake = h.awake;
        is = h.is;
      }
    where
      of_ending : (e : Ending) → kept_in Success c runs Jobs h.time ≡ true → kept_in Failure c runs Jobs h.time ≡ true
          → kept_in e c runs Jobs h.time ≡ true
      of_ending Success a b = a
      of_ending Failure a b = b

  -- And the other way round.
  of_missing : (f : Finding) → IsMissingOf zones content c f → IsMissingIn s z c runs Jobs f
  of_missing f h =
      let Behind = list_any (is_behind h.time) runs in
      let Free = not (list_any (is_at h.time) runs) in
      let Done = kept_in Success c runs Jobs h.time in
      let Bad = kept_in Failure c runs Jobs h.time in
      record {
        schedule = h.next.schedule;
        zone = h.next.zone;
        is_schedule = read.only h.next.schedule h.next.reads;
        is_zone = in_zone ∙ h.next.in_zone;
        awake = h.awake;
        run = h.run;
        run_in = are.all h.run h.run_of;
        last = h.last;
        scheduled = h.scheduled;
        time = h.time;
        row = row_map h.next.schedule h.next.zone (λ t. HasRun content c (is_at t) → ⊥)
            (λ t. not (list_any (is_at t) runs) ≡ true) (λ t k. of_none content c runs are (is_at t) k) row_most h.last
            h.time h.next.row;
        starts = h.starts;
        lacks = both Behind (Free && (Done && Bad)) (of_has content c runs are (is_behind h.time) h.later)
            (both Free (Done && Bad) (of_none content c runs are (is_at h.time) h.none)
            (both Done Bad (of_kept content c runs are Success h.time (h.kept Success))
            (of_kept content c runs are Failure h.time (h.kept Failure))));
        is = h.is;
      }

  -- For note_alone: what is noted of the Jobs are the due times that have none.
  pub all_missing : (a b : BTreeSet Finding) → Notes (IsMissingIn s z c runs Jobs) a b
      → Notes (IsMissingOf zones content c) a b
  all_missing a b n = notes_as (IsMissingIn s z c runs Jobs) (IsMissingOf zones content c) a b missing_of of_missing n

module _ (s : Sets) (z : Zone) (c : ClusterCron) (runs : List Run) (jobs : List Job) (m : Marks)
    (are : AreMarks c runs jobs m) (awake : c.cron.spec.suspend ≡ false) where
  -- What is noted by what the Jobs tell together is what is noted of them.
  gap_of : (f : Finding) → (run : Run) × (IsIn run runs × IsGapNote s z c m run f)
      → IsMissingIn (Some s) (Some z) c runs jobs f
  gap_of f (run, (i, h)) = record {
    schedule = s;
    zone = z;
    is_schedule = refl;
    is_zone = refl;
    awake = awake;
    run = run;
    run_in = in_contains run runs i;
    last = h.last;
    scheduled = h.scheduled;
    time = h.note.time;
    row = row_map s z (λ t. contains nat_cmp m.times t ≡ false) (λ t. not (list_any (is_at t) runs) ≡ true)
        (λ t k. ap not (sym (are.times.has t) ∙ k)) row_most h.last h.note.time h.note.row;
    starts = h.note.hole.starts;
    lacks = sym (marks_lack c runs jobs m are h.note.time) ∙ h.note.hole.lacks;
    is = h.note.hole.is;
  }

  -- For of_gap: a time that no Job of the list has isn't among their times.
  free_in : (t : ℕ) → not (list_any (is_at t) runs) ≡ true → contains nat_cmp m.times t ≡ false
  free_in t k = are.times.has t ∙ not_true (list_any (is_at t) runs) k
    where
      not_true : (b : Bool) → not b ≡ true → b ≡ false
      not_true true e = absurd (cc e)
      not_true false e = refl

  -- And the other way round.
  of_gap : (f : Finding) → IsMissingIn (Some s) (Some z) c runs jobs f → AnyOf (IsGapNote s z c m) runs f
  of_gap f h =
      let same_schedule : h.schedule ≡ s = cc h.is_schedule in
      let same_zone : h.zone ≡ z = cc h.is_zone in
      in_any (IsGapNote s z c m) runs f h.run (contains_in h.run runs h.run_in) (record {
        last = h.last;
        scheduled = h.scheduled;
        note = record {
          time = h.time;
          row = row_map s z (λ t. not (list_any (is_at t) runs) ≡ true) (λ t. contains nat_cmp m.times t ≡ false)
              free_in row_most h.last h.time
              (subst (λ y. IsInRow row_most s y (λ t. not (list_any (is_at t) runs) ≡ true) h.last h.time) same_zone
              (subst (λ x. IsInRow row_most x h.zone (λ t. not (list_any (is_at t) runs) ≡ true) h.last h.time)
              same_schedule h.row));
          hole = record {
            starts = h.starts;
            lacks = marks_lack c runs jobs m are h.time ∙ h.lacks;
            is = h.is;
          };
        };
      })

  -- For note_missing: the gaps after the Jobs are what is noted of them.
  pub all_gaps : (a b : BTreeSet Finding) → Notes (AnyOf (IsGapNote s z c m) runs) a b
      → Notes (IsMissingIn (Some s) (Some z) c runs jobs) a b
  all_gaps a b n = notes_as (AnyOf (IsGapNote s z c m) runs) (IsMissingIn (Some s) (Some z) c runs jobs) a b
      (λ f h. gap_of f (any_in (IsGapNote s z c m) runs f h)) of_gap n

-- For note_alone: the same of a schedule that is told in other words.
pub missing_by : (zones : List Zone) (content : Content) (c : ClusterCron) (s t : Option Sets) (z : Option Zone)
    (runs : List Run) → IsRead c.cron.spec.schedule s → z ≡ zone_for c.cron.spec.time_zone zones
    → AreRunsOf content c runs → t ≡ s → (a b : BTreeSet Finding)
    → Notes (IsMissingIn t z c runs (owned_by content.jobs c.cron.key)) a b → Notes (IsMissingOf zones content c) a b
missing_by zones content c s t z runs read in_zone are e a b n =
    all_missing zones content c s z runs read in_zone are a b
    (subst (λ x. Notes (IsMissingIn x z c runs (owned_by content.jobs c.cron.key)) a b) e n)
