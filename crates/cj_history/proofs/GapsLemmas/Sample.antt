-- Histories with gaps and without, on which the definitions compute: one sync under Forbid, one that starts its Job,
-- two syncs of one CronJob with calls of others in between, and a schedule that is edited while a Job runs.
use Rattle.std.proofs.Common.{◌≡◌, ◌∙◌, inl, inr, ℕ, ◌<◌, ◌≤◌, Bool, true, false, if◌then◌else◌, List, [], ◌∷◌, Option, Some, None, refl, sym, ap, subst, arith}
use Rattle.std.specs.Prelude.{Result, Ok, ◌==◌, ◌&&◌, ◌||◌}
use Rattle.std.proofs.lemmas.Bool.{eqb-true}
use Rattle.cj_base.specs.declared.refusal.Refusal.{Refusal}
use Rattle.cj_types.specs.declared.cron.CronJob.{CronJob}
use Rattle.cj_types.specs.declared.job.Job.{Job}
use Rattle.cj_types.specs.declared.policy.Reason.{Reason}
use Rattle.cj_schedule.specs.Matches.{Sets}
use Rattle.cj_schedule.specs.Grammar.{IsSchedule}
use Rattle.cj_zone.specs.declared.zone.Zone.{Zone}
use Rattle.cj_due.specs.Due.{due}
use Rattle.cj_decide.specs.Decision.{Planned}
use Rattle.cj_decide.specs.declared.steps.Steps.{Steps}
use Rattle.cj_calls.specs.declared.call.Call.{Call}
use Rattle.cj_calls.specs.declared.call.Call.TheVariants as Of
use Rattle.cj_calls.specs.declared.end.End.{End}
use Rattle.cj_calls.specs.declared.caller.Role.TheVariants.{User, Worker}
use Rattle.cj_calls.specs.declared.reply.Reply.{Reply}
use Rattle.cj_calls.specs.declared.reply.Reply.TheVariants as Say
use Rattle.cj_calls.specs.Rows.{Told}
use Rattle.cj_history.specs.declared.gaps.gap.Gap.{Gap}
use Rattle.cj_history.specs.declared.gaps.gap.Why.{Why}
use Rattle.cj_history.specs.declared.gaps.gap.Why.TheVariants.{Suspended, TooLate, Forbidden, Earlier, NameTaken, NotMade, NeverSynced}
use Rattle.cj_history.specs.declared.gaps.mark.Deed.{Deed}
use Rattle.cj_history.specs.declared.gaps.mark.Deed.TheVariants.{Claimed, Refused, Made}
use Rattle.cj_history.specs.gaps.Marks.{is_deed, is_told, has_job, claimed_for, claim_mark, making_mark, newer, says}
use Rattle.cj_history.specs.gaps.Causes.{is_forbidden, is_late}
use Rattle.cj_history.specs.gaps.Gaps.{IsGap}
use Rattle.cj_history.specs.gaps.Late.{IsLate}
use Rattle.cj_history.specs.gaps.Syncs.{last_scheduled, IsMissed, CountedAt, CountedIn}
use Rattle.cj_history.proofs.GapsLemmas.Whole.{one_schedule, one_count, same_nat}
use Rattle.cj_history.proofs.ProgressLemmas.HourSample.{hourly, utc, due_hour}

abbrev by_worker : Call → Result Reply Refusal → Told
by_worker call answer = record { caller = record { number = 1; role = Worker }; call = call; answer = answer }

abbrev by_user : Call → Result Reply Refusal → Told
by_user call answer = record { caller = record { number = 2; role = User }; call = call; answer = answer }

-- Of the causes Forbidden is the first that holds.
forbidden_first : (a b c : Bool) → a ≡ false → b ≡ false → c ≡ true
    → ◌≡◌ {A = Why} Forbidden (if a then Suspended else if b then TooLate else if c then Forbidden else Earlier)
forbidden_first true b c e f g = absurd (cc e)
forbidden_first false true c e f g = absurd (cc f)
forbidden_first false false true e f g = refl
forbidden_first false false false e f g = absurd (cc g)

-- Where both tests hold, a Made mark tests as equal to itself.
both_same : (a b : Bool) → a ≡ true → b ≡ true → (a && (b && true)) ≡ true
both_same true true e f = refl
both_same true false e f = absurd (cc f)
both_same false b e f = absurd (cc e)

-- ---- one sync

-- p is a plan of the CronJob in the zone, and t a time that it has missed at the plan's moment.
module _ (cron : CronJob) (p : Planned) (z : Zone) (t : ℕ) (stands : p.cron ≡ Some cron) (known : p.zone ≡ Some z)
    (missed : IsMissed cron z p.at t) where
  -- the plan was claimed, and claims nothing
  abbrev left : List Told
  left = by_worker (Of.Claim p) (Ok (Say.Claimed None)) ∷ []

  -- The time is a gap of it: under Forbid, where the CronJob isn't suspended and its deadline wasn't over.
  left_is_gap : cron.spec.suspend ≡ false → is_late cron p t ≡ false → is_forbidden p ≡ true
      → IsGap left (record { cron = cron; time = t; why = Forbidden })
  left_is_gap runs early forbids = inl (record {
    plan = p;
    sync = refl;
    stands = stands;
    counts = record { zone = z; known = known; missed = missed };
    first = λ c. c;
    jobless = refl;
    why = forbidden_first cron.spec.suspend (is_late cron p t) (is_forbidden p) runs early forbids;
  })

  -- the plan was claimed for the time, and its Job made
  abbrev started : ℕ → Reply → List Told
  started version reply =
      by_worker Of.MakeNext (Ok reply) ∷ by_worker (Of.Claim p) (Ok (Say.Claimed (Some (t, version)))) ∷ []

  -- So the time has its Job.
  has_made : (version : ℕ) (reply : Reply) → has_job (is_told (started version reply)) cron.meta.uid t ≡ true
  has_made version reply = subst (λ (o : Option CronJob). told o ≡ true) (sym stands) here
    where
      told : Option CronJob → Bool
      told o =
          says (making_mark (newer (claimed_for o t) None) Of.MakeNext (Ok reply))
          (record { uid = cron.meta.uid; time = t; deed = Made })
          || (says (newer (claim_mark (claimed_for o t)) None) (record { uid = cron.meta.uid; time = t; deed = Made })
          || false)

      first : (b : Bool) (c : Bool) → b ≡ true → (b || c) ≡ true
      first true c e = refl
      first false c e = absurd (cc e)

      here : told (Some cron) ≡ true
      here = first _ _ (both_same (cron.meta.uid == cron.meta.uid) (t == t) (same_nat cron.meta.uid) (same_nat t))

  -- And it is no gap.
  pub started_is_none : (version : ℕ) (reply : Reply) (g : Gap) → IsGap (started version reply) g
      → g.cron.meta.uid ≡ cron.meta.uid → g.time ≡ t → ⊥
  started_is_none version reply g is uid time = by is
    where
      told : has_job (is_told (started version reply)) g.cron.meta.uid g.time ≡ true
      told =
          ap (λ (u : ℕ). has_job (is_told (started version reply)) u g.time) uid
          ∙ ap (λ (x : ℕ). has_job (is_told (started version reply)) cron.meta.uid x) time
          ∙ has_made version reply

      no : has_job (is_told (started version reply)) g.cron.meta.uid g.time ≡ false → ⊥
      no e = let f = sym e ∙ told in absurd (cc f)

      by : IsGap (started version reply) g → ⊥
      by (inl a) = no a.jobless
      by (inr (inl a)) = no a.jobless
      by (inr (inr k)) = absurd k

-- One o'clock is such a gap of an hourly CronJob in UTC: its due time computes.
pub hour_is_gap : (cron : CronJob) (p : Planned) → IsSchedule cron.spec.schedule hourly → p.cron ≡ Some cron
    → p.zone ≡ Some utc
    → last_scheduled cron < 3_600 → 3_600 ≤ p.at → cron.spec.suspend ≡ false → is_late cron p 3_600 ≡ false
    → is_forbidden p ≡ true
    → IsGap (by_worker (Of.Claim p) (Ok (Say.Claimed None)) ∷ [])
    (record { cron = cron; time = 3_600; why = Forbidden })
hour_is_gap cron p reads stands known above within runs early forbids =
    left_is_gap cron p utc 3_600 stands known
    (record { schedule = hourly; reads = reads; is_due = due_hour; above = above; within = within }) runs early forbids

-- And where no sync looked at it, it is late.
pub hour_is_late : (cron : CronJob) (at : ℕ) → IsSchedule cron.spec.schedule hourly → last_scheduled cron < 3_600
    → 3_600 ≤ at
    → IsLate [] cron utc at (record { cron = cron; time = 3_600; why = NeverSynced })
hour_is_late cron at reads above within = record {
  of = refl;
  missed = record { schedule = hourly; reads = reads; is_due = due_hour; above = above; within = within };
  uncounted = λ c. c;
  jobless = refl;
  why = refl;
}

-- ---- two syncs of one CronJob, in a known zone

-- Marks of another time, and whatever is said of them, aren't these.
neither : (a b x y : Bool) → b ≡ false → ((a && (b && x)) || ((a && (b && y)) || false)) ≡ false
neither true true x y e = absurd (cc e)
neither true false x y e = refl
neither false b x y e = refl

-- Where nothing was claimed for the time, the cause is the plan's.
cause_first : (a b : Bool) (w : Why) → a ≡ false → b ≡ false → Forbidden ≡ w
    → Forbidden ≡ (if a then NameTaken else if b then NotMade else w)
cause_first true b w e f g = absurd (cc e)
cause_first false true w e f g = absurd (cc f)
cause_first false false w e f g = g

-- Different times test so.
other_time : (t u : ℕ) → t < u → (t == u) ≡ false
other_time t u l = by (t == u) refl
  where
    by : (b : Bool) → (t == u) ≡ b → b ≡ false
    by true e = let s = eqb-true t u e in absurd (omega (arith, l, s))
    by false e = refl

-- old is the CronJob as the first sync saw it at the moment one, now as the second did at the moment two.
module _ (old now : CronJob) (z : Zone) (steps rest : Steps) (one two : ℕ) where
  abbrev plan_old : Planned
  plan_old = record { cron = Some old; jobs = []; active = []; at = one; zone = Some z; steps = steps }

  abbrev plan_now : Planned
  plan_now = record { cron = Some now; jobs = []; active = []; at = two; zone = Some z; steps = rest }

  -- the second claims nothing
  abbrev claim_now : Told
  claim_now = by_worker (Of.Claim plan_now) (Ok (Say.Claimed None))

  -- What the first counts, it has missed.
  old_missed : (r : Reply) (u t : ℕ) → CountedAt (by_worker (Of.Claim plan_old) (Ok r)) u t → IsMissed old z one t
  old_missed r u t c =
      (one_count (λ m. false) [] [] (by_worker (Of.Claim plan_old) (Ok r)) plan_old refl [] old z refl refl c.plan
      c.cron t c.sync c.stands c.counts).2

  -- The first sync starts a Job for t, and a user lists Jobs between its calls, up to its Finish; the second counts the
  -- later time u while that Job runs.
  module _ (t u version : ℕ) (jobs : List Job) (made ended : Reply) (end : End) (reasons : List Reason)
      (later : one < u) (past : t ≤ one) (missed : IsMissed now z two u) where
    -- up to the second claim
    abbrev before : List Told
    before =
        by_worker (Of.Finish end reasons) (Ok ended)
        ∷ by_user Of.ListJobs (Ok (Say.Jobs jobs version))
        ∷ by_worker Of.MakeNext (Ok made)
        ∷ by_user Of.ListJobs (Ok (Say.Jobs [] version))
        ∷ by_worker (Of.Claim plan_old) (Ok (Say.Claimed (Some (t, version))))
        ∷ []

    -- The first sync counted nothing later than its moment, and nobody else counts.
    not_before : CountedIn before now.meta.uid u → ⊥
    not_before (inl c) = let e = c.sync in absurd (cc e)
    not_before (inr (inl c)) = let e = c.sync in absurd (cc e)
    not_before (inr (inr (inl c))) = let e = c.sync in absurd (cc e)
    not_before (inr (inr (inr (inl c)))) = let e = c.sync in absurd (cc e)
    not_before (inr (inr (inr (inr (inl c))))) =
        let m = (old_missed (Say.Claimed (Some (t, version))) now.meta.uid u c).within in absurd (omega (arith, m, later))
    not_before (inr (inr (inr (inr (inr c))))) = c

    -- Nothing is told of the later time.
    untold : (d : Deed) → is_told (claim_now ∷ before) (record { uid = now.meta.uid; time = u; deed = d }) ≡ false
    untold d =
        neither (old.meta.uid == now.meta.uid) (t == u) (is_deed Made d) (is_deed Claimed d)
        (other_time t u (omega (arith, later, past)))

    -- So that is a gap, under Forbid.
    pub later_is_gap : now.spec.suspend ≡ false → is_late now plan_now u ≡ false → is_forbidden plan_now ≡ true
        → IsGap (claim_now ∷ before) (record { cron = now; time = u; why = Forbidden })
    later_is_gap runs early forbids = inl (record {
      plan = plan_now;
      sync = refl;
      stands = refl;
      counts = record { zone = z; known = refl; missed = missed };
      first = not_before;
      jobless = untold Made;
      why = cause_first _ _ _ (untold Refused) (untold Claimed)
          (forbidden_first now.spec.suspend (is_late now plan_now u) (is_forbidden plan_now) runs early forbids);
    })

  -- The first sync claims nothing; after it the schedule is edited, by which t was due before that sync's moment.
  module _ (s : Sets) (t : ℕ) (reads : IsSchedule old.spec.schedule s) (undue : due s z t ≡ false)
      (missed : IsMissed now z two t) where
    abbrev claim_old : Told
    claim_old = by_worker (Of.Claim plan_old) (Ok (Say.Claimed None))

    -- The first sync didn't count it, whatever its moment: it isn't due by the schedule that it read.
    unseen : CountedIn (claim_old ∷ []) now.meta.uid t → ⊥
    unseen (inl c) =
        let m = old_missed (Say.Claimed None) now.meta.uid t c in
        let same : m.schedule ≡ s = one_schedule old.spec.schedule m.schedule s m.reads reads in
        let no = sym undue ∙ subst (λ (x : Sets). due x z t ≡ true) same m.is_due in
        absurd (cc no)
    unseen (inr c) = c

    -- So it is a gap of the second, under Forbid.
    pub edited_is_gap : now.spec.suspend ≡ false → is_late now plan_now t ≡ false → is_forbidden plan_now ≡ true
        → IsGap (claim_now ∷ claim_old ∷ []) (record { cron = now; time = t; why = Forbidden })
    edited_is_gap runs early forbids = inl (record {
      plan = plan_now;
      sync = refl;
      stands = refl;
      counts = record { zone = z; known = refl; missed = missed };
      first = unseen;
      jobless = refl;
      why = forbidden_first now.spec.suspend (is_late now plan_now t) (is_forbidden plan_now) runs early forbids;
    })

-- An hourly CronJob of which a sync at half past one knew another schedule: one o'clock is a gap of the next sync.
pub edited_hour : (old now : CronJob) (steps rest : Steps) (s : Sets) → IsSchedule old.spec.schedule s
    → due s utc 3_600 ≡ false
    → IsSchedule now.spec.schedule hourly → last_scheduled now < 3_600 → now.spec.suspend ≡ false
    → is_late now (plan_now old now utc steps rest 5_400 5_460) 3_600 ≡ false
    → is_forbidden (plan_now old now utc steps rest 5_400 5_460) ≡ true
    → IsGap (claim_now old now utc steps rest 5_400 5_460
    ∷ by_worker (Of.Claim (plan_old old now utc steps rest 5_400 5_460)) (Ok (Say.Claimed None)) ∷ [])
    (record { cron = now; time = 3_600; why = Forbidden })
edited_hour old now steps rest s reads undue hours above runs early forbids =
    edited_is_gap old now utc steps rest 5_400 5_460 s 3_600 reads undue
    (record { schedule = hourly; reads = hours; is_due = due_hour; above = above; within = omega arith }) runs early forbids
