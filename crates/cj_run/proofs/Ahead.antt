-- In a run the clock goes on only where all is done that was due, so that each due time of a CronJob
-- which no entry troubles has its Job.
use Rattle.std.proofs.Common.{◌≡◌, ◌⊎◌, inl, inr, ◌∙◌, ◌+◌, ◌-◌, ◌<◌, ◌≤◌, ◌&&◌, ◌||◌, ℕ, zero, suc, Bool, true, false, List, [], ◌∷◌, ◌++◌, Option, Some, None, is_some, refl, sym, ap, subst, arith}
use Rattle.std.specs.Prelude.{Result, Ok, Err, if◌then◌else◌}
use Rattle.std.specs.FinMap as map
use Rattle.std.proofs.lemmas.Bool.{false≢true}
use Rattle.std.proofs.lemmas.List.{append_cancel_right}
use Rattle.cj_base.specs.declared.refusal.Refusal.{Refusal}
use Rattle.cj_types.specs.Keys.{Place}
use Rattle.cj_types.specs.declared.cron.CronJob.{CronJob}
use Rattle.cj_types.specs.declared.cron.CronJobDraft.{CronJobDraft}
use Rattle.cj_schedule.specs.Matches.{Sets}
use Rattle.cj_zone.specs.declared.zone.Zone.{Zone}
use Rattle.cj_due.specs.Due.{reach, missed_times}
use Rattle.cj_table.proofs.Puts.{put_split, put_there, removal_split}
use Rattle.cj_calls.specs.Rows.{Told}
use Rattle.cj_calls.specs.declared.call.Call.{Call}
use Rattle.cj_calls.specs.declared.call.Call.TheVariants as Of
use Rattle.cj_calls.specs.declared.caller.Role.TheVariants.{User}
use Rattle.cj_calls.specs.declared.reply.Reply.{Reply}
use Rattle.cj_calls.specs.declared.reply.Reply.TheVariants as Is
use Rattle.cj_state.specs.Legal.{IsLegal, state_of}
use Rattle.cj_world_laws.specs.legal.Exclusive.{IsTake}
use Rattle.cj_world_laws.specs.legal.InFlightSyncs.{sync}
use Rattle.cj_history.specs.progress.Apart.{Spares}
use Rattle.cj_history.specs.progress.Every.{looked_upto, IsNew}
use Rattle.cj_history.specs.progress.Kept.{NoneTakes, IsDone}
use Rattle.cj_history.specs.progress.Prompt.{IsOver, IsAwaited, first, again, GoesOn, KeepUp, HaveKeptUp}
use Rattle.cj_history.proofs.QueueLemmas.Agreed.{queue_agrees}
use Rattle.cj_history.proofs.ProgressLemmas.Gone.{deletes_it}
use Rattle.cj_history.proofs.ProgressLemmas.Apart.{syncs_keep_up}
use Rattle.cj_history.proofs.ProgressLemmas.InTime.{each_in_time, each_allowed, each_ended_in_time}
use Rattle.cj_world.specs.Worlds.{WorldLog}
use Rattle.cj_script.specs.simulation.Spans.{SpanView, instant}
use Rattle.cj_script.specs.declared.simulation.scenario.Simulation.{Simulation}
use Rattle.cj_run.specs.Syncs.{moment, next_moment, RunsUntroubled, RunKeepsUp, RunMakesEach, RunMakesEachAllowed, RunMakesEachEnded}
use Rattle.cj_run.specs.Turns.{are_timely, begins, edits, ends, progress, progress_of, turn}
use Rattle.cj_run.specs.Upkeep.{Drafts, KeepsUp, IsCaughtUp, is_over_with, untaken, untaken_by, untaken_after}
use Rattle.cj_run.specs.declared.turns.Progress.{Progress}
use Rattle.cj_run.proofs.Ordered.{both_left}
use Rattle.cj_run.proofs.Kept.{tail_of, no_entry}
use Rattle.cj_run.proofs.Later.{AreSpared}
use Rattle.cj_run.proofs.Apart.{clock_from, clock_on, mul_on, reached, none_at_rest, none_over, none_off, rests_of, Alone, alone}

-- ---- the ends of syncs

-- Where nobody has a sync, an entry ends none.
over_before : (e : Told) (h : List Told) (k : Place) (next : Option ℕ) → ((n : ℕ) → sync h n ≡ None)
    → IsOver (e ∷ h) k next → IsOver h k next
over_before e h k next none o = by o.after o.is o.untaken
  where
    by : (after : List Told) → e ∷ h ≡ after ++ o.entry ∷ o.before → NoneTakes k after → IsOver h k next
    by [] is u =
        let same : h ≡ o.before = ap tail_of is in
        absurd (cc (sym (none o.entry.caller.number)
        ∙ ap (λ (b : List Told). sync b o.entry.caller.number) same ∙ o.end.held))
    by (x ∷ after) is u = record {
      after = after;
      entry = o.entry;
      before = o.before;
      is = ap tail_of is;
      end = o.end;
      next_is = o.next_is;
      untaken = u.1;
    }

-- While the queue isn't shut, the next time is one of which it knows.
done_of : (window : ℕ) (h : List Told) (k : Place) (t : ℕ) → IsLegal window h
    → (state_of window h).queue.shut ≡ false → IsOver h k (Some t) → IsDone h k t
done_of window h k t l runs o = record {
  after = o.after;
  entry = o.entry;
  before = o.before;
  is = o.is;
  end = o.end;
  next = o.next_is;
  runs = sym (queue_agrees window h l).shut ∙ runs;
  untaken = o.untaken;
}

-- ---- the first sync

-- An accepted call that neither takes the key nor deletes its CronJob leaves it untaken.
untaken_call : (m : Drafts) (k : Place) (call : Call) (r : Reply) → is_some (map.get m k) ≡ true
    → (call ≡ Of.Take → r ≡ Is.Key k → ⊥) → (call ≡ Of.DeleteCron k → ⊥)
    → is_some (map.get (untaken_after m call r) k) ≡ true
untaken_call m k (Of.CreateCron d now) r was take gone = by (put_split m d.key d k)
  where
    by : ((k ≡ d.key) × (map.get (map.insert m d.key d) k ≡ Some d))
        ⊎ (map.get (map.insert m d.key d) k ≡ map.get m k)
        → is_some (map.get (map.insert m d.key d) k) ≡ true
    by (inl here) = ap (λ (o : Option CronJobDraft). is_some o) here.1
    by (inr there) = ap (λ (o : Option CronJobDraft). is_some o) there ∙ was
untaken_call m k (Of.DeleteCron q) r was take gone = by (removal_split m q k)
  where
    by : ((k ≡ q) × (map.get (map.remove m q) k ≡ None)) ⊎ (map.get (map.remove m q) k ≡ map.get m k)
        → is_some (map.get (map.remove m q) k) ≡ true
    by (inl here) = absurd (gone (ap (λ (p : Place). Of.DeleteCron p) (sym here.0)))
    by (inr there) = ap (λ (o : Option CronJobDraft). is_some o) there ∙ was
untaken_call m k Of.Take (Is.Key q) was take gone = by (removal_split m q k)
  where
    by : ((k ≡ q) × (map.get (map.remove m q) k ≡ None)) ⊎ (map.get (map.remove m q) k ≡ map.get m k)
        → is_some (map.get (map.remove m q) k) ≡ true
    by (inl here) = absurd (take refl (ap (λ (p : Place). Is.Key p) (sym here.0)))
    by (inr there) = ap (λ (o : Option CronJobDraft). is_some o) there ∙ was
untaken_call m k call r was take gone = was

-- So does an entry.
untaken_entry : (window : ℕ) (e : Told) (h : List Told) (k : Place) → IsLegal window (e ∷ h)
    → (e.caller.role ≡ User → Spares h e k None) → (IsTake k e → ⊥) → is_some (map.get (untaken h) k) ≡ true
    → is_some (map.get (untaken (e ∷ h)) k) ≡ true
untaken_entry window e h k l calm not was = by e.answer refl
  where
    by : (a : Result Reply Refusal) → e.answer ≡ a
        → is_some (map.get (untaken_by (untaken h) e.call a) k) ≡ true
    by (Err x) f = was
    by (Ok r) f =
        untaken_call (untaken h) k e.call r was
        (λ call key. not (record {
          call = call;
          answer = f ∙ ap (λ (y : Reply). Ok y) key;
        }))
        (λ call. deletes_it window e h k r l call f calm)

-- From its creation on a CronJob is untaken, while nobody takes its key.
still_untaken : (window : ℕ) (start es : List Told) (k : Place) (cron : CronJob) (s : Sets) → IsNew start k cron s
    → IsLegal window (es ++ start) → AreSpared k es start → NoneTakes k es
    → is_some (map.get (untaken (es ++ start)) k) ≡ true
still_untaken window start [] k cron s new l calm none =
    let at_creation : is_some (map.get (untaken (new.creation ∷ new.before)) k) ≡ true =
    subst (λ (q : Place). is_some (map.get (untaken (new.creation ∷ new.before)) q) ≡ true) new.key
    (ap (λ (c : Call). is_some (map.get (untaken_by (untaken new.before) c new.creation.answer) new.draft.key)) new.call
    ∙ ap (λ (a : Result Reply Refusal).
    is_some (map.get (untaken_by (untaken new.before) (Of.CreateCron new.draft new.now) a) new.draft.key)) new.answer
    ∙ ap (λ (o : Option CronJobDraft). is_some o) (put_there (untaken new.before) new.draft.key new.draft)) in
    subst (λ (h : List Told). is_some (map.get (untaken h) k) ≡ true) (sym new.is) at_creation
still_untaken window start (e ∷ es) k cron s new l calm none =
    untaken_entry window e (es ++ start) k l calm.0 none.0
    (still_untaken window start es k cron s new l.2 calm.1 none.1)

-- ---- the clock

-- For next_instant: by their numbers.
later_by : (s : SpanView) (n : ℕ) → instant s (suc n) ≤ instant s n + s.step
later_by s n = omega arith

-- One instant is a step after the one before it.
next_instant : (s : SpanView) (n : ℕ) → instant s ((n + 1) - 1) ≤ instant s (n - 1) + s.step
next_instant s zero = omega arith
next_instant s (suc n) =
    let here : (suc n + 1) - 1 ≡ suc n = omega arith in
    let before : suc n - 1 ≡ n = omega arith in
    subst (λ (x : ℕ). instant s x ≤ instant s (suc n - 1) + s.step) (sym here)
    (subst (λ (x : ℕ). instant s (suc n) ≤ instant s x + s.step) (sym before) (later_by s n))

-- An entry takes the clock at most a step on.
step_on : (s : SpanView) (p : Progress) (starts over edit : Bool)
    → instant s ((if starts then progress (p.begun + 1) true false
    else (if over then progress p.begun false edit else p)).begun - 1) ≤ instant s (p.begun - 1) + s.step
step_on s p true over edit = next_instant s p.begun
step_on s p false true edit = omega arith
step_on s p false false edit = omega arith

-- With an entry at most one instant begins.
turns_next : (p : Progress) (starts over edit : Bool)
    → (if starts then progress (p.begun + 1) true false
    else (if over then progress p.begun false edit else p)).begun ≤ p.begun + 1
turns_next p true over edit = omega arith
turns_next p false true edit = omega arith
turns_next p false false edit = omega arith

-- A later instant has a greater number.
later_number : (s : SpanView) (n m : ℕ) → instant s n < instant s m → n < m
later_number s n m lt = omega (arith, not)
  where
    not : m ≤ n → ⊥
    not l = let j = mul_on m n s.step l in omega (arith, j, lt)

-- Where the clock goes on an instant begins.
begins_then : (s : SpanView) (p : Progress) (starts over edit : Bool)
    → instant s (p.begun - 1) < instant s ((if starts then progress (p.begun + 1) true false
    else (if over then progress p.begun false edit else p)).begun - 1) → starts ≡ true
begins_then s p true over edit l = refl
begins_then s p false true edit l = absurd (omega (arith, l))
begins_then s p false false edit l = absurd (omega (arith, l))

-- An instant that goes on is over where another begins.
over_begun : (s : SpanView) (e : Told) (h : List Told) → (progress_of s h).on ≡ true
    → begins s (progress_of s h) e.caller.role e.call ≡ true → is_over_with s (progress_of s h) e ≡ true
over_begun s e h on starts =
    ap (λ (b : Bool). b && (begins s (progress_of s h) e.caller.role e.call || ends e.caller.role e.call)) on
    ∙ ap (λ (b : Bool). b || ends e.caller.role e.call) starts

-- And where it ends.
over_ended : (s : SpanView) (e : Told) (h : List Told) → (progress_of s h).on ≡ true
    → begins s (progress_of s h) e.caller.role e.call ≡ false → ends e.caller.role e.call ≡ true
    → is_over_with s (progress_of s h) e ≡ true
over_ended s e h on starts over =
    ap (λ (b : Bool). b && (begins s (progress_of s h) e.caller.role e.call || ends e.caller.role e.call)) on
    ∙ ap (λ (b : Bool). b || ends e.caller.role e.call) starts ∙ over

-- Who keeps up did so before.
keeps_front : (window : ℕ) (s : SpanView) (e : Told) (h : List Told) → KeepsUp window s (e ∷ h) → KeepsUp window s h
keeps_front window s e h keeps later before x is over =
    keeps (e ∷ later) before x (ap (λ (y : List Told). e ∷ y) is) over

-- ---- between two instants

-- Between two instants the next time of a sync that is over is after the moment.
over_ahead : (window : ℕ) (s : SpanView) (h : List Told) → IsLegal window h → are_timely s h ≡ true
    → KeepsUp window s h → (progress_of s h).on ≡ false → (k : Place) (t : ℕ) → IsOver h k (Some t) → moment s h < t
over_ahead window s [] l timely keeps off k t o = absurd (no_entry o.after o.before o.entry o.is)
over_ahead window s (e ∷ h) l timely keeps off k t o =
    by (over_ahead window s h l.2 early front) (progress_of s h).on
    (begins s (progress_of s h) e.caller.role e.call) (ends e.caller.role e.call) refl refl refl off
  where
    early : are_timely s h ≡ true
    early = both_left (are_timely s h) _ timely

    front : KeepsUp window s h
    front = keeps_front window s e h keeps

    by : ((progress_of s h).on ≡ false → (k : Place) (t : ℕ) → IsOver h k (Some t) → moment s h < t)
        → (on starts over : Bool) → (progress_of s h).on ≡ on
        → begins s (progress_of s h) e.caller.role e.call ≡ starts → ends e.caller.role e.call ≡ over
        → (if starts then progress ((progress_of s h).begun + 1) true false
        else (if over then progress (progress_of s h).begun false (edits e.caller.role || (progress_of s h).edited)
        else progress_of s h)).on ≡ false
        → instant s ((if starts then progress ((progress_of s h).begun + 1) true false
        else (if over then progress (progress_of s h).begun false (edits e.caller.role || (progress_of s h).edited)
        else progress_of s h)).begun - 1) < t
    by before on true over was b o' f = absurd (false≢true (sym f))
    by before true false false was b o' f = absurd (false≢true (sym f ∙ was))
    by before true false true was b o' f =
        let c : IsCaughtUp window (moment s h) h = keeps [] h e refl (over_ended s e h was b o') in
        c.due k t (done_of window h k t l.2 c.settled.runs
        (over_before e h k (Some t) (none_at_rest window h l.2 c.settled.rest) o))
    by before false false true was b o' f =
        before was k t (over_before e h k (Some t)
        (none_off window s h l.2 early (rests_of window s h front) was) o)
    by before false false false was b o' f =
        before was k t (over_before e h k (Some t)
        (none_off window s h l.2 early (rests_of window s h front) was) o)

-- cron is created with start, at the moment of the instant that begins next, and no entry of more troubles it.
module _ (window : ℕ) (s : SpanView) (start : List Told) (k : Place) (cron : CronJob) (sets : Sets)
    (new : IsNew start k cron sets) (soon : moment s start ≤ looked_upto cron [])
    (at : cron.meta.created ≡ next_moment s start) where
  -- Between two instants no later one began where its key wasn't taken yet.
  first_ahead : (es : List Told) → IsLegal window (es ++ start) → KeepsUp window s (es ++ start)
      → AreSpared k es start → NoneTakes k es → (progress_of s (es ++ start)).on ≡ false
      → moment s (es ++ start) ≤ looked_upto cron []
  first_ahead [] l keeps calm none off = soon
  first_ahead (e ∷ es) l keeps calm none off =
      by (first_ahead es l.2 (keeps_front window s e h keeps) calm.1 none.1) (progress_of s h).on
      (begins s (progress_of s h) e.caller.role e.call) (ends e.caller.role e.call) refl refl refl off
    where
      h : List Told
      h = es ++ start

      by : ((progress_of s h).on ≡ false → moment s h ≤ looked_upto cron [])
          → (on starts over : Bool) → (progress_of s h).on ≡ on
          → begins s (progress_of s h) e.caller.role e.call ≡ starts → ends e.caller.role e.call ≡ over
          → (if starts then progress ((progress_of s h).begun + 1) true false
          else (if over then progress (progress_of s h).begun false (edits e.caller.role || (progress_of s h).edited)
          else progress_of s h)).on ≡ false
          → instant s ((if starts then progress ((progress_of s h).begun + 1) true false
          else (if over then progress (progress_of s h).begun false (edits e.caller.role || (progress_of s h).edited)
          else progress_of s h)).begun - 1) ≤ looked_upto cron []
      by before on true over was b o f = absurd (false≢true (sym f))
      by before true false false was b o f = absurd (false≢true (sym f ∙ was))
      by before true false true was b o f =
          let c : IsCaughtUp window (moment s h) h = keeps [] h e refl (over_ended s e h was b o) in
          let there = still_untaken window start es k cron sets new l.2 calm.1 none.1 in
          absurd (cc (sym there ∙ ap (λ (x : Option CronJobDraft). is_some x) (c.settled.taken k)))
      by before false false true was b o f = before was
      by before false false false was b o f = before was

  -- So no sync is awaited then from a time on that has come,
  ahead_off : (es : List Told) → IsLegal window (es ++ start) → are_timely s (es ++ start) ≡ true
      → KeepsUp window s (es ++ start) → AreSpared k es start → (progress_of s (es ++ start)).on ≡ false
      → (t : ℕ) → IsAwaited k cron start (es ++ start) t → moment s (es ++ start) < t
  ahead_off es l timely keeps calm off t (again o) =
      over_ahead window s (es ++ start) l timely keeps off k t o
  ahead_off es l timely keeps calm off t (first xs is none time) =
      let same : xs ≡ es = append_cancel_right xs es start (sym is) in
      let low = first_ahead es l keeps calm (subst (NoneTakes k) same none) off in
      omega (arith, low, time)

  -- nor where an instant is over.
  ahead_on : (es : List Told) → IsLegal window (es ++ start) → AreSpared k es start
      → IsCaughtUp window (moment s (es ++ start)) (es ++ start)
      → (t : ℕ) → IsAwaited k cron start (es ++ start) t → moment s (es ++ start) < t
  ahead_on es l calm c t (again o) =
      c.due k t (done_of window (es ++ start) k t l c.settled.runs o)
  ahead_on es l calm c t (first xs is none time) =
      let same : xs ≡ es = append_cancel_right xs es start (sym is) in
      let there = still_untaken window start es k cron sets new l calm (subst (NoneTakes k) same none) in
      absurd (cc (sym there ∙ ap (λ (x : Option CronJobDraft). is_some x) (c.settled.taken k)))

  -- The clock goes on so with an entry.
  goes_on : s.step ≤ 60 → (e : Told) (es : List Told) → IsLegal window (e ∷ (es ++ start))
      → are_timely s (e ∷ (es ++ start)) ≡ true → KeepsUp window s (e ∷ (es ++ start)) → AreSpared k es start
      → GoesOn k cron start (es ++ start) (clock_from cron.meta.created s (es ++ start))
      (clock_from cron.meta.created s (e ∷ (es ++ start)))
  goes_on step e es l timely keeps calm = record {
    minute = (let m = step_on s p (begins s p e.caller.role e.call) (ends e.caller.role e.call)
        (edits e.caller.role || p.edited) in omega (arith, m, step));
    free = λ lt n f. cc (sym f.sync ∙ none (starts (run_on lt)) p.on refl n.number);
    ahead = λ lt t a.
        (let before = by (starts (run_on lt)) p.on refl t a in
        let came = came_before lt in
        omega (arith, before, came));
  }
    where
      h : List Told
      h = es ++ start

      p : Progress
      p = progress_of s h

      early : are_timely s h ≡ true
      early = both_left (are_timely s h) _ timely

      front : KeepsUp window s h
      front = keeps_front window s e h keeps

      run_on : clock_from cron.meta.created s h < clock_from cron.meta.created s (e ∷ h) → moment s h < moment s (e ∷ h)
      run_on lt = omega (arith, lt)

      came_before : clock_from cron.meta.created s h < clock_from cron.meta.created s (e ∷ h)
          → cron.meta.created ≤ moment s h
      came_before lt =
          let past : instant s (turn s start) < instant s (turn s (e ∷ h) - 1) = omega (arith, lt, at) in
          let later = later_number s (turn s start) (turn s (e ∷ h) - 1) past in
          let one = turns_next p (begins s p e.caller.role e.call) (ends e.caller.role e.call)
          (edits e.caller.role || p.edited) in
          let r = reached s (turn s start) (turn s h) (omega (arith, later, one)) in
          omega (arith, r, at)

      starts : moment s h < moment s (e ∷ h) → begins s p e.caller.role e.call ≡ true
      starts lt =
          begins_then s p (begins s p e.caller.role e.call) (ends e.caller.role e.call)
          (edits e.caller.role || p.edited) lt

      none : begins s p e.caller.role e.call ≡ true → (on : Bool) → p.on ≡ on → (n : ℕ) → sync h n ≡ None
      none b true f = none_over window s e h l (rests_of window s (e ∷ h) keeps) (over_begun s e h f b)
      none b false f = none_off window s h l.2 early (rests_of window s h front) f

      by : begins s p e.caller.role e.call ≡ true → (on : Bool) → p.on ≡ on
          → (t : ℕ) → IsAwaited k cron start h t → moment s h < t
      by b true f = ahead_on es l.2 calm (keeps [] h e refl (over_begun s e h f b))
      by b false f = ahead_off es l.2 early front calm f

  -- So it does with each.
  keep_up : s.step ≤ 60 → (more : List Told) → IsLegal window (more ++ start)
      → are_timely s (more ++ start) ≡ true → KeepsUp window s (more ++ start) → AreSpared k more start
      → KeepUp k cron (clock_from cron.meta.created s) more start
  keep_up step [] l timely keeps calm = tt
  keep_up step (e ∷ es) l timely keeps calm = (
    goes_on step e es l timely keeps calm.1,
    keep_up step es l.2 (both_left (are_timely s (es ++ start)) _ timely)
        (keeps_front window s e (es ++ start) keeps) calm.1,
  )

-- ---- the whole run

-- The first interval begins at the creation.
since_created : (c : Simulation) (workers : ℕ) (w : WorldLog) (text : List ℕ) (start more : List Told) (k : Place)
    (cron : CronJob) (s : Sets) (z : Zone) → RunsUntroubled c workers w text start more k cron s z
    → looked_upto cron [] ≡ cron.meta.created
since_created c workers w text start more k cron s z y =
    (alone c workers w text start more k cron s z y.run y.timed y.is y.short y.new y.zone y.left y.calm).first

-- For run_due_times_law: the syncs of a CronJob that no entry troubles keep up with the clock.
pub run_keeps_up : RunKeepsUp
run_keeps_up c workers w text start more k cron s z y =
    let window : ℕ = w.limits.window in
    let g : List Told = more ++ start in
    let a : Alone window c.span start more k cron s z =
    alone c workers w text start more k cron s z y.run y.timed y.is y.short y.new y.zone y.left y.calm in
    let at = a.at in
    let first_is = a.first in
    let came = a.came in
    let before = mul_on (turn c.span start - 1) (turn c.span start) c.span.step (omega arith) in
    let soon : moment c.span start ≤ looked_upto cron [] = omega (arith, at, first_is, before) in
    let within : moment c.span g ≤ cron.meta.created + reach =
    subst (λ (h : List Told). moment c.span h ≤ cron.meta.created + reach) y.is y.within in
    let kept : HaveKeptUp window k cron s z (clock_from cron.meta.created c.span g) start g =
    syncs_keep_up window start more k cron s z (clock_from cron.meta.created c.span) a.good.short a.good.legal
    a.good.planned a.fresh.begun a.free a.over (clock_on cron.meta.created c.span) (omega (arith, first_is))
    (omega (arith, first_is, soon)) a.apart
    (keep_up window c.span start k cron s y.new soon a.at y.minute more a.good.legal a.timely a.keeps a.spared)
    (λ t awaited.
    (let ahead = ahead_off window c.span start k cron s y.new soon a.at more a.good.legal a.timely a.keeps a.spared
    a.off t awaited in
    omega (arith, ahead, came)))
    (omega (arith, within, came, first_is)) in
    subst (λ (h : List Told). HaveKeptUp window k cron s z (moment c.span h) start h) (sym y.is)
    (subst (λ (n : ℕ). HaveKeptUp window k cron s z n start g) a.came kept)

-- For run_due_times_law: the Jobs that are made for it are one for each due time.
pub run_makes_each : RunMakesEach
run_makes_each c workers w text start more k cron s z y other ample =
    let last : ℕ = moment c.span w.history in
    each_in_time w.limits.window start w.history k cron s z last y.short y.run.promise.legal y.run.promise.planned y.new
    other ample (run_keeps_up c workers w text start more k cron s z y)
    ∙ ap (λ (n : ℕ). missed_times s z n last) (since_created c workers w text start more k cron s z y)

-- For run_due_times_law: so they are under any policy, where no sync told that a Job runs already.
pub run_makes_each_allowed : RunMakesEachAllowed
run_makes_each_allowed c workers w text start more k cron s z y ample none =
    let last : ℕ = moment c.span w.history in
    each_allowed w.limits.window start w.history k cron s z last y.short y.run.promise.legal y.run.promise.planned y.new
    ample (run_keeps_up c workers w text start more k cron s z y) none
    ∙ ap (λ (n : ℕ). missed_times s z n last) (since_created c workers w text start more k cron s z y)

-- For run_due_times_law: so they are under any policy, where each Job ended in time.
pub run_makes_each_ended : RunMakesEachEnded
run_makes_each_ended c workers w text start more k cron s z y ample kept ended =
    let last : ℕ = moment c.span w.history in
    each_ended_in_time w.limits.window start w.history k cron s z last y.short y.run.promise.legal
    y.run.promise.planned y.new ample kept ended
    ∙ ap (λ (n : ℕ). missed_times s z n last) (since_created c workers w text start more k cron s z y)
