-- Where no interval has more than one due time, the greatest due times of the intervals are all due
-- times; so with a sync a minute, where each Job ends before the next due time.
use Rattle.std.proofs.Common.{◌≡◌, ◌⊎◌, inl, inr, ℕ, ◌+◌, ◌-◌, ◌%◌, ◌<◌, ◌≤◌, max, Bool, true, false, cond, Option, Some, None, List, [], ◌∷◌, ◌++◌, length, filter, map as map_list, length-append, refl, sym, ap, subst, ◌∙◌, arith}
use Rattle.std.specs.Prelude.{if◌then◌else◌}
use Rattle.std.specs.FinMap as map
use Rattle.std.proofs.lemmas.Bool.{cases_eq, cases_lt}
use Rattle.std.proofs.lemmas.List.{append-nil, reverse-append}
use mathlib.Core.List.{reverse}
use Rattle.cj_types.specs.Keys.{Place, place}
use Rattle.cj_types.specs.Uids.{uid_text}
use Rattle.cj_types.specs.declared.cron.CronJob.{CronJob}
use Rattle.cj_types.specs.declared.job.Job.{Job}
use Rattle.cj_schedule.specs.Matches.{Sets}
use Rattle.cj_zone.specs.declared.zone.Zone.{Zone}
use Rattle.cj_due.specs.Due.{due, IsQuiet, IsLatestDue, missed_times, missed_count}
use Rattle.cj_due.specs.Window.{deadline_start}
use Rattle.cj_due.proofs.DueLemmas.{due-other}
use Rattle.cj_due.proofs.MissedLemmas.{missed_times-none, missed_times-split, missed_times-one}
use Rattle.cj_status.specs.declared.listing.Pick.TheVariants as Meant
use Rattle.cj_status.specs.declared.order.Sorting.TheVariants.{ByAge}
use Rattle.cj_status.specs.Mine.{is_mine, is_running, present}
use Rattle.cj_status.specs.Order.{in_order}
use Rattle.cj_status.specs.Picked.{picks}
use Rattle.cj_status.specs.Refs.{ref, precedes}
use Rattle.cj_store.specs.Content.{Content}
use Rattle.cj_decide.specs.Decision.{running_of}
use Rattle.cj_calls.specs.Rows.{Told}
use Rattle.cj_state.specs.Readings.{if_mine, active_job, active_of}
use Rattle.cj_state.specs.Legal.{state_of}
use Rattle.cj_history.specs.progress.Syncs.{IsLet}
use Rattle.cj_history.specs.progress.Every.{Moment, lets, forbids, instant_of, IsSaid, IsSync, Synced, looked_upto, last_moment, GoOn, AreLatest, made_for, IsBegun, AreLet, AreNear, EachDueTime, AreMinutely, IsAmple, EachMinute, AllEnded, EndInTime, EachEnded}
use Rattle.cj_history.specs.progress.Prompt.{ArePrompt}
use Rattle.cj_history.proofs.ProgressLemmas.Missed.{clash}
use Rattle.cj_history.proofs.ProgressLemmas.Intervals.{latest_or_none}
use Rattle.cj_history.proofs.ProgressLemmas.Makers.{Good, earlier}
use Rattle.cj_history.proofs.ProgressLemmas.Synced.{lets_alone, sync_begun, same, found_is, looked_low, has_synced, lets_each}
use Rattle.cj_history.proofs.ProgressLemmas.Since.{fresh_in, every_time_since}

-- A list without a length is empty.
empty : (xs : List ℕ) → length xs ≤ 0 → xs ≡ []
empty [] l = refl
empty (x ∷ xs) l = absurd (omega (arith, l))

-- Where at most one time is missed, the latest is all of them.
only_latest : (s : Sets) (z : Zone) (lo hi t : ℕ) → missed_count s z lo hi ≤ 1 → IsLatestDue s z lo hi t
    → missed_times s z lo hi ≡ t ∷ []
only_latest s z lo hi t few h =
    let above = h.above in
    let within = h.within in
    let a = missed_times-split s z lo (t - 1) hi (omega (arith, above)) (omega (arith, within)) in
    let b = missed_times-split s z (t - 1) t hi (omega arith) within in
    let c = missed_times-one s z (t - 1) t t (record {
      above = omega (arith, above);
      within = omega arith;
      is_due = h.is_due;
      least = λ k x y. absurd (omega (arith, x, y));
    }) in
    let d = missed_times-none s z t hi h.latest in
    let e : missed_times s z lo hi ≡ missed_times s z lo (t - 1) ++ (t ∷ []) =
    a ∙ ap (λ (l : List ℕ). missed_times s z lo (t - 1) ++ l)
    (b ∙ (ap (λ (l : List ℕ). l ++ missed_times s z t hi) c ∙ ap (λ (l : List ℕ). t ∷ l) d)) in
    let f = ap (λ (l : List ℕ). length l) e in
    let g = length-append (missed_times s z lo (t - 1)) (t ∷ []) in
    e ∙ ap (λ (l : List ℕ). l ++ (t ∷ [])) (empty (missed_times s z lo (t - 1)) (omega (arith, few, f, g)))

-- Where nothing is due up to an instant, nor after it, nothing is at all.
joined : (s : Sets) (z : Zone) (lo mid hi : ℕ) → IsQuiet s z lo mid → IsQuiet s z mid hi → IsQuiet s z lo hi
joined s z lo mid hi a b t above within = by (cases_lt mid t)
  where
    by : (mid < t) ⊎ (t ≤ mid) → due s z t ≡ false
    by (inl l) = b t l within
    by (inr l) = a t above l

-- Where nothing is due up to an instant, nor from there up to another, nothing is up to the later.
upto_later : (s : Sets) (z : Zone) (lo mid hi : ℕ) → IsQuiet s z lo mid → IsQuiet s z mid hi
    → IsQuiet s z lo (max mid hi)
upto_later s z lo mid hi a b t above within = by (cases_lt mid t)
  where
    by : (mid < t) ⊎ (t ≤ mid) → due s z t ≡ false
    by (inl l) = b t l (omega (arith, within, l))
    by (inr l) = a t above l

-- Where nothing is due up to a deadline's start, what is quiet or latest after it is so before it too.
quiet_before : (s : Sets) (z : Zone) (lo line hi : ℕ) → IsQuiet s z lo line → IsQuiet s z (max lo line) hi
    → IsQuiet s z lo hi
quiet_before s z lo line hi a b t above within = by (cases_lt line t)
  where
    by : (line < t) ⊎ (t ≤ line) → due s z t ≡ false
    by (inl l) = b t (omega (arith, above, l)) within
    by (inr l) = a t above l

-- The moments go on from the first of all.
pub low : (cron : CronJob) (ms : List Moment) → GoOn cron ms → looked_upto cron [] ≤ looked_upto cron ms
low cron [] on = omega arith
low cron (forbids t ∷ ms) on = low cron ms on.1
low cron (lets t ∷ ms) on =
    let a = low cron ms on.1 in
    let b = looked_low cron ms on.1 in
    let c = on.0 in
    omega (arith, a, b, c)

-- For every_time_law: where moments are near, the greatest due times of the intervals are all that are due.
pub each_due : EachDueTime
each_due s z cron [] times on near latest =
    ap reverse latest
    ∙ sym (missed_times-none s z (looked_upto cron []) (looked_upto cron []) (λ t a b. absurd (omega (arith, a, b))))
each_due s z cron (forbids t ∷ ms) times on near latest = each_due s z cron ms times on.1 near latest
each_due s z cron (lets t ∷ ms) times on near latest = by latest (λ old rest. each_due s z cron ms old on.1 near.2 rest)
  where
    -- the start of the deadline
    line : ℕ
    line = deadline_start cron.spec.starting_deadline_seconds t

    -- what was missed up to the moment before
    before : List ℕ
    before = missed_times s z (looked_upto cron []) (looked_upto cron ms)

    onward : looked_upto cron ms ≤ t
    onward = let a = looked_low cron ms on.1 in let b = on.0 in omega (arith, a, b)

    whole : missed_times s z (looked_upto cron []) t ≡ before ++ missed_times s z (looked_upto cron ms) t
    whole = missed_times-split s z (looked_upto cron []) (looked_upto cron ms) t (low cron ms on.1) onward

    by : AreLatest s z cron (lets t ∷ ms) times → ((old : List ℕ) → AreLatest s z cron ms old → reverse old ≡ before)
        → reverse times ≡ missed_times s z (looked_upto cron []) t
    by (inl (quiet, rest)) past =
        past times rest
        ∙ sym (whole ∙ (ap (λ (l : List ℕ). before ++ l)
        (missed_times-none s z (looked_upto cron ms) t (quiet_before s z (looked_upto cron ms) line t near.1 quiet))
        ∙ append-nil before))
    by (inr (time, old, due_then, same, rest)) past =
        let above = due_then.above in
        let here : IsLatestDue s z (looked_upto cron ms) t time = record {
          above = omega (arith, above);
          within = due_then.within;
          is_due = due_then.is_due;
          latest = due_then.latest;
        } in
        ap reverse same ∙ (reverse-append (time ∷ []) old
        ∙ (ap (λ (l : List ℕ). l ++ (time ∷ [])) (past old rest)
        ∙ sym (whole ∙ ap (λ (l : List ℕ). before ++ l)
        (only_latest s z (looked_upto cron ms) t time near.0 here))))

-- ---- a sync a minute

-- Within a minute at most one time is due.
one_due : (s : Sets) (z : Zone) (lo n : ℕ) → n ≤ 60 → missed_count s z lo (lo + n) ≤ 1
one_due s z lo n l = by (latest_or_none s z lo n)
  where
    by : ((t : ℕ) × IsLatestDue s z lo (lo + n) t) ⊎ IsQuiet s z lo (lo + n) → missed_count s z lo (lo + n) ≤ 1
    by (inr q) = let e = ap (λ (xs : List ℕ). length xs) (missed_times-none s z lo (lo + n) q) in omega (arith, e)
    by (inl (t, h)) =
        let above = h.above in
        let within = h.within in
        let last = missed_times-one s z lo (lo + n) t (record {
          above = above;
          within = within;
          is_due = h.is_due;
          least = λ k x y. before k x y (cases_eq (k % 60) 0);
        }) in
        let rest = missed_times-none s z t (lo + n) h.latest in
        let all = missed_times-split s z lo t (lo + n) (omega (arith, above)) within in
        let e = ap (λ (xs : List ℕ). length xs) (all ∙ ap (λ (xs : List ℕ). xs ++ missed_times s z t (lo + n)) last
        ∙ ap (λ (xs : List ℕ). t ∷ xs) rest) in
        omega (arith, e)
      where
        whole : (t % 60 ≡ 0) ⊎ (t % 60 ≡ 0 → ⊥) → t % 60 ≡ 0
        whole (inl e) = e
        whole (inr m) = absurd (clash (due s z t) (due-other s z t m) h.is_due)

        before : (k : ℕ) → lo < k → k < t → (k % 60 ≡ 0) ⊎ (k % 60 ≡ 0 → ⊥) → due s z k ≡ false
        before k x y (inr m) = due-other s z k m
        before k x y (inl e) =
            let f = whole (cases_eq (t % 60) 0) in let w = h.within in absurd (omega (arith, e, f, x, y, w, l))

-- A deadline of a minute or more cuts no such interval.
pub uncut : (d : Option ℕ) (t at : ℕ) → IsAmple d → t ≤ at + 60 → deadline_start d t ≤ at
uncut None t at a l = omega arith
uncut (Some n) t at a l = omega (arith, a, l)

-- at a moment at which the policy forbade a Job to start, nothing was due since the one before it
abbrev pub AreIdle : Sets → Zone → CronJob → List Moment → Type 0
AreIdle s z cron [] = Unit {0}
AreIdle s z cron (lets t ∷ ms) = AreIdle s z cron ms
AreIdle s z cron (forbids t ∷ ms) = IsQuiet s z (last_moment cron ms) t × AreIdle s z cron ms

-- Then nothing is due between the last moment at which it let one start and the last of all.
still_quiet : (s : Sets) (z : Zone) (cron : CronJob) (ms : List Moment) → AreIdle s z cron ms
    → IsQuiet s z (looked_upto cron ms) (last_moment cron ms)
still_quiet s z cron [] idle = λ t a b. absurd (omega (arith, a, b))
still_quiet s z cron (lets t ∷ ms) idle = λ x a b. absurd (omega (arith, a, b))
still_quiet s z cron (forbids t ∷ ms) idle =
    joined s z (looked_upto cron ms) (last_moment cron ms) t (still_quiet s z cron ms idle.1) idle.0

-- Where nothing is due up to an instant, and at most one time from there within a minute, at most
-- one is missed.
few_missed : (s : Sets) (z : Zone) (lo mid hi : ℕ) → lo ≤ mid → mid ≤ hi → hi ≤ mid + 60 → IsQuiet s z lo mid
    → missed_count s z lo hi ≤ 1
few_missed s z lo mid hi a b c quiet =
    let n : ℕ = hi - mid in
    let same : mid + n ≡ hi = omega (arith, b) in
    let one = subst (λ (x : ℕ). missed_count s z mid x ≤ 1) same (one_due s z mid n (omega (arith, b, c))) in
    let whole = missed_times-split s z lo mid hi a b
    ∙ ap (λ (l : List ℕ). l ++ missed_times s z mid hi) (missed_times-none s z lo mid quiet) in
    subst (λ (l : List ℕ). length l ≤ 1) (sym whole) one

-- With a sync a minute what became due is synced within one.
minutely : (s : Sets) (z : Zone) (cron : CronJob) (ms : List Moment) → AreMinutely cron ms → ArePrompt s z cron ms
minutely s z cron [] each = tt
minutely s z cron (m ∷ ms) each = (
  λ t a b. let e = each.0 in absurd (omega (arith, a, b, e)),
  minutely s z cron ms each.1,
)

-- Such moments are near.
near : (s : Sets) (z : Zone) (cron : CronJob) (ms : List Moment) → GoOn cron ms → ArePrompt s z cron ms
    → IsAmple cron.spec.starting_deadline_seconds → AreIdle s z cron ms → AreNear s z cron ms
near s z cron [] on prompt ample idle = tt
near s z cron (forbids t ∷ ms) on prompt ample idle = near s z cron ms on.1 prompt.1 ample idle.1
near s z cron (lets t ∷ ms) on prompt ample idle =
    let last : ℕ = last_moment cron ms in
    let mid : ℕ = max last (t - 60) in
    let quiet : IsQuiet s z (looked_upto cron ms) mid =
    upto_later s z (looked_upto cron ms) last (t - 60) (still_quiet s z cron ms idle) prompt.0 in
    let from = looked_low cron ms on.1 in
    let onward = on.0 in
    let cut = uncut cron.spec.starting_deadline_seconds t mid ample (omega arith) in (
      few_missed s z (looked_upto cron ms) mid t (omega (arith, from)) (omega (arith, onward)) (omega arith) quiet,
      (λ x a b. quiet x a (omega (arith, b, cut))),
      near s z cron ms on.1 prompt.1 ample idle,
    )

-- So they are for all times due up to the last moment.
pub all_due : (s : Sets) (z : Zone) (cron : CronJob) (ms : List Moment) (times : List ℕ) → GoOn cron ms
    → ArePrompt s z cron ms → IsAmple cron.spec.starting_deadline_seconds → AreIdle s z cron ms
    → AreLatest s z cron ms times
    → reverse times ≡ missed_times s z (looked_upto cron []) (last_moment cron ms)
all_due s z cron ms times on prompt ample idle latest =
    let before : List ℕ = missed_times s z (looked_upto cron []) (looked_upto cron ms) in
    each_due s z cron ms times on (near s z cron ms on prompt ample idle) latest
    ∙ sym (missed_times-split s z (looked_upto cron []) (looked_upto cron ms) (last_moment cron ms) (low cron ms on)
    (looked_low cron ms on)
    ∙ (ap (λ (l : List ℕ). before ++ l)
    (missed_times-none s z (looked_upto cron ms) (last_moment cron ms) (still_quiet s z cron ms idle))
    ∙ append-nil before))

-- Where the policy let a Job start at each moment, it forbade it at none.
pub let_idle : (s : Sets) (z : Zone) (cron : CronJob) (ms : List Moment) → AreLet ms → AreIdle s z cron ms
let_idle s z cron [] a = tt
let_idle s z cron (lets t ∷ ms) a = let_idle s z cron ms a
let_idle s z cron (forbids t ∷ ms) a = absurd a

-- For every_time_law: with a sync a minute the Jobs that are made are one for each due time.
pub each_minute : EachMinute
each_minute window start g k cron s z ms short legal planned n other on each ample y =
    let good : Good window g = record { short = short; legal = legal; planned = planned } in
    let begun = (fresh_in window start g k cron s z ms good n y).begun in
    all_due s z cron ms (made_for window cron.meta.uid g) on (minutely s z cron ms each) ample
    (let_idle s z cron ms (lets_each window start g k cron s z ms short legal planned begun y other))
    (every_time_since window start g k cron s z ms short legal planned n on y)

-- ---- where each Job ends in time

-- Where each Job of a CronJob ended, its live read finds none unfinished.
none_found : (u : ℕ) (s : Content) → AllEnded u s → (namespace : List ℕ) (names : List (List ℕ))
    → filter (picks Meant.Running (uid_text u)) (present (map_list (active_job s (uid_text u) namespace) names)) ≡ []
none_found u s ended namespace [] = refl
none_found u s ended namespace (n ∷ names) =
    by (map.get s.jobs (place namespace n)) refl (none_found u s ended namespace names)
  where
    rest : List (Option Job)
    rest = map_list (active_job s (uid_text u) namespace) names

    here : (x : Job) → is_running (uid_text u) x ≡ false → (b : Bool)
        → filter (picks Meant.Running (uid_text u)) (present rest) ≡ []
        → filter (picks Meant.Running (uid_text u)) (present ((if b then Some x else None) ∷ rest)) ≡ []
    here x e true none =
        ap (λ (b : Bool). cond b (x ∷ filter (picks Meant.Running (uid_text u)) (present rest))
        (filter (picks Meant.Running (uid_text u)) (present rest))) e ∙ none
    here x e false none = none

    by : (o : Option Job) → map.get s.jobs (place namespace n) ≡ o
        → filter (picks Meant.Running (uid_text u)) (present rest) ≡ []
        → filter (picks Meant.Running (uid_text u)) (present (if_mine (uid_text u) o ∷ rest)) ≡ []
    by None e none = none
    by (Some x) e none = here x (ended (place namespace n) x e) (is_mine (uid_text u) x) none

-- So none runs by it.
none_running : (cron : CronJob) (s : Content) → AllEnded cron.meta.uid s
    → running_of cron (active_of s (Some cron)) ≡ []
none_running cron s ended =
    ap (λ (l : List Job). in_order (precedes ByAge) (map_list ref l))
    (none_found cron.meta.uid s ended cron.key.namespace cron.status.active)

-- A time is due or not.
none_where : (s : Sets) (z : Zone) (lo hi : ℕ) → ((t : ℕ) → lo < t → t ≤ hi → due s z t ≡ true → ⊥)
    → IsQuiet s z lo hi
none_where s z lo hi f t a b = by (due s z t) refl
  where
    by : (c : Bool) → due s z t ≡ c → due s z t ≡ false
    by true e = absurd (f t a b e)
    by false e = e

module _ (window : ℕ) (start : List Told) (k : Place) (cron : CronJob) (s : Sets) (z : Zone)
    (b : IsBegun window start k cron s) where
  -- A sync before which each Job of the CronJob ended is let.
  let_alone : (ms : List Moment) (m : Moment) (before after : List Told) → Good window after
      → Synced window k z start ms before → (y : IsSync window k z m before after)
      → AllEnded cron.meta.uid (state_of window y.read).store
      → IsLet y.cron.spec.policy (running_of y.cron y.plan.active)
  let_alone ms m before after good rest y ended =
      let has = has_synced window start k cron s z b ms before (sync_begun window k z m before after y good) rest in
      let like = same window k z m before after y good cron s b.runs b.reads has in
      let found = found_is window k z m before after y good cron s b.runs b.reads has in
      lets_alone y.cron.spec.policy (running_of y.cron y.plan.active)
      (ap (running_of y.cron) found
      ∙ none_running y.cron (state_of window y.read).store
      (subst (λ (u : ℕ). AllEnded u (state_of window y.read).store) (sym like.uid) ended))

  -- Where each Job ended in time, nothing was due since the moment before one at which the policy
  -- forbade a Job to start.
  pub ended_idle : (ms : List Moment) (g : List Told) → Good window g → (y : Synced window k z start ms g)
      → EndInTime window k cron s z start ms g y → AreIdle s z cron ms
  ended_idle [] g good y ended = tt
  ended_idle (m ∷ ms) g good (before, after, es, rest, did, others, is) ended =
      let last : Good window after = earlier window es after (subst (Good window) is good) in
      let old = sync_begun window k z m before after did last in
      by m did.said (λ t a b e. let_alone ms m before after last rest did (ended.0 t a b e))
      (ended_idle ms before old rest ended.1)
    where
      by : (x : Moment) → IsSaid x did.cron.spec.policy (running_of did.cron did.plan.active)
          → ((t : ℕ) → last_moment cron ms < t → t ≤ instant_of x → due s z t ≡ true
          → IsLet did.cron.spec.policy (running_of did.cron did.plan.active))
          → AreIdle s z cron ms → AreIdle s z cron (x ∷ ms)
      by (lets t) said f r = r
      by (forbids t) said f r = (none_where s z (last_moment cron ms) t (λ i a b e. said (f i a b e)), r)

-- For every_time_law: where each Job ended in time, they are one for each due time under any policy.
pub each_ended : EachEnded
each_ended window start g k cron s z ms short legal planned n on each ample y ended =
    let good : Good window g = record { short = short; legal = legal; planned = planned } in
    let begun = (fresh_in window start g k cron s z ms good n y).begun in
    all_due s z cron ms (made_for window cron.meta.uid g) on (minutely s z cron ms each) ample
    (ended_idle window start k cron s z begun ms g good y ended)
    (every_time_since window start g k cron s z ms short legal planned n on y)
