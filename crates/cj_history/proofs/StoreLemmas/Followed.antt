-- The watch keeps the last of the writes, and the mirror has the Jobs of the first of them.
use Rattle.std.proofs.Common.{◌≡◌, ℕ, ◌+◌, ◌-◌, ◌≤◌, min, nat_lt, Bool, true, false, cond, List, [], ◌∷◌, ◌++◌, length, take, drop, reverse, refl, sym, ap, subst, ◌∙◌, arith, length-drop}
use Rattle.std.specs.Prelude.{Option, Some, None, if◌then◌else◌, Result, Ok, Err}
use Rattle.std.specs.FinMap as map
use Rattle.std.proofs.Math.Seq.{take-append_seam}
use Rattle.std.proofs.lemmas.List.{reverse-append, length-reverse, take-append-drop, take-append-le}
use Rattle.std.proofs.lemmas.List.Sums.{fold-append}
use Rattle.cj_base.specs.declared.refusal.Refusal.{Refusal}
use Rattle.cj_types.specs.Keys.{Place, place_cmp}
use Rattle.cj_types.specs.declared.job.Job.{Job}
use Rattle.cj_types.specs.declared.event.Event.{Event}
use Rattle.cj_types.specs.declared.event.Event.TheVariants.{Added, Modified, Deleted}
use Rattle.cj_types.specs.declared.event.Object.TheVariants as Kind
use Rattle.cj_queue.specs.Parts.{key_eq}
use Rattle.cj_queue.proofs.Sets.{get_put, get_off}
use Rattle.cj_store.specs.Content.{Content}
use Rattle.cj_store.specs.Change.{after}
use Rattle.cj_watch.specs.Numbers.{IsNumbered}
use Rattle.cj_watch.specs.Log.{Log, new_log, pushed, since}
use Rattle.cj_watch.specs.Laws.{log_of}
use Rattle.cj_watch.proofs.Logs.{tells_all}
use Rattle.cj_watch.specs.mirror.Lagging.{Jobs, Mirror, told, mirror_of}
use Rattle.cj_watch.specs.mirror.Laws.{jobs_after, mirror_after, caught_up, next_fed}
use Rattle.cj_watch.proofs.MirrorLemmas.Following.{mirrors_follow}
use Rattle.cj_calls.specs.declared.call.Call.{Call}
use Rattle.cj_calls.specs.declared.call.Call.TheVariants as Of
use Rattle.cj_calls.specs.declared.reply.Reply.{Reply}
use Rattle.cj_calls.specs.Rows.{Told}
use Rattle.cj_state.specs.declared.state.State.{State}
use Rattle.cj_state.specs.WorkerCalls.{sync_of}
use Rattle.cj_state.specs.Readings.{fed_up}
use Rattle.cj_state.specs.Step.{step_of}
use Rattle.cj_state.specs.Legal.{IsLegal, state_of}
use Rattle.cj_history.specs.store.Written.{version, current_job, job_left}
use Rattle.cj_history.specs.store.Writes.{with_write, writes}
use Rattle.cj_history.specs.store.Store.{IsStore}
use Rattle.cj_history.specs.store.Events.{EventLaw}
use Rattle.cj_history.specs.store.Mirrors.{fed_after, fed, earliest, MirrorLaw}
use Rattle.cj_history.proofs.StoreLemmas.Keeps.{Keeps, stored, logged, fed_by, keeps}
use Rattle.cj_history.proofs.StoreLemmas.Stores.{store_agrees, entry_writes, written_is}
use Rattle.cj_history.proofs.StoreLemmas.Numbered.{one_later, numbers_law}

-- ---- the Jobs that writes leave

-- Jobs that are told a write have at each key the Job that the write left there.
told_at : (jobs : Jobs) (w : Event) (was : Option Job) (k : Place) → map.get jobs k ≡ was
    → map.get (told jobs w) k ≡ job_left w k was
told_at jobs (Added (Kind.Cron c)) was k e = e
told_at jobs (Added (Kind.Job j)) was k e = get_put jobs j.key j k ∙ ap (cond (key_eq j.key k) (Some j)) e
told_at jobs (Modified (Kind.Cron c)) was k e = e
told_at jobs (Modified (Kind.Job j)) was k e = get_put jobs j.key j k ∙ ap (cond (key_eq j.key k) (Some j)) e
told_at jobs (Deleted (Kind.Cron c)) was k e = e
told_at jobs (Deleted (Kind.Job j)) was k e = get_off jobs j.key k ∙ ap (cond (key_eq j.key k) None) e

-- The Jobs after one write more are those before it, told that write.
jobs_later : (w : Event) (ws : List Event) → jobs_after (reverse (w ∷ ws)) ≡ told (jobs_after (reverse ws)) w
jobs_later w ws = ap jobs_after (one_later w ws) ∙ fold-append told map.empty (reverse ws) (w ∷ [])

-- The Jobs that all writes leave have at each key its current Job.
jobs_at : (ws : List Event) (k : Place) → map.get (jobs_after (reverse ws)) k ≡ current_job ws k
jobs_at [] k = map.get-empty place_cmp k
jobs_at (w ∷ ws) k = ap (λ (m : Jobs). map.get m k) (jobs_later w ws) ∙ told_at (jobs_after (reverse ws)) w
    (current_job ws k) k (jobs_at ws k)

-- the first so many in their order
first_in_order : (n : ℕ) (ws : List Event) → n ≤ length ws → take n (reverse ws) ≡ reverse (earliest n ws)
first_in_order n ws le =
    let i : ℕ = length ws - n in
    let long : n ≡ length (reverse (drop i ws)) =
    (let a = length-reverse (drop i ws) in let b = length-drop i ws in omega (arith, le, a, b)) in
    ap (λ (l : List Event). take n (reverse l)) (sym (take-append-drop i ws))
    ∙ ap (take n) (reverse-append (take i ws) (drop i ws))
    ∙ ap (λ m. take m (reverse (drop i ws) ++ reverse (take i ws))) long
    ∙ take-append_seam (reverse (drop i ws)) (reverse (take i ws))

-- ---- a state that followed these writes, of which its lists know so many

pub record Follows (window : ℕ) (ws : List Event) (n : ℕ) (s : State) : Type 0 where
  pub bound : n ≤ length ws
  pub jobs : s.store.jobs ≡ jobs_after (reverse ws)
  pub watch : s.watch ≡ log_of window (reverse ws)
  pub mirror : s.mirror ≡ mirror_after (reverse ws) n

-- A write changes the Jobs of the store as it changes Jobs that are told it.
jobs_told : (s : Content) (w : Event) → (after s w).jobs ≡ told s.jobs w
jobs_told s (Added (Kind.Cron c)) = refl
jobs_told s (Added (Kind.Job j)) = refl
jobs_told s (Modified (Kind.Cron c)) = refl
jobs_told s (Modified (Kind.Job j)) = refl
jobs_told s (Deleted (Kind.Cron c)) = refl
jobs_told s (Deleted (Kind.Job j)) = refl

-- The store's Jobs stay those that all writes leave, with one write more or none.
jobs_with : (o : Option Event) (ws : List Event) (s : Content) → s.jobs ≡ jobs_after (reverse ws)
    → (stored o s).jobs ≡ jobs_after (reverse (with_write o ws))
jobs_with None ws s e = e
jobs_with (Some w) ws s e = jobs_told s w ∙ ap (λ (j : Jobs). told j w) e ∙ sym (jobs_later w ws)

-- The watch's log stays that of all writes, with one write more or none.
watch_with : (window : ℕ) (o : Option Event) (ws : List Event) (l : Log) → l ≡ log_of window (reverse ws)
    → logged o l ≡ log_of window (reverse (with_write o ws))
watch_with window None ws l e = e
watch_with window (Some w) ws l e = ap (λ (x : Log). pushed x w) e ∙ sym
    (ap (log_of window) (one_later w ws) ∙ fold-append pushed (new_log window) (reverse ws) (w ∷ []))

-- What is at most the number of writes stays so, with one write more or none.
bound_with : (o : Option Event) (ws : List Event) (n : ℕ) → n ≤ length ws → n ≤ length (with_write o ws)
bound_with None ws n le = le
bound_with (Some w) ws n le = omega (arith, le)

-- The mirror of the first so many writes stays the same, with one write more or none.
mirror_with : (o : Option Event) (ws : List Event) (n : ℕ) → n ≤ length ws
    → mirror_after (reverse ws) n ≡ mirror_after (reverse (with_write o ws)) n
mirror_with None ws n le = refl
mirror_with (Some w) ws n le =
    ap (λ (es : List Event). mirror_of (jobs_after es) n)
    (sym (ap (take n) (one_later w ws) ∙ take-append-le n (reverse ws) (w ∷ [])
    (let i = length-reverse ws in omega (arith, le, i))))

-- ---- a Feed

-- A Feed teaches the listing of no more writes than there were.
fed_bound : (window n was max : ℕ) → next_fed window n was max ≤ n
fed_bound window n was max = by (nat_lt (was + window) n)
  where
    by : (b : Bool) → (if b then n else min n (was + max)) ≤ n
    by true = omega arith
    by false = omega arith

-- A Feed leaves the mirror of as many writes as next_fed says.
pub learnt : (window : ℕ) (ws : List Event) (n : ℕ) (s : State) (max : ℕ) → IsNumbered 0 (reverse ws)
    → IsStore ws s.store → Follows window ws n s
    → fed_up s max ≡ mirror_after (reverse ws) (next_fed window (length ws) n max)
learnt window ws n s max num is f =
    let counted : length (reverse ws) ≡ length ws = length-reverse ws in
    ap (λ (m : Mirror). caught_up m (since s.watch m.fed max) (map.values s.store.jobs) s.store.version) f.mirror
    ∙ ap (λ (l : Log). caught_up (mirror_after (reverse ws) n) (since l n max)
    (map.values s.store.jobs) s.store.version) f.watch
    ∙ ap (λ (j : Jobs). caught_up (mirror_after (reverse ws) n) (since (log_of window (reverse ws)) n max)
    (map.values j) s.store.version) f.jobs
    ∙ ap (λ v. caught_up (mirror_after (reverse ws) n) (since (log_of window (reverse ws)) n max)
    (map.values (jobs_after (reverse ws))) v) (is.version ∙ sym counted)
    ∙ (mirrors_follow window (reverse ws) n max num (let le = f.bound in omega (arith, le, counted))).follows
    ∙ ap (λ c. mirror_after (reverse ws) (next_fed window c n max)) counted

-- a call either teaches the lists nothing or is an accepted Feed
data Learning (call : Call) (a : Result Reply Refusal) : Type 0 where
  learns : (max : ℕ) → ((s : State) → fed_by s call a ≡ fed_up s max)
      → ((window n was : ℕ) → fed_after window n was call a ≡ next_fed window n was max) → Learning call a
  stays : ((s : State) → fed_by s call a ≡ s.mirror) → ((window n was : ℕ) → fed_after window n was call a ≡ was)
      → Learning call a

-- A call with its answer is an accepted Feed, or teaches the listing nothing.
learning : (call : Call) (a : Result Reply Refusal) → Learning call a
learning (Of.Feed max) (Ok r) = learns max (λ s. refl) (λ window n was. refl)
learning (Of.Feed max) (Err e) = stays (λ s. refl) (λ window n was. refl)
learning call a = stays (λ s. refl) (λ window n was. refl)

-- A call leaves the mirror of as many of the writes before it as fed_after says.
mirror_by : (window : ℕ) (ws : List Event) (n : ℕ) (s : State) (call : Call) (a : Result Reply Refusal)
    → IsNumbered 0 (reverse ws) → IsStore ws s.store → Follows window ws n s → Learning call a
    → (fed_by s call a ≡ mirror_after (reverse ws) (fed_after window (length ws) n call a))
    × (fed_after window (length ws) n call a ≤ length ws)
mirror_by window ws n s call a num is f (learns max e g) = (
  e s ∙ learnt window ws n s max num is f ∙ ap (mirror_after (reverse ws)) (sym (g window (length ws) n)),
  subst (λ m. m ≤ length ws) (sym (g window (length ws) n)) (fed_bound window (length ws) n max),
)
mirror_by window ws n s call a num is f (stays e g) = (
  e s ∙ f.mirror ∙ ap (mirror_after (reverse ws)) (sym (g window (length ws) n)),
  subst (λ m. m ≤ length ws) (sym (g window (length ws) n)) f.bound,
)

-- ---- every history

-- e is the next entry of a legal history h, whose writes the state before it followed.
module _ (window : ℕ) (e : Told) (h : List Told) (l : IsLegal window (e ∷ h))
    (f : Follows window (writes h) (fed window h) (state_of window h)) where
  -- The step of the entry does to store, watch and mirror what its call and its answer say.
  kept : Keeps (writes h) (sync_of (state_of window h) e.caller.number) e.call (state_of window h)
      (step_of (state_of window h) e.caller e.call)
  kept = keeps (writes h) (state_of window h) e.caller e.call (store_agrees window h l.2)

  -- The call leaves the mirror of as many writes as fed says, no more than there were before it.
  was : (fed_by (state_of window h) e.call e.answer ≡ mirror_after (reverse (writes h)) (fed window (e ∷ h)))
      × (fed window (e ∷ h) ≤ length (writes h))
  was = mirror_by window (writes h) (fed window h) (state_of window h) e.call e.answer (numbers_law h)
      (store_agrees window h l.2) f (learning e.call e.answer)

  -- The state after the entry followed the writes of h and of the entry.
  followed_on : Follows window (writes (e ∷ h)) (fed window (e ∷ h)) (state_of window (e ∷ h))
  followed_on = record {
    bound = bound_with (entry_writes window e h) (writes h) (fed window (e ∷ h)) was.1;
    jobs = ap (λ (s : Content). s.jobs) (kept.store ∙ ap (λ o. stored o (state_of window h).store)
        (written_is window e h l))
        ∙ jobs_with (entry_writes window e h) (writes h) (state_of window h).store f.jobs;
    watch = kept.watch ∙ ap (λ o. logged o (state_of window h).watch) (written_is window e h l)
        ∙ watch_with window (entry_writes window e h) (writes h) (state_of window h).watch f.watch;
    mirror = kept.mirror ∙ ap (λ (a : Result Reply Refusal). fed_by (state_of window h) e.call a) (sym l.0) ∙ was.0
        ∙ mirror_with (entry_writes window e h) (writes h) (fed window (e ∷ h)) was.1;
  }

-- After a legal history the state followed its writes, of which the listing knows as fed says.
pub followed : (window : ℕ) (h : List Told) → IsLegal window h
    → Follows window (writes h) (fed window h) (state_of window h)
followed window [] l = record { bound = omega arith; jobs = refl; watch = refl; mirror = refl }
followed window (e ∷ h) l = followed_on window e h l (followed window h l.2)

-- For event_law: after a legal history a watch is told the writes after its version, or Expired.
pub events_agree : EventLaw
events_agree window h l version max =
    ap (λ (x : Log). since x version max) (followed window h l).watch ∙ tells_all window
    (reverse (writes h)) version max (numbers_law h)

-- For mirror_law: after a legal history the listing has the Jobs that its first writes left.
pub mirror_agrees : MirrorLaw
mirror_agrees window h l =
    let f : Follows window (writes h) (fed window h) (state_of window h) = followed window h l in
    record {
      fed = ap (λ (m : Mirror). m.fed) f.mirror;
      jobs = λ k.
          ap (λ (m : Mirror). map.get m.jobs k) f.mirror
          ∙ ap (λ (es : List Event). map.get (jobs_after es) k) (first_in_order (fed window h) (writes h) f.bound)
          ∙ jobs_at (earliest (fed window h) (writes h)) k;
    }
