-- Some list of events has led to what is stored, to what the watch keeps, and, as far as the lists
-- know of it, to the Jobs in them.
use Rattle.std.proofs.Common.{◌≡◌, ℕ, zero, suc, ◌+◌, ◌≤◌, min, nat_lt, Bool, true, false, List, [], ◌∷◌, ◌++◌, length, take, refl, sym, ap, subst, ◌∙◌, arith, length-append}
use Rattle.std.specs.Prelude.{if◌then◌else◌, Ok}
use Rattle.std.specs.FinMap as map
use Rattle.std.proofs.lemmas.List.Sums.{fold-append}
use Rattle.cj_types.specs.declared.event.Event.{Event}
use Rattle.cj_types.specs.declared.event.Event.TheVariants.{Added, Modified, Deleted}
use Rattle.cj_types.specs.declared.event.Object.TheVariants as Kind
use Rattle.cj_store.specs.Content.{Content}
use Rattle.cj_store.specs.Change.{after}
use Rattle.cj_types.specs.Events.{version_of}
use Rattle.cj_watch.specs.Numbers.{IsNumbered}
use Rattle.cj_watch.specs.Log.{Log, new_log, pushed, since}
use Rattle.cj_watch.specs.Laws.{log_of}
use Rattle.cj_watch.proofs.Numbered.{numbered_snoc}
use Rattle.cj_watch.specs.mirror.Lagging.{Jobs, Mirror, told, mirror_of}
use Rattle.cj_watch.specs.mirror.Laws.{jobs_after, mirror_after, caught_up, next_fed}
use Rattle.cj_watch.proofs.MirrorLemmas.Following.{mirrors_follow}
use Rattle.cj_state.specs.declared.state.State.{State}
use Rattle.cj_state.specs.WorkerCalls.{written}
use Rattle.cj_state.specs.Readings.{fed_up}
use Rattle.cj_state.specs.Step.{start}
use Rattle.cj_world_laws.proofs.LegalLemmas.Shapes.{Shape, same, sat, wrote_it, took, left_it, stored, listed, queued}

pub record Follows (window : ℕ) (s : State) : Type 0 where
  pub events : List Event
  pub n : ℕ
  pub numbered : IsNumbered 0 events
  pub bound : n ≤ length events
  pub version : s.store.version ≡ length events
  pub jobs : s.store.jobs ≡ jobs_after events
  pub watch : s.watch ≡ log_of window events
  pub mirror : s.mirror ≡ mirror_after events n

-- what the watch tells can be fed
pub told_of : (window : ℕ) (s : State) → Follows window s → (max : ℕ) (events : List Event)
    → since s.watch s.mirror.fed max ≡ Ok events → IsNumbered s.mirror.fed events
told_of window s f max events e =
    subst (λ (m : Mirror). IsNumbered m.fed events) (sym f.mirror)
    ((mirrors_follow window f.events f.n max f.numbered f.bound).next events
    (sym (ap (λ (l : Log). since l f.n max) f.watch)
    ∙ (sym (ap (λ (m : Mirror). since s.watch m.fed max) f.mirror) ∙ e)))

-- Before the first call no event has led to what is stored, watched and listed.
pub follows_start : (window : ℕ) → Follows window (start window)
follows_start window = record {
  events = [];
  n = 0;
  numbered = tt;
  bound = omega arith;
  version = refl;
  jobs = refl;
  watch = refl;
  mirror = refl;
}

-- the same of what differs elsewhere
alike : (window : ℕ) (s t : State) → t.store ≡ s.store → t.watch ≡ s.watch → t.mirror ≡ s.mirror → Follows window s
    → Follows window t
alike window s t a b c f = record {
  events = f.events;
  n = f.n;
  numbered = f.numbered;
  bound = f.bound;
  version = ap (λ (x : Content). x.version) a ∙ f.version;
  jobs = ap (λ (x : Content). x.jobs) a ∙ f.jobs;
  watch = b ∙ f.watch;
  mirror = c ∙ f.mirror;
}

-- ---- one event more

-- A write changes the store's Jobs as it changes those of a list that is told of it.
jobs_told : (s : Content) (e : Event) → (after s e).jobs ≡ told s.jobs e
jobs_told s (Added (Kind.Cron c)) = refl
jobs_told s (Added (Kind.Job j)) = refl
jobs_told s (Modified (Kind.Cron c)) = refl
jobs_told s (Modified (Kind.Job j)) = refl
jobs_told s (Deleted (Kind.Cron c)) = refl
jobs_told s (Deleted (Kind.Job j)) = refl

-- A write adds one to the store's version.
after_version : (s : Content) (e : Event) → (after s e).version ≡ s.version + 1
after_version s (Added (Kind.Cron c)) = refl
after_version s (Added (Kind.Job j)) = refl
after_version s (Modified (Kind.Cron c)) = refl
after_version s (Modified (Kind.Job j)) = refl
after_version s (Deleted (Kind.Cron c)) = refl
after_version s (Deleted (Kind.Job j)) = refl

-- The first n of a list that has n stay its first n when others come behind it.
take_more : {X : Type 0} (xs ys : List X) (n : ℕ) → n ≤ length xs → take n (xs ++ ys) ≡ take n xs
take_more xs ys zero h = refl
take_more [] ys (suc n) h = absurd (omega (arith, h))
take_more (x ∷ xs) ys (suc n) h = ap (λ zs. x ∷ zs) (take_more xs ys n (omega (arith, h)))

-- After a write with the next version, the events so far and this one have led to the state.
one_more : (window : ℕ) (s : State) (e : Event) → version_of e ≡ s.store.version + 1 → Follows window s
    → Follows window (written s e)
one_more window s e v f = record {
  events = f.events ++ e ∷ [];
  n = f.n;
  numbered = numbered_snoc 0 f.events e f.numbered (let i = f.version in omega (arith, v, i));
  bound = let i = f.bound in let j = length-append f.events (e ∷ []) in omega arith;
  version = after_version s.store e ∙ (let i = f.version in let j = length-append f.events (e ∷ []) in omega arith);
  jobs = jobs_told s.store e ∙ ap (λ (j : Jobs). told j e) f.jobs ∙ sym (fold-append told map.empty f.events (e ∷ []));
  watch = ap (λ (l : Log). pushed l e) f.watch ∙ sym (fold-append pushed (new_log window) f.events (e ∷ []));
  mirror = f.mirror ∙ ap (λ (es : List Event). mirror_of (jobs_after es) f.n)
      (sym (take_more f.events (e ∷ []) f.n f.bound));
}

-- ---- the lists learn more

-- The lists never know of more writes than there were.
next_bound : (window count fed max : ℕ) → next_fed window count fed max ≤ count
next_bound window count fed max = by (nat_lt (fed + window) count)
  where
    by : (b : Bool) → (if b then count else min count (fed + max)) ≤ count
    by true = omega arith
    by false = omega arith

-- What a Feed leaves of the lists is what the first events leave, as many as it reaches.
learnt : (window : ℕ) (s : State) (max : ℕ) (f : Follows window s) → fed_up s max
    ≡ mirror_after f.events (next_fed window (length f.events) f.n max)
learnt window s max f =
    ap (λ (m : Mirror). caught_up m (since s.watch m.fed max) (map.values s.store.jobs) s.store.version) f.mirror
    ∙ ap (λ (l : Log). caught_up (mirror_after f.events f.n) (since l f.n max)
    (map.values s.store.jobs) s.store.version) f.watch
    ∙ ap (λ (j : Jobs). caught_up (mirror_after f.events f.n) (since (log_of window f.events) f.n max)
    (map.values j) s.store.version) f.jobs
    ∙ ap (λ v. caught_up (mirror_after f.events f.n) (since (log_of window f.events) f.n max)
    (map.values (jobs_after f.events)) v) f.version
    ∙ (mirrors_follow window f.events f.n max f.numbered f.bound).follows

-- After a Feed the same events have led to the state, and the lists know as many as it reaches.
learn : (window : ℕ) (s : State) (max : ℕ) → Follows window s → Follows window (record s { mirror = fed_up s max })
learn window s max f = record {
  events = f.events;
  n = next_fed window (length f.events) f.n max;
  numbered = f.numbered;
  bound = next_bound window (length f.events) f.n max;
  version = f.version;
  jobs = f.jobs;
  watch = f.watch;
  mirror = learnt window s max f;
}

-- Where some events have led to a state, some have led to the state after a call of any shape.
pub follows_shape : (window : ℕ) (s s' : State) (w : ℕ) → Follows window s → Shape s w s' → Follows window s'
follows_shape window s s' w f (same e) = subst (Follows window) (sym e) f
follows_shape window s s' w f (sat sync p at e) = subst (Follows window) (sym e) (alike window s _ refl refl refl f)
follows_shape window s s' w f (wrote_it sync p ev at n e) = subst (Follows window) (sym e)
    (alike window (written s ev) _ refl refl refl (one_more window s ev n f))
follows_shape window s s' w f (took k n g e) = subst (Follows window) (sym e) (alike window s _ refl refl refl f)
follows_shape window s s' w f (left_it sync q at ends e) = subst (Follows window) (sym e)
    (alike window s _ refl refl refl f)
follows_shape window s s' w f (stored ev n e) = subst (Follows window) (sym e) (one_more window s ev n f)
follows_shape window s s' w f (listed max e) = subst (Follows window) (sym e) (learn window s max f)
follows_shape window s s' w f (queued q ks i e) = subst (Follows window) (sym e) (alike window s _ refl refl refl f)
