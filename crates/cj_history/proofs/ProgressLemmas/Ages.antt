-- A Job that was seen once keeps its owners, and its end, as long as it stands.
use Rattle.std.proofs.Common.{◌≡◌, ℕ, zero, suc, ◌-◌, ◌≤◌, Bool, true, false, cond, ◌&&◌, List, [], ◌∷◌, ◌++◌, drop, Option, Some, None, refl, sym, ap, subst, ◌∙◌, arith}
use Rattle.std.specs.Prelude.{IfSome}
use Rattle.std.specs.FinMap as map
use Rattle.cj_types.specs.Keys.{Place}
use Rattle.cj_types.specs.Objects.{is_unfinished}
use Rattle.cj_types.specs.Owners.{controller_of}
use Rattle.cj_types.specs.declared.owners.OwnerRef.{OwnerRef}
use Rattle.cj_types.specs.declared.job.Job.{Job}
use Rattle.cj_types.specs.declared.event.Object.TheVariants as Kind
use Rattle.cj_types.specs.declared.event.Event.{Event}
use Rattle.cj_types.specs.declared.event.Event.TheVariants.{Added, Modified, Deleted}
use Rattle.cj_table.specs.jobs.Owners.{is_job_of}
use Rattle.cj_queue.specs.Parts.{key_eq}
use Rattle.cj_queue.proofs.Sets.{eq_true}
use Rattle.cj_status.specs.Mine.{has_uid, is_mine, is_running}
use Rattle.cj_store.specs.Content.{Content}
use Rattle.cj_decide.specs.laws.Laws.{IsIn}
use Rattle.cj_decide.proofs.LawsLemmas.Members.{in_filtered}
use Rattle.cj_calls.specs.Rows.{Told}
use Rattle.cj_state.specs.Readings.{listed_of}
use Rattle.cj_state.specs.Legal.{IsLegal, state_of}
use Rattle.cj_world_laws.specs.legal.InFlightSyncs.{sync}
use Rattle.cj_history.specs.store.Written.{version, made, current_job, job_left}
use Rattle.cj_history.specs.store.Writes.{entry_written, with_write, writes}
use Rattle.cj_history.specs.store.Mirrors.{fed}
use Rattle.cj_history.proofs.StoreLemmas.Lists.{values_all}
use Rattle.cj_history.proofs.StoreLemmas.Stores.{store_agrees}
use Rattle.cj_history.proofs.StoreLemmas.Followed.{mirror_agrees}
use Rattle.cj_history.proofs.StoreLemmas.Answered.{job_keyed}
use Rattle.cj_history.proofs.ProgressLemmas.Fair.{Fair, AreFair, entry_fair, are_fair, fair_rest, made_rest, fair_uid, one_of_all}

-- a Job has the owners of another, and has ended where that has
abbrev pub Follows : Job → Job → Type 0
Follows j x = (x.owners ≡ j.owners) × (is_unfinished j ≡ false → is_unfinished x ≡ false)

-- the Job that these writes left at the key of another, if it has its uid, follows it
abbrev pub Settled : List Event → Job → Type 0
Settled ws j = (x : Job) → current_job ws j.key ≡ Some x → x.meta.uid ≡ j.meta.uid → Follows j x

-- For settled_with: one write more leaves it so.
settled_step : (w : Event) (ws : List Event) (j : Job) → Fair ws w → j.meta.uid ≤ made ws → Settled ws j
    → (x : Job) → job_left w j.key (current_job ws j.key) ≡ Some x → x.meta.uid ≡ j.meta.uid → Follows j x
settled_step (Added (Kind.Cron c)) ws j f l s x e u = s x e u
settled_step (Modified (Kind.Cron c)) ws j f l s x e u = s x e u
settled_step (Deleted (Kind.Cron c)) ws j f l s x e u = s x e u
settled_step (Added (Kind.Job y)) ws j f l s x e u = by (key_eq y.key j.key) e
  where
    by : (b : Bool) → cond b (Some y) (current_job ws j.key) ≡ Some x → Follows j x
    by true g =
        let same : y ≡ x = cc g in let a = ap (λ (z : Job). z.meta.uid) same in absurd (omega (arith, f, l, u, a))
    by false g = s x g u
settled_step (Modified (Kind.Job y)) ws j f l s x e u = by (key_eq y.key j.key) refl e
  where
    by : (b : Bool) → key_eq y.key j.key ≡ b → cond b (Some y) (current_job ws j.key) ≡ Some x → Follows j x
    by true t g =
        let same : y ≡ x = cc g in
        let was = s f.0 (ap (current_job ws) (sym (eq_true y.key j.key t)) ∙ f.1)
        (sym f.2 ∙ ap (λ (z : Job). z.meta.uid) same ∙ u) in
        subst (λ (z : Job). Follows j z) same (f.3 ∙ was.0, λ n. f.4 (was.1 n))
    by false t g = s x g u
settled_step (Deleted (Kind.Job y)) ws j f l s x e u = by (key_eq y.key j.key) e
  where
    by : (b : Bool) → cond b None (current_job ws j.key) ≡ Some x → Follows j x
    by true g = absurd (cc g)
    by false g = s x g u

-- One write more, or none, leaves it so.
settled_with : (ws : List Event) (o : Option Event) (j : Job) → IfSome o (Fair ws) → j.meta.uid ≤ made ws → Settled ws j
    → Settled (with_write o ws) j
settled_with ws None j f l s = s
settled_with ws (Some w) j f l s = λ x e u. settled_step w ws j f l s x e u

-- What the first so many of fair writes left is followed by what all of them left.
settled_all : (n : ℕ) (ws : List Event) (j : Job) → AreFair ws → j.meta.uid ≤ made (drop n ws) → Settled (drop n ws) j
    → Settled ws j
settled_all zero [] j a l s = s
settled_all zero (w ∷ ws) j a l s = s
settled_all (suc n) [] j a l s = s
settled_all (suc n) (w ∷ ws) j a l s = λ x e u.
    let m = made_rest n ws in settled_step w ws j a.0 (omega (arith, l, m)) (settled_all n ws j a.1 l s) x e u

-- A Job that stands is followed by itself.
settled_now : (ws : List Event) (q : Place) (j : Job) → current_job ws q ≡ Some j → Settled ws j
settled_now ws q j e x g u =
    let here : current_job ws j.key ≡ Some j = ap (current_job ws) (job_keyed ws q j e) ∙ e in
    let same : j ≡ x = cc (sym here ∙ g) in
    subst (λ (z : Job). Follows j z) same (refl, λ n. n)

-- Later entries leave it so.
settled_later : (es h : List Told) (j : Job) → j.meta.uid ≤ made (writes h) → Settled (writes h) j
    → Settled (writes (es ++ h)) j × (j.meta.uid ≤ made (writes (es ++ h)))
settled_later [] h j l s = (s, l)
settled_later (e ∷ es) h j l s =
    let r = settled_later es h j l s in (
      settled_with (writes (es ++ h)) (entry_written (writes (es ++ h)) (sync (es ++ h) e.caller.number) e.call
          e.answer) j
          (entry_fair (writes (es ++ h)) (sync (es ++ h) e.caller.number) e.call e.answer) r.1 r.0,
      more (writes (es ++ h)) (entry_written (writes (es ++ h)) (sync (es ++ h) e.caller.number) e.call e.answer) r.1,
    )
  where
    one : (w : Event) (ws : List Event) → made ws ≤ made (w ∷ ws)
    one (Added o) ws = omega arith
    one (Modified o) ws = omega arith
    one (Deleted o) ws = omega arith

    more : (ws : List Event) (o : Option Event) → j.meta.uid ≤ made ws → j.meta.uid ≤ made (with_write o ws)
    more ws None b = b
    more ws (Some w) b = let a = one w ws in omega (arith, a, b)

-- ---- by the content

-- the Job at the key of another, if it has its uid, follows it
abbrev pub IsSettled : Job → Content → Type 0
IsSettled j s = (x : Job) → map.get s.jobs j.key ≡ Some x → x.meta.uid ≡ j.meta.uid → Follows j x

-- Whatever is called later, by whomever, a Job that follows another still does.
pub settled_on : (window : ℕ) (es h : List Told) → IsLegal window (es ++ h) → IsLegal window h → (j : Job)
    → j.meta.uid ≤ (state_of window h).store.uids → IsSettled j (state_of window h).store
    → IsSettled j (state_of window (es ++ h)).store
settled_on window es h l m j b s x e u =
    let a = (store_agrees window h m).uids in
    (settled_later es h j (omega (arith, a, b))
    (λ y g n. s y ((store_agrees window h m).jobs j.key ∙ g) n)).0 x
    (sym ((store_agrees window (es ++ h) l).jobs j.key) ∙ e) u

-- Each listed Job is followed by the one that stands, if that is the same.
pub listed_settled : (window : ℕ) (h : List Told) → IsLegal window h → (k : Place) (j : Job)
    → IsIn j (listed_of (state_of window h) k) → IsSettled j (state_of window h).store
listed_settled window h l k j i =
    one_of_all (λ (x : Job). IsSettled x (state_of window h).store) (map.values (state_of window h).mirror.jobs) j
    (values_all (λ (x : Job). x.key) (λ (x : Job). true) (λ (x : Job). IsSettled x (state_of window h).store)
    (state_of window h).mirror.jobs each)
    (in_filtered (is_job_of k) j (map.values (state_of window h).mirror.jobs) i).0
  where
    each : (q : Place) (x : Job) → map.get (state_of window h).mirror.jobs q ≡ Some x
        → IsSettled x (state_of window h).store
    each q x e y g u =
        let n : ℕ = version (writes h) - fed window h in
        let at : current_job (drop n (writes h)) q ≡ Some x = sym ((mirror_agrees window h l).jobs q) ∙ e in
        let low = fair_uid (drop n (writes h)) (fair_rest n (writes h) (are_fair h)) q x at in
        settled_all n (writes h) x (are_fair h) low (settled_now (drop n (writes h)) q x at) y
        (sym ((store_agrees window h l).jobs x.key) ∙ g) u

-- Where a Job is none that is unfinished of a CronJob, one that follows it isn't either.
pub follows_rests : (uid : List ℕ) (j x : Job) → Follows j x → is_running uid j ≡ false → is_running uid x ≡ false
follows_rests uid j x f e =
    ap (λ (o : Option OwnerRef). has_uid uid o && is_unfinished x) (ap controller_of f.0)
    ∙ by (is_mine uid j) (is_unfinished j) (is_unfinished x) e f.1
  where
    by : (a b c : Bool) → (a && b) ≡ false → (b ≡ false → c ≡ false) → (a && c) ≡ false
    by true b c g n = n g
    by false b c g n = refl
