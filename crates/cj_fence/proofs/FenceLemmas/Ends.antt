-- An undisturbed sync isn't stuck.
use Rattle.std.proofs.Common.{◌≡◌, ◌⊎◌, inl, inr, ℕ, ◌<◌, Bool, true, false, not, ◌&&◌, ◌||◌, List, [], ◌∷◌, ◌++◌, Option, Some, None, refl, sym, ap, subst, ◌∙◌}
use Rattle.std.specs.Prelude.{if◌then◌else◌}
use Rattle.cj_fence.specs.declared.policy.Policy.{Policy}
use Rattle.cj_fence.specs.declared.policy.Policy.TheVariants.{Allow, Forbid, Replace}
use Rattle.cj_fence.specs.declared.table.Row.{Row}
use Rattle.cj_fence.specs.declared.refs.Ref.{Ref}
use Rattle.cj_fence.specs.declared.objects.Cron.{Cron}
use Rattle.cj_fence.specs.declared.objects.Job.{Job}
use Rattle.cj_fence.specs.declared.cluster.Cluster.{Cluster}
use Rattle.cj_fence.specs.declared.cluster.Served.{Served}
use Rattle.cj_fence.specs.declared.call.Claim.{Claim}
use Rattle.cj_fence.specs.declared.call.Tidy.{Tidy}
use Rattle.cj_fence.specs.declared.call.Call.{Call}
use Rattle.cj_fence.specs.declared.call.Call.TheVariants as Of
use Rattle.cj_fence.specs.declared.answer.Answer.{Answer}
use Rattle.cj_fence.specs.declared.answer.Answer.TheVariants as Is
use Rattle.cj_fence.specs.declared.answer.Stamp.{Stamp}
use Rattle.cj_fence.specs.declared.sync.At.{At}
use Rattle.cj_fence.specs.declared.sync.Held.{Held}
use Rattle.cj_fence.specs.declared.sync.Sync.{Sync}
use Rattle.cj_fence.specs.declared.sync.Sync.TheVariants.{Fresh, Looking, Ready, Holding, Starting, Tidying, Gone, Over}
use Rattle.cj_fence.specs.Texts.{is_same}
use Rattle.cj_fence.specs.Tables.{find, without, put}
use Rattle.cj_fence.specs.Objects.{is_ref, has_ref, named, look, waits, is_dead}
use Rattle.cj_fence.specs.Server.{says, refuses, puts_cron, puts_job, made, create, takes, claimed, claim, tidied, tidy, released, start, marked, mark, delete, delete_where, served}
use Rattle.cj_fence.specs.Protocol.{Own, with_alive, kept_of, drops_of, go_on, is_held_ref, was_found, found_held, found_job, is_its, looked, cached, begun, is_ours, lets_hold, adopted, has_claimed, has_tidied, has_started, from_ready, from_holding, from_dropping, from_starting, from_tidying, advanced, MayFresh, MayLook, MayTidy, MayReady, MayClaim, MayHolding, MayDrop, MayStart, MayClear, May, seen_of}
use Rattle.cj_fence.specs.History.{Deed, Told, Asked, state_of, own}
use Rattle.cj_fence.specs.Help.{HasNext, ReadsCron, IsSyncOf, IsDone, IsExpire, HasExpired, NeverStuck}
use Rattle.cj_fence.proofs.FenceLemmas.Basics.{IsIn, in_either, either_way, neither, not_in, is_false, both_true, same_true, same_is, ref_true, ref_self, look_is, put_self}
use Rattle.cj_fence.proofs.FenceLemmas.Facts.{job_at, cron_at, ref, Settled, Owned, IsClaimedFor, AtBase, AtFact, HeldFact, IfHeld, Looks, Commits, SyncFact, Inv}
use Rattle.cj_fence.proofs.FenceLemmas.Grows.{is_held, owned_own}
use Rattle.cj_fence.proofs.FenceLemmas.Entries.{crons_delete_where, held_owned}
use Rattle.cj_fence.proofs.FenceLemmas.Lost.{Spares, stays, stays_delete_where}
use Rattle.cj_fence.proofs.FenceLemmas.Looks.{kept_among, held_waits, ours_waits, is_first}
use Rattle.cj_fence.proofs.FenceLemmas.Moves.{next}
use Rattle.cj_fence.proofs.FenceLemmas.Runs.{Plain, Beside, run}
use Rattle.cj_fence.proofs.FenceLemmas.Whole.{self_number}

-- ---- what an undisturbed sync can rely on

-- the CronJob that the sync knows stands, and is the one of this uid
abbrev pub Stands : List ℕ → Cluster → At → Type 0
Stands me s at = (find at.name s.crons ≡ Some at.cron) × (at.cron.uid ≡ me)

-- a Job that waits for its start
pub record WaitsAt (s : Cluster) (r : Ref) : Type 0 where
  pub job : Job
  pub stands : find r.name s.jobs ≡ Some job
  pub uid : job.uid ≡ r.uid
  pub waits_yet : waits job ≡ true

abbrev pub HeldWaits : Cluster → Option Held → Type 0
HeldWaits s None = Unit {0}
HeldWaits s (Some x) = WaitsAt s x.job

-- a reference whose Job stands among these
abbrev pub Here : List (Row Job) → Ref → Type 0
Here jobs r = (j : Job) × (find r.name jobs ≡ Some j) × (j.uid ≡ r.uid)

-- references whose Jobs all stand, none named twice
abbrev pub AllHere : List (Row Job) → List Ref → Type 0
AllHere jobs [] = Unit {0}
AllHere jobs (r ∷ rs) = Here jobs r × (IsIn r rs → ⊥) × AllHere jobs rs

-- what a sync knows holds of what stands
abbrev pub Good : List ℕ → Cluster → Sync → Type 0
Good me s Fresh = Unit {0}
Good me s (Looking at [] held) = ⊥
Good me s (Looking at (r ∷ rs) held) = Stands me s at × HeldWaits s held × AllHere s.jobs at.alive
Good me s (Ready at) = Stands me s at × AllHere s.jobs at.alive
Good me s (Holding at x) = Stands me s at × WaitsAt s x.job × AllHere s.jobs at.alive
Good me s (Starting at x ds) =
    Stands me s at × WaitsAt s x.job × AllHere s.jobs ds × AllHere s.jobs (kept_of x.found.policy at.alive)
Good me s (Tidying at gs fs) = Unit {0}
Good me s Gone = Unit {0}
Good me s Over = ⊥

-- Where all stand, those that stay beside a start do.
kept_here : (p : Policy) (jobs : List (Row Job)) (rs : List Ref) → AllHere jobs rs → AllHere jobs (kept_of p rs)
kept_here Allow jobs rs a = a
kept_here Forbid jobs rs a = a
kept_here Replace jobs rs a = tt

-- So do those that are to be deleted before it.
drops_here : (p : Policy) (jobs : List (Row Job)) (rs : List Ref) → AllHere jobs rs → AllHere jobs (drops_of p rs)
drops_here Allow jobs rs a = tt
drops_here Forbid jobs rs a = tt
drops_here Replace jobs rs a = a

-- Under Replace none stays.
none_stays : (p : Policy) (jobs : List (Row Job)) (rs : List Ref) → p ≡ Replace → AllHere jobs (kept_of p rs)
none_stays p jobs rs e = subst (λ (z : Policy). AllHere jobs (kept_of z rs)) (sym e) tt

-- One more stands behind the others.
here_end : (jobs : List (Row Job)) (xs : List Ref) (r : Ref) → AllHere jobs xs → Here jobs r → (IsIn r xs → ⊥)
    → AllHere jobs (xs ++ r ∷ [])
here_end jobs [] r a h n = (h, (λ i. i), tt)
here_end jobs (x ∷ xs) r a h n = (a.0, (λ i. by_place (in_either x r xs i)), here_end jobs xs r a.2 h (λ i. n (inr i)))
  where
    by_place : IsIn x xs ⊎ (x ≡ r) → ⊥
    by_place (inl i) = a.1 i
    by_place (inr e) = n (inl (sym e))

-- All stand where each still does.
here_still : (jobs new : List (Row Job)) (xs : List Ref) → ((r : Ref) → IsIn r xs → Here jobs r → Here new r)
    → AllHere jobs xs → AllHere new xs
here_still jobs new [] f a = tt
here_still jobs new (x ∷ xs) f a = (f x (inl refl) a.0, a.1, here_still jobs new xs (λ r i. f r (inr i)) a.2)

-- All stand after a call that isn't about any of them.
here_after : (g : List Told) (t : Stamp) (call : Call) (xs : List Ref) → ((r : Ref) → IsIn r xs → Spares call r)
    → AllHere (state_of g).jobs xs → AllHere (served (state_of g) t call).cluster.jobs xs
here_after g t call xs f a = here_still (state_of g).jobs (served (state_of g) t call).cluster.jobs xs
    (λ r i h. (h.0, stays g t call r h.0 (f r i) h.1 h.2, h.2)) a

-- A sync that goes on is good.
good_go : (me : List ℕ) (s : Cluster) (at : At) (rs : List Ref) (held : Option Held) → Stands me s at → HeldWaits s held
    → AllHere s.jobs at.alive → Good me s (go_on at rs held)
good_go me s at [] None a w b = (a, b)
good_go me s at [] (Some x) a w b =
    (a, w, drops_here x.found.policy s.jobs at.alive b, kept_here x.found.policy s.jobs at.alive b)
good_go me s at (r ∷ rs) held a w b = (a, w, b)

-- Two claimed Jobs of the CronJob that both wait are one.
one_waits : {me : List ℕ} {g : List Told} → Inv me g → (c : Cron) → c.uid ≡ me → (p r : Ref) → IsClaimedFor g c p
    → IsClaimedFor g c r → WaitsAt (state_of g) p → WaitsAt (state_of g) r → p ≡ r
one_waits {me} {g} f c m p r a b v w = by_time (either_way a.claim.time b.claim.time)
  where
    owner : a.claim.owner ≡ b.claim.owner
    owner = a.owner ∙ sym b.owner

    settled_not : (q : Ref) → Settled g q → WaitsAt (state_of g) q → ⊥
    settled_not q n u = absurd (cc (u.waits_yet, n u.job u.stands u.uid))

    by_time : (a.claim.time < b.claim.time) ⊎ ((a.claim.time ≡ b.claim.time) ⊎ (b.claim.time < a.claim.time)) → p ≡ r
    by_time (inl l) = absurd (settled_not p
        ((f.orderly r b.claim b.is (b.owner ∙ m)).passed p a.claim a.is owner l).settled v)
    by_time (inr (inl e)) = (f.orderly r b.claim b.is (b.owner ∙ m)).unique p a.claim a.is owner e
    by_time (inr (inr l)) = absurd (settled_not r
        ((f.orderly p a.claim a.is (a.owner ∙ m)).passed r b.claim b.is (sym owner) l).settled w)

-- ---- readings

-- A held Job is found: no other was.
good_held : (me : List ℕ) (g : List Told) (at : At) (rs : List Ref) (held : Option Held) (r : Ref) (j : Job) → Inv me g
    → Looks me g at (r ∷ rs) held → Stands me (state_of g) at → HeldWaits (state_of g) held
    → AllHere (state_of g).jobs at.alive → WaitsAt (state_of g) r
    → is_held_ref held r ≡ false → Good me (state_of g) (found_held at rs held (record { job = r; found = j }))
good_held me g at rs None r j f l a w b n e = good_go me (state_of g) at rs (Some (record { job = r; found = j })) a n b
good_held me g at rs (Some x) r j f l a w b n e =
    let k = (l.its a.1).at_fact in
    let one : x.job ≡ r = one_waits f at.cron a.1 x.job r (k.claimed x.job (inl refl))
    (k.claimed r (is_first (Some x) r rs)) w n in
    absurd (cc (sym e ∙ subst (λ (z : Ref). is_ref x.job z ≡ true) one (ref_self x.job)))

-- A Job that isn't dead is found.
good_alive : (me : List ℕ) (g : List Told) (at : At) (rs : List Ref) (held : Option Held) (r : Ref) (j : Job) → Inv me g
    → Looks me g at (r ∷ rs) held → Stands me (state_of g) at → HeldWaits (state_of g) held
    → AllHere (state_of g).jobs at.alive → job_at g r.name ≡ Some j → j.uid ≡ r.uid → is_dead j ≡ false
    → (has_ref at.alive r ≡ false) × (is_held_ref held r ≡ false) → (b : Bool) → j.held ≡ b
    → Good me (state_of g)
    (if b then found_held at rs held (record { job = r; found = j }) else go_on (with_alive at r) rs held)
good_alive me g at rs held r j f l a w b e u d n true h = good_held me g at rs held r j f l a w b
    (record { job = j; stands = e; uid = u; waits_yet = held_waits j h d }) n.1
good_alive me g at rs held r j f l a w b e u d n false h = good_go me (state_of g) (with_alive at r) rs held a w
    (here_end (state_of g).jobs at.alive r b (j, e, u) (not_in at.alive r n.0))

-- A Job that isn't dead is found, once more or for the first time.
good_found : (me : List ℕ) (g : List Told) (at : At) (rs : List Ref) (held : Option Held) (r : Ref) (j : Job) → Inv me g
    → Looks me g at (r ∷ rs) held → Stands me (state_of g) at → HeldWaits (state_of g) held
    → AllHere (state_of g).jobs at.alive → job_at g r.name ≡ Some j → j.uid ≡ r.uid → is_dead j ≡ false → (b : Bool)
    → was_found at held r ≡ b
    → Good me (state_of g) (if b then go_on at rs held else
    (if j.held then found_held at rs held (record { job = r; found = j }) else go_on (with_alive at r) rs held))
good_found me g at rs held r j f l a w b e u d true n = good_go me (state_of g) at rs held a w b
good_found me g at rs held r j f l a w b e u d false n =
    good_alive me g at rs held r j f l a w b e u d (neither (has_ref at.alive r) (is_held_ref held r) n) j.held refl

-- After the GET of a Job of status.active.
good_looked : (me : List ℕ) (g : List Told) (at : At) (rs : List Ref) (held : Option Held) (r : Ref) (o : Option Job)
    → Inv me g
    → Looks me g at (r ∷ rs) held → Stands me (state_of g) at → HeldWaits (state_of g) held
    → AllHere (state_of g).jobs at.alive → job_at g r.name ≡ o → Good me (state_of g) (looked at rs held r o)
good_looked me g at rs held r None f l a w b e = good_go me (state_of g) at rs held a w b
good_looked me g at rs held r (Some j) f l a w b e = by_test (is_its at.cron r j) refl (is_dead j) refl
  where
    by_test : (p : Bool) → is_its at.cron r j ≡ p → (q : Bool) → is_dead j ≡ q
        → Good me (state_of g) (if p && not q then found_job at rs held r j else go_on at rs held)
    by_test true p false q =
        good_found me g at rs held r j f l a w b e
        (same_true j.uid r.uid (both_true (is_same j.uid r.uid) (is_same j.owner at.cron.uid) p).0) q
        (was_found at held r) refl
    by_test true p true q = good_go me (state_of g) at rs held a w b
    by_test false p q z = good_go me (state_of g) at rs held a w b

-- After a cache was asked for a Job of status.active.
good_cached : (me : List ℕ) (g : List Told) (at : At) (rs : List Ref) (held : Option Held) (r : Ref) (o : Option Job)
    → Inv me g
    → Looks me g at (r ∷ rs) held → Stands me (state_of g) at → HeldWaits (state_of g) held
    → AllHere (state_of g).jobs at.alive → job_at g r.name ≡ o → Good me (state_of g) (cached at rs held r o)
good_cached me g at rs held r None f l a w b e = (a, w, b)
good_cached me g at rs held r (Some j) f l a w b e = by_test (is_same j.uid r.uid && not (waits j))
  where
    by_test : (q : Bool) → Good me (state_of g) (if q then looked at rs held r (Some j) else Looking at (r ∷ rs) held)
    by_test true = good_looked me g at rs held r (Some j) f l a w b e
    by_test false = (a, w, b)

-- After the Get of the CronJob.
good_begun : (me : List ℕ) (s : Cluster) (n : List ℕ) (o : Option Cron) → find n s.crons ≡ o
    → ((c : Cron) → o ≡ Some c → c.uid ≡ me) → Good me s (begun n o)
good_begun me s n None e m = tt
good_begun me s n (Some c) e m =
    good_go me s (record { name = n; cron = c; alive = [] }) (named c.active) None (e, m c refl) tt tt

-- After the GET of a Job under a name that was to be taken.
good_adopted : (me : List ℕ) (s : Cluster) (at : At) (n : List ℕ) (o : Option Job) → Stands me s at
    → AllHere s.jobs at.alive
    → find n s.jobs ≡ o → Good me s (adopted at n o)
good_adopted me s at n None a b e = (a, b)
good_adopted me s at n (Some j) a b e = by_test (lets_hold at.cron.policy at.alive && is_ours at.cron j) refl
  where
    by_test : (q : Bool) → (lets_hold at.cron.policy at.alive && is_ours at.cron j) ≡ q
        → Good me s (if q then Holding at (record { job = ref n j.uid; found = j }) else Ready at)
    by_test true t = (
      a,
      record {
        job = j;
        stands = e;
        uid = refl;
        waits_yet = ours_waits at.cron j (both_true (lets_hold at.cron.policy at.alive) (is_ours at.cron j) t).1;
      },
      b,
    )
    by_test false t = (a, b)

-- ---- writes

-- A Job that was made held waits.
made_waits : (t : Stamp) (j : Job) → j.held ≡ true → waits (made t j) ≡ true
made_waits t j h = ap (λ (z : Bool). z && true && true) h

-- After a POST.
good_create : (me : List ℕ) (s : Cluster) (t : Stamp) (at : At) (n : List ℕ) (j : Job) (o : Option Job)
    → Stands me s at → j.held ≡ true
    → AllHere (create s t n j o).cluster.jobs at.alive
    → Good me (create s t n j o).cluster (from_ready at (Of.Create n j) (create s t n j o).answer)
good_create me s t at [] j o a h b = (a, b)
good_create me s t at (c ∷ n) j None a h b = (
  a,
  record {
    job = made t j;
    stands = put_self (c ∷ n) (made t j) s.jobs;
    uid = refl;
    waits_yet = made_waits t j h;
  },
  b,
)
good_create me s t at (c ∷ n) j (Some old) a h b = (a, b)

-- The condition of a write on the CronJob that stands is met.
met : (u v : List ℕ) (c : Cron) → u ≡ c.uid → v ≡ c.version → takes u v c ≡ true
met u v c a b =
    ap (λ (z : Bool). z && is_same c.version v) (same_is c.uid u (sym a)) ∙ same_is c.version v (sym b)

-- After a status without its dead.
good_tidy : (me : List ℕ) (s : Cluster) (t : Stamp) (at : At) (w : Tidy) → Stands me s at
    → AllHere s.jobs at.alive → MayTidy at w
    → Good me (tidy s t w (find w.name s.crons)).cluster
    (from_ready at (Of.Tidy w) (tidy s t w (find w.name s.crons)).answer)
good_tidy me s t at w a b m =
    let P : Option Cron
    → Type 0 = λ o. Good me (tidy s t w o).cluster (from_ready at (Of.Tidy w) (tidy s t w o).answer) in
    let Q : Bool → Type 0 = λ b.
    let x : Served = if b then puts_cron s (Is.Written t.version) w.name (tidied t w at.cron) else refuses s in
    Good me x.cluster (from_ready at (Of.Tidy w) x.answer) in
    let here : find w.name s.crons ≡ Some at.cron
    = subst (λ (n : List ℕ). find n s.crons ≡ Some at.cron) (sym m.name) a.0 in
    let now : Stands me (puts_cron s (Is.Written t.version) w.name (tidied t w at.cron)).cluster
    (has_tidied at w t.version) = (
      subst (λ (n : List ℕ). find n (put w.name (tidied t w at.cron) s.crons) ≡ Some (tidied t w at.cron)) m.name
          (put_self w.name (tidied t w at.cron) s.crons),
      a.1,
    ) in
    subst P (sym here) (subst Q (sym (met w.uid w.version at.cron m.uid m.version)) (now, b))

-- After a claim.
good_claim : (me : List ℕ) (s : Cluster) (t : Stamp) (at : At) (x : Held) (w : Claim) → Stands me s at → WaitsAt s x.job
    → AllHere s.jobs at.alive → MayClaim at x w
    → Good me (claim s t w (find w.name s.crons)).cluster
    (from_holding at x (Of.Claim w) (claim s t w (find w.name s.crons)).answer)
good_claim me s t at x w a n b m =
    let P : Option Cron → Type 0 = λ o.
    Good me (claim s t w o).cluster (from_holding at x (Of.Claim w) (claim s t w o).answer) in
    let Q : Bool → Type 0 = λ b.
    let z : Served = if b then puts_cron s (Is.Written t.version) w.name (claimed t w at.cron) else refuses s in
    Good me z.cluster (from_holding at x (Of.Claim w) z.answer) in
    let here : find w.name s.crons ≡ Some at.cron
    = subst (λ (q : List ℕ). find q s.crons ≡ Some at.cron) (sym m.name) a.0 in
    let now : Stands me (puts_cron s (Is.Written t.version) w.name (claimed t w at.cron)).cluster
    (has_claimed at w t.version) = (
      subst (λ (q : List ℕ). find q (put w.name (claimed t w at.cron) s.crons) ≡ Some (claimed t w at.cron)) m.name
          (put_self w.name (claimed t w at.cron) s.crons),
      a.1,
    ) in
    let yet : WaitsAt (puts_cron s (Is.Written t.version) w.name (claimed t w at.cron)).cluster x.job =
    record { job = n.job; stands = n.stands; uid = n.uid; waits_yet = n.waits_yet } in
    subst P (sym here) (subst Q (sym (met w.uid w.version at.cron m.uid m.version)) (
      now,
      yet,
      drops_here x.found.policy s.jobs at.alive b,
      kept_here x.found.policy s.jobs at.alive b,
    ))

-- A Job that waits isn't one that was started.
not_alive : (g : List Told) (at : At) (x : Held) → AtFact g at (x.job ∷ []) → WaitsAt (state_of g) x.job
    → IsIn x.job at.alive → ⊥
not_alive g at x a n i = absurd (cc (n.waits_yet, a.settled x.job i n.job n.stands n.uid))

-- A reference to another Job than one in a list is none of the list.
not_ref : (xs : List Ref) (r q : Ref) → (IsIn r xs → ⊥) → IsIn q xs → is_ref r q ≡ false
not_ref xs r q n i = is_false (is_ref r q) (λ e. n (subst (λ (z : Ref). IsIn z xs) (sym (ref_true r q e)) i))

-- After a start.
good_start : (me : List ℕ) (g : List Told) (t : Stamp) (at : At) (x : Held) (r : Ref) → Commits me g at x []
    → Stands me (state_of g) at → WaitsAt (state_of g) x.job
    → AllHere (state_of g).jobs (kept_of x.found.policy at.alive) → r ≡ x.job
    → Good me (start (state_of g) t r (look (state_of g).jobs r)).cluster
    (from_starting at x (Of.Start r) (start (state_of g) t r (look (state_of g).jobs r)).answer)
good_start me g t at x r l a n b e =
    let s = state_of g in
    let kept = kept_of x.found.policy at.alive in
    let P : Option Job → Type 0 = λ o. AllHere (start s t r o).cluster.jobs kept
    → Good me (start s t r o).cluster (from_starting at x (Of.Start r) (start s t r o).answer) in
    let Q : Bool → Type 0 = λ q.
    let z : Served = if q then puts_job s (Is.Written t.version) r.name (released t n.job) else refuses s in
    AllHere z.cluster.jobs kept → Good me z.cluster (from_starting at x (Of.Start r) z.answer) in
    let here : look s.jobs r ≡ Some n.job =
    subst (λ (q : Ref). look s.jobs q ≡ Some n.job) (sym e) (look_is s.jobs x.job n.job n.stands n.uid) in
    let held : n.job.held ≡ true = is_held n.job n.waits_yet in
    let apart : IsIn x.job kept → ⊥
    = λ i. not_alive g at x (l.its a.1).at_fact n (kept_among x.found.policy at.alive x.job i) in
    let self : find x.job.name (put r.name (released t n.job) s.jobs) ≡ Some (released t n.job) =
    subst (λ (q : Ref). find q.name (put r.name (released t n.job) s.jobs) ≡ Some (released t n.job)) e
    (put_self r.name (released t n.job) s.jobs) in
    let base : Q true = λ k. good_go me (puts_job s (Is.Written t.version) r.name (released t n.job)).cluster
    (has_started at x) (drops_of x.found.policy at.alive) None a tt
    (here_end (put r.name (released t n.job) s.jobs) kept x.job k (released t n.job, self, n.uid) apart) in
    subst P (sym here) (subst Q (sym held) base)
    (here_after g t (Of.Start r) kept (λ q i. subst (λ (z : Ref). is_ref z q ≡ false) (sym e)
    (not_ref kept x.job q apart i)) b)

-- The answer to a DELETE by uid of a Job that stands lets the sync go on.
dropped_on : (s : Cluster) (t : Stamp) (at : At) (x : Held) (ds : List Ref) (r : Ref) (j : Job)
    → from_dropping at x ds (Of.Delete r) (delete s t r j).answer ≡ Starting at x ds
dropped_on s t at x ds r j = by_pin j.pinned
  where
    by_mark : (b : Bool) → from_dropping at x ds (Of.Delete r)
        (if b then says s Is.Deleted else puts_job s Is.Deleted r.name (marked t j)).answer ≡ Starting at x ds
    by_mark true = refl
    by_mark false = refl

    by_pin : (b : Bool)
        → from_dropping at x ds (Of.Delete r) (if b then mark s t r j else record
        { answer = Is.Deleted; cluster = record s { jobs = without r.name s.jobs } }).answer
        ≡ Starting at x ds
    by_pin true = by_mark j.deleting
    by_pin false = refl

-- After a DELETE of garbage, or of a finished Job.
good_clear : (me : List ℕ) (s : Cluster) (t : Stamp) (at : At) (gs fs : List Ref) (r : Ref) (o : Option Job)
    → Good me (delete_where s t r o).cluster (from_tidying at gs fs (Of.Delete r) (delete_where s t r o).answer)
good_clear me s t at gs fs r None = tt
good_clear me s t at gs fs r (Some j) = by_pin j.pinned
  where
    by_mark : (b : Bool)
        → let z : Served = if b then says s Is.Deleted else puts_job s Is.Deleted r.name (marked t j) in
        Good me z.cluster (from_tidying at gs fs (Of.Delete r) z.answer)
    by_mark true = tt
    by_mark false = tt

    by_pin : (b : Bool)
        → let z : Served = if b then mark s t r j else record
        { answer = Is.Deleted; cluster = record s { jobs = without r.name s.jobs } } in
        Good me z.cluster (from_tidying at gs fs (Of.Delete r) z.answer)
    by_pin true = by_mark j.deleting
    by_pin false = tt

-- After a DELETE before a start.
good_drop : (me : List ℕ) (g : List Told) (t : Stamp) (at : At) (x : Held) (d : Ref) (ds : List Ref) (r : Ref)
    → Commits me g at x (d ∷ ds) → Stands me (state_of g) at → WaitsAt (state_of g) x.job
    → AllHere (state_of g).jobs (d ∷ ds) → r ≡ d
    → Good me (delete_where (state_of g) t r (look (state_of g).jobs r)).cluster
    (from_dropping at x ds (Of.Delete r) (delete_where (state_of g) t r (look (state_of g).jobs r)).answer)
good_drop me g t at x d ds r l a n b e =
    let s = state_of g in
    let o = look s.jobs r in
    let here : o ≡ Some b.0.0 =
    subst (λ (q : Ref). look s.jobs q ≡ Some b.0.0) (sym e) (look_is s.jobs d b.0.0 b.0.1 b.0.2) in
    let on : from_dropping at x ds (Of.Delete r) (delete_where s t r o).answer ≡ Starting at x ds =
    ap (λ (z : Option Job). from_dropping at x ds (Of.Delete r) (delete_where s t r z).answer) here
    ∙ dropped_on s t at x ds r b.0.0 in
    let apart : is_ref r x.job ≡ false = is_false (is_ref r x.job) (λ q.
    not_alive g at x (l.its a.1).at_fact n (subst (λ (z : Ref). IsIn z at.alive) (sym e ∙ ref_true r x.job q)
    (l.among d (inl refl)))) in
    let stands : Stands me (delete_where s t r o).cluster at =
    (subst (λ z. find at.name z ≡ Some at.cron) (sym (crons_delete_where s t r o)) a.0, a.1) in
    subst (Good me (delete_where s t r o).cluster) (sym on) (
      stands,
      record {
        job = n.job;
        stands = stays_delete_where g t r x.job n.job apart n.stands n.uid o refl;
        uid = n.uid;
        waits_yet = n.waits_yet;
      },
      here_after g t (Of.Delete r) ds (λ q i. subst (λ (z : Ref). is_ref z q ≡ false) (sym e)
          (not_ref ds d q b.1 i)) b.2,
      none_stays x.found.policy (delete_where s t r o).cluster.jobs at.alive (l.replaces d (inl refl)),
    )

-- ---- any call

-- what is left of a sync that made a call
abbrev pub GoesOn : List ℕ → List Told → Stamp → Sync → Call → Type 0
GoesOn me g t s call =
    Good me (served (state_of g) t call).cluster (advanced s call (served (state_of g) t call).answer) ⊎ IsExpire call

-- After a first call.
fresh_on : (me : List ℕ) (g : List Told) (t : Stamp) (call : Call)
    → ReadsCron me (served (state_of g) t call).answer → MayFresh call → GoesOn me g t Fresh call
fresh_on me g t (Of.GetCron n) q m = inl (good_begun me (state_of g) n (cron_at g n) refl
    (λ c e. subst (λ (o : Option Cron). ReadsCron me (Is.Cron o)) e q))
fresh_on me g t (Of.CacheCron n) q m = inl (good_begun me (state_of g) n (cron_at g n) refl
    (λ c e. subst (λ (o : Option Cron). ReadsCron me (Is.Cron o)) e q))
fresh_on me g t call q m = absurd m

-- After a reading of a Job of status.active.
looking_on : (me : List ℕ) (g : List Told) (t : Stamp) (at : At) (r : Ref) (rs : List Ref) (held : Option Held)
    (call : Call) → Inv me g
    → Looks me g at (r ∷ rs) held → Stands me (state_of g) at → HeldWaits (state_of g) held
    → AllHere (state_of g).jobs at.alive → MayLook r call → GoesOn me g t (Looking at (r ∷ rs) held) call
looking_on me g t at r rs held (Of.GetJob n) f l a w b m =
    inl (good_looked me g at rs held r (job_at g n) f l a w b (ap (λ (z : List ℕ). job_at g z) (sym m)))
looking_on me g t at r rs held (Of.CacheJob n) f l a w b m =
    inl (good_cached me g at rs held r (job_at g n) f l a w b (ap (λ (z : List ℕ). job_at g z) (sym m)))
looking_on me g t at r rs held call f l a w b m = absurd m

-- After a call with no held Job at hand.
ready_on : (me : List ℕ) (g : List Told) (t : Stamp) (at : At) (call : Call) → Stands me (state_of g) at
    → AllHere (state_of g).jobs at.alive → MayReady at call → GoesOn me g t (Ready at) call
ready_on me g t at (Of.GetJob n) a b m = inl (good_adopted me (state_of g) at n (job_at g n) a b refl)
ready_on me g t at (Of.Create n j) a b m =
    inl (good_create me (state_of g) t at n j (job_at g n) a m.held
    (here_after g t (Of.Create n j) at.alive (λ r i. tt) b))
ready_on me g t at (Of.Tidy w) a b m = inl (good_tidy me (state_of g) t at w a b m)
ready_on me g t at Of.ListJobs a b m = inl tt
ready_on me g t at call a b m = absurd m

-- After a call with a held Job at hand.
holding_on : (me : List ℕ) (g : List Told) (t : Stamp) (at : At) (x : Held) (call : Call) → Stands me (state_of g) at
    → WaitsAt (state_of g) x.job → AllHere (state_of g).jobs at.alive → MayHolding at x call
    → GoesOn me g t (Holding at x) call
holding_on me g t at x (Of.Claim w) a n b m = inl (good_claim me (state_of g) t at x w a n b m)
holding_on me g t at x call a n b m = ready_on me g t at call a b m

-- After a call with a Job to start.
starting_on : (me : List ℕ) (g : List Told) (t : Stamp) (at : At) (x : Held) (call : Call) → Commits me g at x []
    → Stands me (state_of g) at → WaitsAt (state_of g) x.job
    → AllHere (state_of g).jobs (kept_of x.found.policy at.alive) → MayStart at x call
    → GoesOn me g t (Starting at x []) call
starting_on me g t at x (Of.Start r) l a n b m = inl (good_start me g t at x r l a n b m)
starting_on me g t at x (Of.Expire r v now) l a n b m = inr tt
starting_on me g t at x call l a n b m = absurd m

-- After a call with Jobs to delete before a start.
dropping_on : (me : List ℕ) (g : List Told) (t : Stamp) (at : At) (x : Held) (d : Ref) (ds : List Ref) (call : Call)
    → Commits me g at x (d ∷ ds) → Stands me (state_of g) at → WaitsAt (state_of g) x.job
    → AllHere (state_of g).jobs (d ∷ ds) → MayDrop at x d call → GoesOn me g t (Starting at x (d ∷ ds)) call
dropping_on me g t at x d ds (Of.Delete r) l a n b m = inl (good_drop me g t at x d ds r l a n b m)
dropping_on me g t at x d ds (Of.Expire r v now) l a n b m = inr tt
dropping_on me g t at x d ds call l a n b m = absurd m

-- After a call with garbage and finished Jobs to delete.
clearing_on : (me : List ℕ) (g : List Told) (t : Stamp) (at : At) (gs fs : List Ref) (call : Call) → MayClear gs fs call
    → GoesOn me g t (Tidying at gs fs) call
clearing_on me g t at gs fs (Of.Delete r) m = inl (good_clear me (state_of g) t at gs fs r (look (state_of g).jobs r))
clearing_on me g t at gs fs call m = absurd m

-- After any call that it may make a sync is good, or has deleted a Job for its deadline.
goes_on : (me : List ℕ) (g : List Told) (t : Stamp) (s : Sync) (call : Call) → Inv me g → SyncFact me g s
    → Good me (state_of g) s
    → ReadsCron me (served (state_of g) t call).answer → May s call → GoesOn me g t s call
goes_on me g t Fresh call f l a q m = fresh_on me g t call q m
goes_on me g t (Looking at [] held) call f l a q m = absurd a
goes_on me g t (Looking at (r ∷ rs) held) call f l a q m = looking_on me g t at r rs held call f l a.0 a.1 a.2 m
goes_on me g t (Ready at) call f l a q m = ready_on me g t at call a.0 a.1 m
goes_on me g t (Holding at x) call f l a q m = holding_on me g t at x call a.0 a.1 a.2 m
goes_on me g t (Starting at x []) call f l a q m = starting_on me g t at x call l a.0 a.1 a.3 m
goes_on me g t (Starting at x (d ∷ ds)) call f l a q m = dropping_on me g t at x d ds call l a.0 a.1 a.2 m
goes_on me g t (Tidying at gs fs) call f l a q m = clearing_on me g t at gs fs call m
goes_on me g t Gone call f l a q m = absurd m
goes_on me g t Over call f l a q m = absurd m

-- ---- the whole

abbrev pub IsGood : List ℕ → ℕ → List Told → Type 0
IsGood me y g = IsSyncOf me (own y g) → Good me (state_of g) (seen_of (own y g)) ⊎ HasExpired (own y g)

-- What the sync did after its call.
own_next : (g : List Told) (t : Stamp) (y : ℕ) (call : Call) (a : Answer)
    → own y (next g t (Asked y call true a)) ≡ record { call = call; answer = a } ∷ own y g
own_next g t y call a = ap (λ (b : Bool). if b then record { call = call; answer = a } ∷ own y g else own y g)
    (self_number y)

-- An undisturbed sync stays good.
good_step : (me : List ℕ) (y : ℕ) (g : List Told) (t : Stamp) (call : Call) (a : Answer) → Plain me g t y call a
    → IsGood me y g → IsGood me y (next g t (Asked y call true a))
good_step me y g t call a p k reads = by_part (k both.1)
  where
    both : ReadsCron me a × IsSyncOf me (own y g)
    both = subst (IsSyncOf me) (own_next g t y call a) reads

    by_call : GoesOn me g t (seen_of (own y g)) call
        → Good me (state_of (next g t (Asked y call true a))) (seen_of (own y (next g t (Asked y call true a))))
        ⊎ HasExpired (own y (next g t (Asked y call true a)))
    by_call (inl b) =
        let c : Good me (served (state_of g) t call).cluster (advanced (seen_of (own y g)) call a) =
        subst (λ (z : Answer). Good me (served (state_of g) t call).cluster (advanced (seen_of (own y g)) call z))
        (sym p.is) b in
        inl (subst (λ (os : List Own). Good me (served (state_of g) t call).cluster (seen_of os))
        (sym (own_next g t y call a)) c)
    by_call (inr e) = inr (subst HasExpired (sym (own_next g t y call a)) (inl e))

    by_part : Good me (state_of g) (seen_of (own y g)) ⊎ HasExpired (own y g)
        → Good me (state_of (next g t (Asked y call true a))) (seen_of (own y (next g t (Asked y call true a))))
        ⊎ HasExpired (own y (next g t (Asked y call true a)))
    by_part (inl b) = by_call (goes_on me g t (seen_of (own y g)) call p.inv (p.inv.syncs y) b
        (subst (ReadsCron me) p.is both.0) p.may)
    by_part (inr e) = inr (subst HasExpired (sym (own_next g t y call a)) (inr e))

-- For good_beside: what was found running was of the CronJob.
mine : {me : List ℕ} {g : List Told} (at : At) → AtBase g at → at.cron.uid ≡ me → (r : Ref) → IsIn r at.alive
    → Owned g me r
mine {me} {g} at a m r i = subst (λ (z : List ℕ). Owned g z r) m (a.owned r i)

module _ {me : List ℕ} {g : List Told} {t : Stamp} {y : ℕ} {d : Deed} where
  -- For good_beside: its CronJob stands as before.
  stands_beside : Beside me g t y d → (at : At) → Stands me (state_of g) at → Stands me (state_of (next g t d)) at
  stands_beside q at a = (q.leaves.cron at.name at.cron a.0 a.1, a.1)

  -- For good_beside: a held Job of it waits as before.
  wait_beside : Beside me g t y d → (x : Held) → HeldFact g me x → WaitsAt (state_of g) x.job
      → WaitsAt (state_of (next g t d)) x.job
  wait_beside q x a w =
      let own = owned_own q.inv x.job (held_owned g me x a) in
      record {
        job = w.job;
        stands = q.leaves.held x.job.name w.job w.stands (own.stands w.job w.stands w.uid)
            (is_held w.job w.waits_yet);
        uid = w.uid;
        waits_yet = w.waits_yet;
      }

  -- For good_beside: a Job that was found held, if there is one.
  held_beside : Beside me g t y d → (o : Option Held) → IfHeld g me o → HeldWaits (state_of g) o
      → HeldWaits (state_of (next g t d)) o
  held_beside q None a w = tt
  held_beside q (Some x) a w = wait_beside q x a w

  -- For good_beside: the other Jobs of it still stand.
  all_beside : Beside me g t y d → (rs : List Ref) → ((r : Ref) → IsIn r rs → Owned g me r)
      → AllHere (state_of g).jobs rs → AllHere (state_of (next g t d)).jobs rs
  all_beside q rs f a = here_still (state_of g).jobs (state_of (next g t d)).jobs rs
      (λ r i h.
      let b = q.leaves.jobs r.name h.0 h.1 ((owned_own q.inv r (f r i)).stands h.0 h.1 h.2) in
      (b.job, b.stands, b.uid ∙ h.2)) a

  -- A sync that is good is so after an entry of others that leaves its CronJob alone.
  good_beside : Beside me g t y d → (s : Sync) → SyncFact me g s → Good me (state_of g) s
      → Good me (state_of (next g t d)) s
  good_beside q Fresh l a = tt
  good_beside q (Looking at [] held) l a = absurd a
  good_beside q (Looking at (r ∷ rs) held) l a = (
    stands_beside q at a.0,
    held_beside q held (subst (λ (z : List ℕ). IfHeld g z held) a.0.1 l.held_fact) a.1,
    all_beside q at.alive (mine at l.base a.0.1) a.2,
  )
  good_beside q (Ready at) l a = (stands_beside q at a.0, all_beside q at.alive (mine at l.base a.0.1) a.1)
  good_beside q (Holding at x) l a = (
    stands_beside q at a.0,
    wait_beside q x (subst (λ (z : List ℕ). HeldFact g z x) a.0.1 l.held_fact) a.1,
    all_beside q at.alive (mine at l.base a.0.1) a.2,
  )
  good_beside q (Starting at x ds) l a = (
    stands_beside q at a.0,
    wait_beside q x (subst (λ (z : List ℕ). HeldFact g z x) a.0.1 l.held_fact) a.1,
    all_beside q ds (λ r i. mine at l.base a.0.1 r (l.among r i)) a.2,
    all_beside q (kept_of x.found.policy at.alive)
        (λ r i. mine at l.base a.0.1 r (kept_among x.found.policy at.alive r i)) a.3,
  )
  good_beside q (Tidying at gs fs) l a = tt
  good_beside q Gone l a = tt
  good_beside q Over l a = absurd a

-- A sync stays good through an entry of others that leaves its CronJob alone.
good_meanwhile : (me : List ℕ) (y : ℕ) (g : List Told) (t : Stamp) (d : Deed) → Beside me g t y d → IsGood me y g
    → IsGood me y (next g t d)
good_meanwhile me y g t d q k reads =
    subst (λ (os : List Own). Good me (state_of (next g t d)) (seen_of os) ⊎ HasExpired os) (sym q.same)
    (by_part (k (subst (IsSyncOf me) q.same reads)))
  where
    by_part : Good me (state_of g) (seen_of (own y g)) ⊎ HasExpired (own y g)
        → Good me (state_of (next g t d)) (seen_of (own y g)) ⊎ HasExpired (own y g)
    by_part (inl b) = inl (good_beside q (seen_of (own y g)) (q.inv.syncs y) b)
    by_part (inr e) = inr e

-- A sync that is good may make a further call, or is done.
has_next : (me : List ℕ) (s : Cluster) (x : Sync) → Good me s x → HasNext x ⊎ IsDone x
has_next me s Fresh a = inl (Of.GetCron [], tt)
has_next me s (Looking at [] held) a = absurd a
has_next me s (Looking at (r ∷ rs) held) a = inl (Of.GetJob r.name, refl)
has_next me s (Ready at) a = inl (Of.ListJobs, tt)
has_next me s (Holding at x) a = inl (
  Of.Claim (record {
    name = at.name;
    uid = at.cron.uid;
    version = at.cron.version;
    time = x.found.time;
    job = x.job;
    active = at.alive ++ x.job ∷ [];
    success = None;
  }),
  record { name = refl; uid = refl; version = refl; time = refl; job = refl; active = refl; success = tt },
)
has_next me s (Starting at x []) a = inl (Of.Start x.job, refl)
has_next me s (Starting at x (d ∷ ds)) a = inl (Of.Delete d, refl)
has_next me s (Tidying at (z ∷ gs) fs) a =
    inl (Of.Delete z, ap (λ (b : Bool). (b || has_ref gs z) || has_ref fs z) (ref_self z))
has_next me s (Tidying at [] fs) a = inr tt
has_next me s Gone a = inr tt
has_next me s Over a = absurd a

-- A sync that is good isn't stuck.
stuck_not : (me : List ℕ) (y : ℕ) (g : List Told) → Good me (state_of g) (seen_of (own y g)) ⊎ HasExpired (own y g)
    → HasNext (seen_of (own y g)) ⊎ (IsDone (seen_of (own y g)) ⊎ HasExpired (own y g))
stuck_not me y g (inr e) = inr (inr e)
stuck_not me y g (inl a) = by_next (has_next me (state_of g) (seen_of (own y g)) a)
  where
    by_next : HasNext (seen_of (own y g)) ⊎ IsDone (seen_of (own y g))
        → HasNext (seen_of (own y g)) ⊎ (IsDone (seen_of (own y g)) ⊎ HasExpired (own y g))
    by_next (inl n) = inl n
    by_next (inr d) = inr (inl d)

-- An undisturbed sync isn't stuck.
pub never_stuck : NeverStuck
never_stuck me h es y l a o none u reads =
    let base : IsGood me y h = λ q. inl (subst (λ os. Good me (state_of h) (seen_of os)) (sym none) tt) in
    stuck_not me y (es ++ h) (run me y h (IsGood me y) base (good_step me y) (good_meanwhile me y) es l a o u reads)
