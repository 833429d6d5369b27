-- An undisturbed sync starts what was claimed.
use Rattle.std.proofs.Common.{◌≡◌, ◌⊎◌, inl, inr, ℕ, ◌<◌, ◌≤◌, Bool, true, false, not, ◌&&◌, List, [], ◌∷◌, ◌++◌, Option, Some, None, refl, sym, ap, subst, ◌∙◌, arith}
use Rattle.std.specs.Prelude.{if◌then◌else◌}
use Rattle.cj_fence.specs.declared.refs.Ref.{Ref}
use Rattle.cj_fence.specs.declared.objects.Cron.{Cron}
use Rattle.cj_fence.specs.declared.objects.Job.{Job}
use Rattle.cj_fence.specs.declared.call.Call.{Call}
use Rattle.cj_fence.specs.declared.call.Call.TheVariants as Of
use Rattle.cj_fence.specs.declared.answer.Answer.{Answer}
use Rattle.cj_fence.specs.declared.answer.Answer.TheVariants as Is
use Rattle.cj_fence.specs.declared.answer.Stamp.{Stamp}
use Rattle.cj_fence.specs.declared.sync.At.{At}
use Rattle.cj_fence.specs.declared.sync.Held.{Held}
use Rattle.cj_fence.specs.declared.sync.Sync.{Sync}
use Rattle.cj_fence.specs.declared.sync.Sync.TheVariants.{Fresh, Looking, Ready, Holding, Starting, Tidying, Gone, Over}
use Rattle.cj_fence.specs.Texts.{is_same}
use Rattle.cj_fence.specs.Objects.{named, waits, is_dead}
use Rattle.cj_fence.specs.Server.{served}
use Rattle.cj_fence.specs.Protocol.{with_alive, drops_of, go_on, was_found, found_held, found_job, is_its, looked, cached, begun, is_ours, lets_hold, adopted, has_started, from_fresh, from_looking, from_ready, from_holding, from_dropping, from_starting, from_tidying, advanced, MayHolding, May, seen_of}
use Rattle.cj_fence.specs.History.{Deed, Asked, Told, state_of, Claimed, claims, claim_of, waits_in, starts, started, own}
use Rattle.cj_fence.specs.Lost.{IsWaiting, IsExpiry}
use Rattle.cj_fence.specs.Help.{HasLooked, HelpLaw}
use Rattle.cj_fence.proofs.FenceLemmas.Basics.{IsIn, first_true, second_true, look_is}
use Rattle.cj_fence.proofs.FenceLemmas.Facts.{job_at, cron_at, Dead, Settled, IsOwn, AtFact, SyncFact, Inv}
use Rattle.cj_fence.proofs.FenceLemmas.Grows.{dead_settled, is_held, claimed_own}
use Rattle.cj_fence.proofs.FenceLemmas.Moves.{next, claim_stays, waiting_is}
use Rattle.cj_fence.proofs.FenceLemmas.Lost.{becomes}
use Rattle.cj_fence.proofs.FenceLemmas.Runs.{Plain, Beside, seen_next, run}
use Rattle.cj_fence.proofs.FenceLemmas.Whole.{always}

-- ---- what a sync knows was claimed by the last time it saw

-- the last time that a sync saw of this CronJob isn't before this one
abbrev pub Since : List ℕ → ℕ → At → Type 0
Since u m at = at.cron.uid ≡ u → m ≤ at.cron.last

abbrev pub SinceOf : List ℕ → ℕ → Sync → Type 0
SinceOf u m Fresh = Unit {0}
SinceOf u m (Looking at rs held) = Since u m at
SinceOf u m (Ready at) = Since u m at
SinceOf u m (Holding at x) = Since u m at
SinceOf u m (Starting at x ds) = Since u m at
SinceOf u m (Tidying at gs fs) = Since u m at
SinceOf u m Gone = Unit {0}
SinceOf u m Over = Unit {0}

module _ (u : List ℕ) (m : ℕ) where
  since_go : (at : At) (rs : List Ref) (held : Option Held) → Since u m at → SinceOf u m (go_on at rs held)
  since_go at [] None s = s
  since_go at [] (Some x) s = s
  since_go at (r ∷ rs) held s = s

  since_if : (b : Bool) (x z : Sync) → SinceOf u m x → SinceOf u m z → SinceOf u m (if b then x else z)
  since_if true x z f g = f
  since_if false x z f g = g

  since_held : (at : At) (rs : List Ref) (held : Option Held) (x : Held) → Since u m at
      → SinceOf u m (found_held at rs held x)
  since_held at rs None x s = since_go at rs (Some x) s
  since_held at rs (Some z) x s = tt

  since_looked : (at : At) (rs : List Ref) (held : Option Held) (r : Ref) (o : Option Job) → Since u m at
      → SinceOf u m (looked at rs held r o)
  since_looked at rs held r None s = since_go at rs held s
  since_looked at rs held r (Some j) s = since_if (is_its at.cron r j && not (is_dead j))
      (found_job at rs held r j) (go_on at rs held)
      (since_if (was_found at held r) (go_on at rs held)
      (if j.held then found_held at rs held (record { job = r; found = j }) else go_on (with_alive at r) rs held)
      (since_go at rs held s)
      (since_if j.held (found_held at rs held (record { job = r; found = j })) (go_on (with_alive at r) rs held)
      (since_held at rs held (record { job = r; found = j }) s) (since_go (with_alive at r) rs held s)))
      (since_go at rs held s)

  since_cached : (at : At) (rs : List Ref) (held : Option Held) (r : Ref) (o : Option Job) → Since u m at
      → SinceOf u m (cached at rs held r o)
  since_cached at rs held r None s = s
  since_cached at rs held r (Some j) s = since_if (is_same j.uid r.uid && not (waits j))
      (looked at rs held r (Some j)) (Looking at (r ∷ rs) held) (since_looked at rs held r (Some j) s) s

  since_begun : (n : List ℕ) (o : Option Cron) → ((c : Cron) → o ≡ Some c → c.uid ≡ u → m ≤ c.last)
      → SinceOf u m (begun n o)
  since_begun n None f = tt
  since_begun n (Some c) f = since_go (record { name = n; cron = c; alive = [] }) (named c.active) None (f c refl)

  since_adopted : (at : At) (n : List ℕ) (o : Option Job) → Since u m at → SinceOf u m (adopted at n o)
  since_adopted at n None s = s
  since_adopted at n (Some j) s = since_if (lets_hold at.cron.policy at.alive && is_ours at.cron j)
      (Holding at (record { job = record { name = n; uid = j.uid }; found = j })) (Ready at) s s

  -- what the first reading is of
  abbrev pub Reads : Call → Answer → Type 0
  Reads (Of.GetCron n) (Is.Cron o) = (c : Cron) → o ≡ Some c → c.uid ≡ u → m ≤ c.last
  Reads (Of.CacheCron n) (Is.Cron o) = (c : Cron) → o ≡ Some c → c.uid ≡ u → m ≤ c.last
  Reads call a = Unit {0}

  since_fresh : (call : Call) (a : Answer) → Reads call a → SinceOf u m (from_fresh call a)
  since_fresh (Of.GetCron n) (Is.Cron o) f = since_begun n o f
  since_fresh (Of.CacheCron n) (Is.Cron o) f = since_begun n o f
  since_fresh call a f = tt

  since_looking : (at : At) (r : Ref) (rs : List Ref) (held : Option Held) (call : Call) (a : Answer) → Since u m at
      → SinceOf u m (from_looking at r rs held call a)
  since_looking at r rs held (Of.GetJob n) (Is.Job o) s = since_looked at rs held r o s
  since_looking at r rs held (Of.CacheJob n) (Is.Job o) s = since_cached at rs held r o s
  since_looking at r rs held call a s = tt

  since_ready : (at : At) (call : Call) (a : Answer) → Since u m at → SinceOf u m (from_ready at call a)
  since_ready at (Of.GetJob n) (Is.Job o) s = since_adopted at n o s
  since_ready at (Of.Create n j) (Is.Created x) s = s
  since_ready at (Of.Create n j) Is.Refused s = s
  since_ready at (Of.Tidy w) (Is.Written v) s = s
  since_ready at Of.ListJobs (Is.Jobs rows) s = s
  since_ready at call a s = tt

  since_holding : (at : At) (x : Held) (call : Call) (a : Answer) → at.cron.last < x.found.time → MayHolding at x call
      → Since u m at → SinceOf u m (from_holding at x call a)
  since_holding at x (Of.Claim w) (Is.Written v) l k s =
      λ e. let low = s e in let same = k.time in omega arith
  since_holding at x (Of.Claim w) a l k s = tt
  since_holding at x call a l k s = since_ready at call a s

  since_dropping : (at : At) (x : Held) (ds : List Ref) (call : Call) (a : Answer) → Since u m at
      → SinceOf u m (from_dropping at x ds call a)
  since_dropping at x ds (Of.Delete r) Is.Deleted s = s
  since_dropping at x ds call a s = tt

  since_starting : (at : At) (x : Held) (call : Call) (a : Answer) → Since u m at
      → SinceOf u m (from_starting at x call a)
  since_starting at x (Of.Start r) (Is.Written v) s =
      since_go (has_started at x) (drops_of x.found.policy at.alive) None s
  since_starting at x call a s = tt

  since_tidying : (at : At) (gs fs : List Ref) (call : Call) (a : Answer) → Since u m at
      → SinceOf u m (from_tidying at gs fs call a)
  since_tidying at gs fs (Of.Delete r) Is.Deleted s = s
  since_tidying at gs fs (Of.Delete r) Is.Refused s = s
  since_tidying at gs fs call a s = tt

-- The last time that a sync saw isn't before this one, whatever it calls.
pub since_next : (me : List ℕ) (g : List Told) (u : List ℕ) (m : ℕ) (s : Sync) → SyncFact me g s → (call : Call)
    → May s call
    → (a : Answer)
    → Reads u m call a → SinceOf u m s → SinceOf u m (advanced s call a)
since_next me g u m Fresh k call may a f s = since_fresh u m call a f
since_next me g u m (Looking at [] held) k call may a f s = absurd may
since_next me g u m (Looking at (r ∷ rs) held) k call may a f s = since_looking u m at r rs held call a s
since_next me g u m (Ready at) k call may a f s = since_ready u m at call a s
since_next me g u m (Holding at x) k call may a f s = since_holding u m at x call a k.for_fact.time may s
since_next me g u m (Starting at x []) k call may a f s = since_starting u m at x call a s
since_next me g u m (Starting at x (d ∷ ds)) k call may a f s = since_dropping u m at x ds call a s
since_next me g u m (Tidying at gs fs) k call may a f s = since_tidying u m at gs fs call a s
since_next me g u m Gone k call may a f s = absurd may
since_next me g u m Over k call may a f s = absurd may

-- What an undisturbed sync reads first is what stands.
pub reads_now : (g : List Told) (t : Stamp) (u : List ℕ) (m : ℕ) (call : Call) (a : Answer)
    → a ≡ (served (state_of g) t call).answer
    → ((n : List ℕ) (c : Cron) → cron_at g n ≡ Some c → c.uid ≡ u → m ≤ c.last) → Reads u m call a
reads_now g t u m (Of.GetCron n) (Is.Cron o) e f = λ c is. f n c (cc)
reads_now g t u m (Of.CacheCron n) (Is.Cron o) e f = λ c is. f n c (cc)
reads_now g t u m call a e f = tt

-- ---- help

-- a sync that may call nothing more
abbrev pub HasEnded : Sync → Type 0
HasEnded Over = Unit {0}
HasEnded s = ⊥

-- A sync that has ended calls nothing.
pub no_more : (s : Sync) (call : Call) → May s call → HasEnded s → ⊥
no_more Over call m e = m
no_more s call m e = e

-- A sync that deletes a Job for its deadline has ended.
ends : (at : At) (x : Held) (ds : List Ref) (r : Ref) (v : List ℕ) (now : ℕ) (a : Answer)
    → HasEnded (advanced (Starting at x ds) (Of.Expire r v now) a)
ends at x [] r v now a = tt
ends at x (d ∷ ds) r v now a = tt

-- of a claimed Job: it was started, or it waits, or the sync has ended
pub data Outcome (g : List Told) (y : ℕ) (r : Ref) (k : Claimed) : Type 0 where
  IsStarted : started g r ≡ true → Outcome g y r k
  StillWaits : IsWaiting g r → SinceOf k.owner k.time (seen_of (own y g)) → Outcome g y r k
  IsOut : HasEnded (seen_of (own y g)) → Outcome g y r k

pub record Helps (g : List Told) (y : ℕ) (r : Ref) (k : Claimed) : Type 0 where
  pub claimed : claim_of g r ≡ Some k
  pub outcome : Outcome g y r k

module _ (y : ℕ) (r : Ref) (k : Claimed) where
  -- For help_step: by what becomes of a Job that waits.
  waits_on : (g : List Told) (t : Stamp) (call : Call) (a : Answer) → Plain k.owner g t y call a
      → claim_of g r ≡ Some k → SinceOf k.owner k.time (seen_of (own y g))
      → IsWaiting (next g t (Asked y call true a)) r
      ⊎ ((starts (state_of g) t (Asked y call true a) r ≡ true) ⊎ IsExpiry g y call r k)
      → Outcome (next g t (Asked y call true a)) y r k
  waits_on g t call a p is s (inl w) =
      let reads = reads_now g t k.owner k.time call a p.is (λ n c at o. (p.inv.now n c at o).claims r k is (sym o)) in
      StillWaits w (subst (SinceOf k.owner k.time) (sym (seen_next g t y call true a))
      (since_next k.owner g k.owner k.time (seen_of (own y g)) (p.inv.syncs y) call p.may a reads s))
  waits_on g t call a p is s (inr (inl e)) =
      IsStarted (first_true (starts (state_of g) t (Asked y call true a) r) (started g r) e)
  waits_on g t call a p is s (inr (inr x)) =
      let same : advanced (Starting x.at x.held x.drops) (Of.Expire r x.version x.now) a
      ≡ advanced (seen_of (own y g)) call a =
      ap (λ (z : Sync). advanced z (Of.Expire r x.version x.now) a) (sym x.knows)
      ∙ ap (λ (z : Call). advanced (seen_of (own y g)) z a) (sym x.is) in
      IsOut (subst HasEnded (same ∙ sym (seen_next g t y call true a)) (ends x.at x.held x.drops r x.version x.now a))

  help_by : (g : List Told) (t : Stamp) (call : Call) (a : Answer) → Plain k.owner g t y call a → claim_of g r ≡ Some k
      → Outcome g y r k → Outcome (next g t (Asked y call true a)) y r k
  help_by g t call a p is (IsStarted e) = IsStarted
      (second_true (starts (state_of g) t (Asked y call true a) r) (started g r) e)
  help_by g t call a p is (IsOut e) = absurd (no_more (seen_of (own y g)) call p.may e)
  help_by g t call a p is (StillWaits w s) =
      waits_on g t call a p is s (becomes g t y call true a p.inv p.may r k is refl w)

  help_step : (g : List Told) (t : Stamp) (call : Call) (a : Answer) → Plain k.owner g t y call a → Helps g y r k
      → Helps (next g t (Asked y call true a)) y r k
  help_step g t call a p b = record {
    claimed = claim_stays (claim_of g r) (claims (state_of g) (Asked y call true a) r) k b.claimed;
    outcome = help_by g t call a p b.claimed b.outcome;
  }

-- A Job of the CronJob that waits still does after an entry of others that leaves it alone.
pub waits_beside : {me : List ℕ} (g : List Told) (t : Stamp) (y : ℕ) (d : Deed) → Beside me g t y d → (r : Ref)
    → IsOwn me g r → IsWaiting g r → IsWaiting (next g t d) r
waits_beside g t y d q r own w =
    let b = waiting_is g r w in
    let owner = own.stands b.job b.stands b.uid in
    let now : job_at (next g t d) r.name ≡ Some b.job =
    q.leaves.held r.name b.job b.stands owner (is_held b.job b.waits_yet) in
    ap (λ (o : Option Job). waits_in o) (look_is (state_of (next g t d)).jobs r b.job now b.uid) ∙ b.waits_yet

module _ (y : ℕ) (r : Ref) (k : Claimed) where
  -- For help_beside: what became of the Job so far.
  outcome_beside : (g : List Told) (t : Stamp) (d : Deed) → Beside k.owner g t y d → claim_of g r ≡ Some k
      → Outcome g y r k → Outcome (next g t d) y r k
  outcome_beside g t d q is (IsStarted e) = IsStarted (second_true (starts (state_of g) t d r) (started g r) e)
  outcome_beside g t d q is (IsOut e) = IsOut (subst (λ os. HasEnded (seen_of os)) (sym q.same) e)
  outcome_beside g t d q is (StillWaits w s) = StillWaits
      (waits_beside g t y d q r (claimed_own q.inv r k is refl) w)
      (subst (λ os. SinceOf k.owner k.time (seen_of os)) (sym q.same) s)

  help_beside : (g : List Told) (t : Stamp) (d : Deed) → Beside k.owner g t y d → Helps g y r k
      → Helps (next g t d) y r k
  help_beside g t d q b = record {
    claimed = claim_stays (claim_of g r) (claims (state_of g) d r) k b.claimed;
    outcome = outcome_beside g t d q b.claimed b.outcome;
  }

-- For helped: a sync that has come past what was claimed leaves nothing that waits.
none_waits : (g : List Told) (r : Ref) (k : Claimed) → claim_of g r ≡ Some k → IsWaiting g r → (at : At)
    → AtFact g at [] → at.cron.uid ≡ k.owner → Since k.owner k.time at → ⊥
none_waits g r k is w at a u s = by_place (a.known r k is (sym u) (s u))
  where
    not_settled : Settled g r → ⊥
    not_settled n =
        let b = waiting_is g r w in
        let m = n b.job b.stands b.uid in
        absurd (cc (b.waits_yet, m))

    by_place : IsIn r [] ⊎ (IsIn r at.alive ⊎ Dead g r) → ⊥
    by_place (inl n) = n
    by_place (inr (inl i)) = not_settled (a.settled r i)
    by_place (inr (inr d)) = not_settled (dead_settled g r d)

-- A sync that has come past what was claimed leaves nothing that waits, in any of its states.
looked_all : (g : List Told) (r : Ref) (k : Claimed) → claim_of g r ≡ Some k → IsWaiting g r → (s : Sync)
    → SyncFact k.owner g s → HasLooked k.owner s → SinceOf k.owner k.time s → ⊥
looked_all g r k is w (Ready at) a l s = none_waits g r k is w at (a.its l) l s
looked_all g r k is w (Holding at x) a l s = none_waits g r k is w at (a.its l) l s
looked_all g r k is w (Tidying at gs fs) a l s = none_waits g r k is w at (a.its l) l s
looked_all g r k is w s a l q = l

-- A sync that has ended has not come past what was claimed.
ended_not : (u : List ℕ) (s : Sync) → HasEnded s → HasLooked u s → ⊥
ended_not u Over e l = l
ended_not u s e l = e

-- Where a sync has come past what was claimed, it was started.
helped : (g : List Told) (y : ℕ) (r : Ref) (k : Claimed) → Inv k.owner g → claim_of g r ≡ Some k → Outcome g y r k
    → HasLooked k.owner (seen_of (own y g)) → started g r ≡ true
helped g y r k f is (IsStarted e) l = e
helped g y r k f is (IsOut e) l = absurd (ended_not k.owner (seen_of (own y g)) e l)
helped g y r k f is (StillWaits w s) l = absurd (looked_all g r k is w (seen_of (own y g)) (f.syncs y) l s)

-- A claimed Job that waits is started by the next sync that nobody disturbs.
pub help : HelpLaw
help h es y r k l a o none u is w looked =
    let fresh : SinceOf k.owner k.time (seen_of (own y h)) =
    subst (λ z. SinceOf k.owner k.time (seen_of z)) (sym none) tt in
    let base : Helps h y r k = record { claimed = is; outcome = StillWaits w fresh } in
    let b = run k.owner y h (λ g. Helps g y r k) base (help_step y r k) (help_beside y r k) es l a o u in
    helped (es ++ h) y r k (always k.owner (es ++ h) l a o) b.claimed b.outcome looked
