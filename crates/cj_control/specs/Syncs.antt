-- The syncs of one controller: which are under way, what each asked last, and what became of them.
use Rattle.std.specs.Prelude.{◌≡◌, ◌⊎◌, ℕ, ◌+◌, ◌-◌, ◌<◌, ◌≤◌, refl, ◌==◌, All, List, [], ◌∷◌, ◌++◌, reverse, Option, Some, None, if◌then◌else◌}
use Rattle.std.specs.Ordering.{nat_cmp}
use Rattle.std.specs.FinMap.{FinMap, code, empty, get, insert, len, remove}
use Rattle.std.specs.Coded.{Coded, code_by, coded×, coded_list, coded_ℕ}
use Rattle.cj_control.specs.contracts.rows.FencedSync.{the_row as fenced_sync}
use Rattle.cj_control.specs.contracts.deed.Deed.{the_row as deed}
use Rattle.cj_fence.specs.declared.call.Call.{Call}
use Rattle.cj_fence.specs.declared.call.Call.TheVariants as Of
use Rattle.cj_fence.specs.declared.answer.Answer.{Answer}
use Rattle.cj_fence.specs.declared.answer.Answer.TheVariants.{Lost}
use Rattle.cj_fence.specs.declared.sync.Sync.TheVariants.{Fresh}
use Rattle.cj_fence.specs.Protocol.{Own, May, Follows, advanced}
use Rattle.cj_control.specs.declared.deed.Deed.{Deed}
use Rattle.cj_control.specs.declared.calls.CronParts.{CronParts}
use Rattle.cj_control.specs.declared.deed.Deed.TheVariants.{Asks, Begins, Ends, Hears, Reads, Sends, Ticks}
use Rattle.cj_control.specs.declared.rows.FencedSync.{FencedSync}
use Rattle.cj_control.specs.declared.sent.Request.{Request}
use Rattle.cj_control.specs.Parts.{IsExactly}
use Rattle.cj_control.specs.SentFor.{IsOfNoSync, IsSentFor}

-- ---- the syncs under way

-- by their numbers
abbrev pub Rows : Type 0
Rows = FinMap nat_cmp FencedSync

-- with how many began, how many of them haven't ended, how many may be under way at a time, the
-- number of the next request, and what the clock said last
pub record Syncs : Type 0 where
  pub rows : Rows
  pub begun : ℕ
  pub live : ℕ
  pub workers : ℕ
  pub next : ℕ
  pub clock : ℕ

abbrev pub coded_syncs : Coded Syncs
coded_syncs =
    code_by (Rows × (ℕ × (ℕ × (ℕ × (ℕ × ℕ)))))
    (coded× (code coded_ℕ fenced_sync.coded)
    (coded× coded_ℕ (coded× coded_ℕ (coded× coded_ℕ (coded× coded_ℕ coded_ℕ)))))
    (λ s. (s.rows, (s.begun, (s.live, (s.workers, (s.next, s.clock))))))
    (λ p. record {
      rows = p.0;
      begun = (p.1).0;
      live = ((p.1).1).0;
      workers = (((p.1).1).1).0;
      next = ((((p.1).1).1).1).0;
      clock = ((((p.1).1).1).1).1;
    })
    (λ _. refl)

-- none began, nothing was sent, and no clock was heard
abbrev pub nothing : ℕ → Syncs
nothing workers =
    record { rows = empty; begun = 0; live = 0; workers = workers; next = 1; clock = 0 }

-- one of a CronJob that has asked nothing yet
abbrev pub fresh : List ℕ → FencedSync
fresh n = record { name = n; sync = Fresh; asked = None; id = None }

-- the greatest number that a sync or a request may have
abbrev pub greatest : ℕ
greatest = 18_446_744_073_709_551_615

-- ---- what may become of them

-- the next one may begin: there is a worker for it
pub record HasRoom (s : Syncs) : Type 0 where
  pub worker : s.live < s.workers
  pub number : s.begun < greatest

-- none under way is of that CronJob
-- rule: control-one-sync
pub record IsFree (n : List ℕ) (m : Rows) : Type 0 where
  pub none : (y : ℕ) (sync : FencedSync) → get m y ≡ Some sync → sync.name ≡ n → ⊥

-- the next one begins, where there is a worker for it and none of its CronJob is under way
-- rule: control-one-sync
pub record HasBegun (y : ℕ) (n : List ℕ) (s t : Syncs) : Type 0 where
  pub number : y ≡ s.begun
  pub room : s.live < s.workers
  pub free : IsFree n s.rows
  pub after : t
      ≡ record s { rows = insert s.rows y (fresh n); begun = s.begun + 1; live = s.live + 1 }

-- a call that names a CronJob names this one
-- rule: control-one-sync
abbrev pub IsOf : List ℕ → Call → Type 0
IsOf n (Of.GetCron m) = m ≡ n
IsOf n (Of.CacheCron m) = m ≡ n
IsOf n (Of.Claim w) = w.name ≡ n
IsOf n (Of.Tidy w) = w.name ≡ n
IsOf n call = Unit {0}

-- one waits for no answer, and the protocol lets it ask this, of its own CronJob
-- rules: control-follows, control-one-sync
pub record RowMayAsk (y : ℕ) (call : Call) (m : Rows) : Type 0 where
  pub sync : FencedSync
  pub is : get m y ≡ Some sync
  pub idle : sync.asked ≡ None
  pub may : May sync.sync call
  pub its : IsOf sync.name call

-- a claimed Job is deleted for its starting deadline at no moment past what the clock said last
-- rule: control-clock
abbrev pub IsTimely : ℕ → Call → Type 0
IsTimely clock (Of.Expire job version moment) = moment ≤ clock
IsTimely clock call = Unit {0}

-- one may ask this now
-- rules: control-follows, control-clock
pub record MayAsk (y : ℕ) (call : Call) (s : Syncs) : Type 0 where
  pub row : RowMayAsk y call s.rows
  pub timely : IsTimely s.clock call

-- it asks this, by the request of that number or of a cache
-- rule: control-follows
pub record RowAsks (y : ℕ) (call : Call) (id : Option ℕ) (m n : Rows) : Type 0 where
  pub sync : FencedSync
  pub is : get m y ≡ Some sync
  pub idle : sync.asked ≡ None
  pub may : May sync.sync call
  pub its : IsOf sync.name call
  pub after : n ≡ insert m y (record sync { asked = Some call; id = id })

-- one that asked hears an answer
-- rule: control-follows
pub record RowHears (y : ℕ) (a : Answer) (m n : Rows) : Type 0 where
  pub sync : FencedSync
  pub is : get m y ≡ Some sync
  pub call : Call
  pub asked : sync.asked ≡ Some call
  pub after : n
      ≡ insert m y (record sync { sync = advanced sync.sync call a; asked = None; id = None })

-- one ends, wherever it is
pub record RowEnds (y : ℕ) (m n : Rows) : Type 0 where
  pub sync : FencedSync
  pub is : get m y ≡ Some sync
  pub after : n ≡ remove m y

-- of a cache
pub record HasAsked (y : ℕ) (call : Call) (s t : Syncs) : Type 0 where
  pub row : RowAsks y call None s.rows t.rows
  pub timely : IsTimely s.clock call
  pub after : t ≡ record s { rows = t.rows }

-- by a request, which is the one of the call by these parts of a CronJob, under the next number
-- rules: control-requests, control-numbers
pub record HasSent (y id : ℕ) (parts : CronParts) (call : Call) (r : Request) (s t : Syncs)
    : Type 0 where
  pub number : id ≡ s.next
  pub row : RowAsks y call (Some id) s.rows t.rows
  pub timely : IsTimely s.clock call
  pub is : IsSentFor call r
  pub exact : IsExactly parts call r
  pub after : t ≡ record s { rows = t.rows; next = s.next + 1 }

-- a request of no sync, under the next number
-- rule: control-numbers
pub record HasRead (id : ℕ) (r : Request) (s t : Syncs) : Type 0 where
  pub number : id ≡ s.next
  pub is : IsOfNoSync r
  pub after : t ≡ record s { next = s.next + 1 }

pub record HasHeard (y : ℕ) (a : Answer) (s t : Syncs) : Type 0 where
  pub row : RowHears y a s.rows t.rows
  pub after : t ≡ record s { rows = t.rows }

pub record HasEnded (y : ℕ) (s t : Syncs) : Type 0 where
  pub row : RowEnds y s.rows t.rows
  pub after : t ≡ record s { rows = t.rows; live = s.live - 1 }

-- what a deed changes
-- rule: control-follows
abbrev pub Moves : Deed → Syncs → Syncs → Type 0
Moves (Begins y n) s t = HasBegun y n s t
Moves (Asks y call) s t = HasAsked y call s t
Moves (Sends y id parts call r) s t = HasSent y id parts call r s t
Moves (Reads id r) s t = HasRead id r s t
Moves (Hears y a) s t = HasHeard y a s t
Moves (Ends y) s t = HasEnded y s t
Moves (Ticks moment) s t = t ≡ record s { clock = moment }

-- one deed after the other, the newest first
-- rule: control-follows
abbrev pub Path : List Deed → Syncs → Syncs → Type 0
Path [] s t = t ≡ s
Path (d ∷ ds) s t = (r : Syncs) × Path ds s r × Moves d r t

-- ---- each sync's own calls

-- a call that was asked is answered
abbrev pub heard : Answer → List Own → List Own
heard a [] = []
heard a (o ∷ os) = record { call = o.call; answer = a } ∷ os

-- the calls of a sync with what it heard, the newest first; the answer to the last one is lost
-- until it is heard
-- rule: control-follows
abbrev pub own : ℕ → List Deed → List Own
own y [] = []
own y (Begins x n ∷ ds) = own y ds
own y (Asks x call ∷ ds) = if y == x then record { call = call; answer = Lost }
    ∷ own y ds else own y ds
own y (Sends x id parts call r ∷ ds) = if y == x then record { call = call; answer = Lost }
    ∷ own y ds else own y ds
own y (Reads id r ∷ ds) = own y ds
own y (Hears x a ∷ ds) = if y == x then heard a (own y ds) else own y ds
own y (Ends x ∷ ds) = own y ds
own y (Ticks moment ∷ ds) = own y ds

-- no two of them are of one CronJob
-- rule: control-one-sync
abbrev pub AreAlone : Rows → Type 0
AreAlone m = (y z : ℕ) (f g : FencedSync) → get m y ≡ Some f → get m z ≡ Some g
    → f.name ≡ g.name → y ≡ z

-- what the clock said last; 0 before the first time
abbrev pub clock_of : List Deed → ℕ
clock_of [] = 0
clock_of (Ticks moment ∷ ds) = moment
clock_of (d ∷ ds) = clock_of ds

-- no call is of a moment past what the clock had said by then
-- rule: control-clock
abbrev pub AreTimely : List Deed → Type 0
AreTimely [] = Unit {0}
AreTimely (Asks y call ∷ ds) = IsTimely (clock_of ds) call × AreTimely ds
AreTimely (Sends y id parts call r ∷ ds) = IsTimely (clock_of ds) call × AreTimely ds
AreTimely (d ∷ ds) = AreTimely ds

-- each sync follows the protocol; those under way are of different CronJobs, each asks of its own,
-- and no more than that number are under way; and the clock is kept to
-- rules: control-follows, control-one-sync, control-workers, control-clock
pub record AreKept (workers : ℕ) (ds : List Deed) (s : Syncs) : Type 0 where
  pub follows : (y : ℕ) → Follows (own y ds)
  pub timely : AreTimely ds
  pub alone : AreAlone s.rows
  pub its : (y : ℕ) (sync : FencedSync) → get s.rows y ≡ Some sync
      → All (λ o. IsOf sync.name o.call) (own y ds)
  pub few : len s.rows ≤ workers

-- whatever the syncs hear
-- rule: control-follows
abbrev pub FollowLaw : Type 0
FollowLaw = (workers : ℕ) (ds : List Deed) (s : Syncs) → Path ds (nothing workers) s
    → AreKept workers ds s

-- ---- the ledger

-- the syncs under way, and the deeds since they were taken last, the oldest first
pub record LedgerView : Type 0 where
  pub syncs : Syncs
  pub deeds : List Deed

abbrev pub coded_ledger : Coded LedgerView
coded_ledger =
    code_by (Syncs × List Deed) (coded× coded_syncs (coded_list deed.coded))
    (λ l. (l.syncs, l.deeds)) (λ p. record { syncs = p.0; deeds = p.1 }) (λ _. refl)

abbrev pub IsNew : ℕ → LedgerView → Type 0
IsNew workers l = l ≡ record { syncs = nothing workers; deeds = [] }

-- with one deed more
pub record Adds (d : Deed) (l m : LedgerView) : Type 0 where
  pub moves : Moves d l.syncs m.syncs
  pub noted : m.deeds ≡ l.deeds ++ d ∷ []

-- where memory is wanting, nothing changed, or the sync was given up and ended
abbrev pub GaveUp : ℕ → LedgerView → LedgerView → Type 0
GaveUp y l m = (m ≡ l) ⊎ Adds (Ends y) l m

-- it waits for the answer to a request of that number, or of a cache
pub record Waits (y : ℕ) (id : Option ℕ) (m : Rows) : Type 0 where
  pub sync : FencedSync
  pub is : get m y ≡ Some sync
  pub call : Call
  pub asked : sync.asked ≡ Some call
  pub by : sync.id ≡ id

-- what it waits for the answer to
pub record IsAsked (y : ℕ) (call : Call) (m : Rows) : Type 0 where
  pub sync : FencedSync
  pub is : get m y ≡ Some sync
  pub asked : sync.asked ≡ Some call

-- ---- from the start on

-- all that became of the syncs is one path of deeds, and the ledger has the last of them
-- rule: control-follows
pub record IsKept (l : LedgerView) : Type 0 where
  pub all : List Deed
  pub path : Path all (nothing l.syncs.workers) l.syncs
  pub before : List Deed
  pub last : reverse all ≡ before ++ l.deeds
