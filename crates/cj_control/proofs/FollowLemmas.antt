-- Each sync follows the protocol: an invariant of the syncs under way, and of what became of them.
use Rattle.std.proofs.Common.{◌≡◌, ℕ, ◌+◌, ◌-◌, ◌<◌, ◌≤◌, Bool, true, false, cond, List, [], ◌∷◌, refl, sym, ap, subst, ◌∙◌, arith}
use Rattle.std.specs.Prelude.{Option, Some, None, is_some, ◌==◌, if◌then◌else◌}
use Rattle.std.specs.Ordering.{nat_cmp, eq_by_cmp}
use Rattle.std.specs.Cmp.{nat_cmp_total}
use Rattle.std.specs.FinMap as map
use Rattle.std.proofs.lemmas.Bool.Decides.{nat_tests}
use Rattle.cj_fence.specs.declared.call.Call.{Call}
use Rattle.cj_fence.specs.declared.answer.Answer.{Answer}
use Rattle.cj_fence.specs.declared.answer.Answer.TheVariants.{Lost}
use Rattle.cj_fence.specs.declared.sync.Sync.{Sync}
use Rattle.cj_fence.specs.Protocol.{Own, May, Follows, seen_of, advanced}
use Rattle.cj_control.specs.declared.calls.CronParts.{CronParts}
use Rattle.cj_control.specs.declared.deed.Deed.{Deed}
use Rattle.cj_control.specs.declared.deed.Deed.TheVariants.{Asks, Begins, Ends, Hears, Reads, Sends, Ticks}
use Rattle.cj_control.specs.declared.rows.FencedSync.{FencedSync}
use Rattle.cj_control.specs.declared.sent.Request.{Request}
use Rattle.cj_control.specs.Syncs.{Rows, Syncs, nothing, fresh, HasBegun, HasAsked, HasSent, HasRead, HasHeard, HasEnded, RowAsks, Moves, Path, AreTimely, IsTimely, clock_of, heard, own}

-- Two numbers are equal by the order's test just where they are by the test of numbers.
same_number : (q k : ℕ) → eq_by_cmp nat_cmp q k ≡ (q == k)
same_number q k = grind (arith, nat_tests)

-- Numbers that the test takes for equal are equal.
pub number_is : (q k : ℕ) → (q == k) ≡ true → q ≡ k
number_is q k e = grind (arith, nat_tests)

-- a call whose answer isn't heard yet
abbrev pub unheard : Call → Own
unheard call = record { call = call; answer = Lost }

-- what a sync did, and what is kept of it: it followed the protocol, and the sync is what it has
-- seen, but for the call that it waits for
abbrev pub FitsAt : Option Call → Sync → List Own → Type 0
FitsAt None sync os = Follows os × (seen_of os ≡ sync)
FitsAt (Some call) sync os = Follows os × ((ps : List Own) × (os ≡ unheard call ∷ ps) × (seen_of ps ≡ sync))

abbrev pub Fits : Option FencedSync → List Own → Type 0
Fits None os = Follows os
Fits (Some f) os = FitsAt f.asked f.sync os

-- Whatever is kept of a sync, it followed the protocol.
pub follows : (o : Option FencedSync) (os : List Own) → Fits o os → Follows os
follows None os f = f
follows (Some f) os x = by f.asked x
  where
    by : (asked : Option Call) → FitsAt asked f.sync os → Follows os
    by None x = x.0
    by (Some call) x = x.0

-- the one invariant of what each sync did: it fits, and those that haven't begun did nothing
pub record Inv (o : ℕ → List Own) (s : Syncs) : Type 0 where
  pub each : (y : ℕ) → Fits (map.get s.rows y) (o y)
  pub none : (y : ℕ) → s.begun ≤ y → o y ≡ []
  pub absent : (y : ℕ) → s.begun ≤ y → map.get s.rows y ≡ None
  pub count : map.len s.rows ≡ s.live
  pub few : s.live ≤ s.workers

-- ---- the rows after a change of one

module _ (m : map.FinMap nat_cmp FencedSync) (k : ℕ) (v : FencedSync) where
  -- After a put its key has what was put, and each other one what it had.
  pub put_at : (q : ℕ) → map.get (map.insert m k v) q ≡ cond (q == k) (Some v) (map.get m q)
  put_at q = map.get-insert nat_cmp_total m k v q ∙ ap (λ b. cond b (Some v) (map.get m q)) (same_number q k)

-- After a removal its key has nothing, and each other one what it had.
pub removed_at : (m : map.FinMap nat_cmp FencedSync) (k q : ℕ)
    → map.get (map.remove m k) q ≡ cond (q == k) None (map.get m q)
removed_at m k q = map.get-remove nat_cmp_total m k q ∙ ap (λ b. cond b None (map.get m q)) (same_number q k)

-- A key that is new counts.
put_new : (m : map.FinMap nat_cmp FencedSync) (k : ℕ) (v : FencedSync) → map.get m k ≡ None
    → map.len (map.insert m k v) ≡ map.len m + 1
put_new m k v e = map.len-insert nat_cmp_total m k v
    ∙ ap (λ (o : Option FencedSync). cond (is_some o) (map.len m) (map.len m + 1)) e

-- A key that is there doesn't count anew.
put_old : (m : map.FinMap nat_cmp FencedSync) (k : ℕ) (v was : FencedSync) → map.get m k ≡ Some was
    → map.len (map.insert m k v) ≡ map.len m
put_old m k v was e = map.len-insert nat_cmp_total m k v
    ∙ ap (λ (o : Option FencedSync). cond (is_some o) (map.len m) (map.len m + 1)) e

-- A key that is removed counts no more.
cut_old : (m : map.FinMap nat_cmp FencedSync) (k : ℕ) (was : FencedSync) → map.get m k ≡ Some was
    → map.len (map.remove m k) ≡ map.len m - 1
cut_old m k was e = map.len-remove nat_cmp_total m k
    ∙ ap (λ (o : Option FencedSync). cond (is_some o) (map.len m - 1) (map.len m)) e

-- ---- each deed keeps it

-- how many began, are under way and may be
pub record SameCounts (s t : Syncs) : Type 0 where
  pub begun : t.begun ≡ s.begun
  pub live : t.live ≡ s.live
  pub workers : t.workers ≡ s.workers

-- what a sync did, with a call more that isn't answered
abbrev pub asking : ℕ → Call → (ℕ → List Own) → ℕ → List Own
asking y call o q = if q == y then unheard call ∷ o q else o q

-- and with the answer to its last call
abbrev pub hearing : ℕ → Answer → (ℕ → List Own) → ℕ → List Own
hearing y a o q = if q == y then heard a (o q) else o q

module _ (o : ℕ → List Own) (s t : Syncs) (i : Inv o s) where
  -- A sync that begins did nothing before.
  begun_kept : (y : ℕ) (n : List ℕ) → HasBegun y n s t → Inv o t
  begun_kept y n b = record {
    each = λ q. subst (λ (x : Option FencedSync). Fits x (o q))
        (sym (rows q)) (by q (q == y) refl);
    none = λ q le. i.none q (past q le);
    absent = λ q le. rows q ∙ other q (q == y) refl le;
    count = counted;
    few = let e : t.live ≡ s.live + 1 = ap (λ (x : Syncs). x.live) b.after in
        let f : t.workers ≡ s.workers = ap (λ (x : Syncs). x.workers) b.after in
        let r : s.live < s.workers = b.room in omega (arith, e, f, r);
  }
    where
      counted : map.len t.rows ≡ t.live
      counted = ap (λ (x : Syncs). map.len x.rows) b.after
          ∙ put_new s.rows y (fresh n) (ap (map.get s.rows) b.number ∙ i.absent s.begun (omega arith))
          ∙ ap (λ n. n + 1) i.count ∙ sym (ap (λ (x : Syncs). x.live) b.after)

      rows : (q : ℕ) → map.get t.rows q ≡ cond (q == y) (Some (fresh n)) (map.get s.rows q)
      rows q = ap (λ (x : Syncs). map.get x.rows q) b.after ∙ put_at s.rows y (fresh n) q

      count : t.begun ≡ s.begun + 1
      count = ap (λ (x : Syncs). x.begun) b.after

      past : (q : ℕ) → t.begun ≤ q → s.begun ≤ q
      past q le = let e : t.begun ≡ s.begun + 1 = count in omega (arith, le, e)

      by : (q : ℕ) (c : Bool) → (q == y) ≡ c → Fits (cond c (Some (fresh n)) (map.get s.rows q)) (o q)
      by q true e =
          let same : q ≡ s.begun = number_is q y e ∙ b.number in
          let le : s.begun ≤ q = omega (arith, same) in
          subst (λ (os : List Own). FitsAt None (fresh n).sync os) (sym (i.none q le)) (tt, refl)
      by q false e = i.each q

      other : (q : ℕ) (c : Bool) → (q == y) ≡ c → t.begun ≤ q
          → cond c (Some (fresh n)) (map.get s.rows q) ≡ None
      other q true e le =
          let same : q ≡ s.begun = number_is q y e ∙ b.number in
          let more : t.begun ≡ s.begun + 1 = count in
          absurd (omega (arith, le, same, more))
      other q false e le = i.absent q (past q le)

  -- A sync that is under way has begun.
  has_begun : (y q : ℕ) (f : FencedSync) → map.get s.rows y ≡ Some f → s.begun ≤ q → (q == y) ≡ false
  has_begun y q f is le = by (q == y) refl
    where
      by : (c : Bool) → (q == y) ≡ c → (q == y) ≡ false
      by true e =
          absurd (cc (sym is ∙ ap (map.get s.rows) (sym (number_is q y e)) ∙ i.absent q le))
      by false e = e

  -- What a sync asks it may ask.
  asked_kept : (y : ℕ) (call : Call) (id : Option ℕ) → RowAsks y call id s.rows t.rows
      → SameCounts s t → Inv (asking y call o) t
  asked_kept y call id row same = record {
    each = λ q. subst (λ (x : Option FencedSync). Fits x (asking y call o q))
        (sym (rows q)) (by q (q == y) refl);
    none = λ q le. ap (λ c. if c then unheard call ∷ o q else o q)
        (has_begun y q row.sync row.is (same_count q le)) ∙ i.none q (same_count q le);
    absent = λ q le. rows q
        ∙ ap (λ c. cond c (Some now) (map.get s.rows q)) (has_begun y q row.sync row.is (same_count q le))
        ∙ i.absent q (same_count q le);
    count = ap (λ (x : Rows). map.len x) row.after ∙ put_old s.rows y now row.sync row.is
        ∙ i.count ∙ sym (same.live);
    few = same_few;
  }
    where
      same_few : t.live ≤ t.workers
      same_few = let e : t.live ≡ s.live = same.live in
          let f : t.workers ≡ s.workers = same.workers in
          let r : s.live ≤ s.workers = i.few in omega (arith, e, f, r)

      now : FencedSync
      now = record row.sync { asked = Some call; id = id }

      rows : (q : ℕ) → map.get t.rows q ≡ cond (q == y) (Some now) (map.get s.rows q)
      rows q = ap (λ (x : Rows). map.get x q) row.after ∙ put_at s.rows y now q

      same_count : (q : ℕ) → t.begun ≤ q → s.begun ≤ q
      same_count q le = let e : t.begun ≡ s.begun = same.begun in omega (arith, le, e)

      was : Follows (o y) × (seen_of (o y) ≡ row.sync.sync)
      was = subst (λ (x : Option Call). FitsAt x row.sync.sync (o y)) row.idle
          (subst (λ (x : Option FencedSync). Fits x (o y)) row.is (i.each y))

      more : FitsAt (Some call) row.sync.sync (unheard call ∷ o y)
      more = ((subst (λ (x : Sync). May x call) (sym was.1) row.may, was.0), (o y, refl, was.1))

      by : (q : ℕ) (c : Bool) → (q == y) ≡ c
          → Fits (cond c (Some now) (map.get s.rows q)) (if c then unheard call ∷ o q else o q)
      by q true e = subst (λ (z : ℕ). FitsAt (Some call) row.sync.sync (unheard call ∷ o z))
          (sym (number_is q y e)) more
      by q false e = i.each q

  -- What a sync hears is what the protocol goes by.
  heard_kept : (y : ℕ) (answer : Answer) → HasHeard y answer s t → Inv (hearing y answer o) t
  heard_kept y answer a = record {
    each = λ q. subst (λ (x : Option FencedSync). Fits x (hearing y answer o q))
        (sym (rows q)) (by q (q == y) refl);
    none = λ q le. ap (λ c. if c then heard answer (o q) else o q)
        (has_begun y q a.row.sync a.row.is (same_count q le)) ∙ i.none q (same_count q le);
    absent = λ q le. rows q
        ∙ ap (λ c. cond c (Some now) (map.get s.rows q)) (has_begun y q a.row.sync a.row.is (same_count q le))
        ∙ i.absent q (same_count q le);
    count = ap (λ (x : Rows). map.len x) a.row.after ∙ put_old s.rows y now a.row.sync a.row.is
        ∙ i.count ∙ sym (ap (λ (x : Syncs). x.live) a.after);
    few = same_few;
  }
    where
      same_few : t.live ≤ t.workers
      same_few = let e : t.live ≡ s.live = ap (λ (x : Syncs). x.live) a.after in
          let f : t.workers ≡ s.workers = ap (λ (x : Syncs). x.workers) a.after in
          let r : s.live ≤ s.workers = i.few in omega (arith, e, f, r)

      now : FencedSync
      now = record a.row.sync { sync = advanced a.row.sync.sync a.row.call answer; asked = None; id = None }

      rows : (q : ℕ) → map.get t.rows q ≡ cond (q == y) (Some now) (map.get s.rows q)
      rows q = ap (λ (x : Rows). map.get x q) a.row.after ∙ put_at s.rows y now q

      same_count : (q : ℕ) → t.begun ≤ q → s.begun ≤ q
      same_count q le = let e : t.begun ≡ s.begun = ap (λ (x : Syncs). x.begun) a.after in omega (arith, le, e)

      was : FitsAt (Some a.row.call) a.row.sync.sync (o y)
      was = subst (λ (x : Option Call). FitsAt x a.row.sync.sync (o y)) a.row.asked
          (subst (λ (x : Option FencedSync). Fits x (o y)) a.row.is (i.each y))

      by_own : (os : List Own) → FitsAt (Some a.row.call) a.row.sync.sync os
          → FitsAt None (advanced a.row.sync.sync a.row.call answer) (heard answer os)
      by_own [] x = absurd (cc x.1.1)
      by_own (o ∷ os) x = ((x.0.0, x.0.1), more o os x.1.0 x.1.1 x.1.2)
        where
          more : (o : Own) (os ps : List Own) → o ∷ os ≡ unheard a.row.call ∷ ps → seen_of ps ≡ a.row.sync.sync
              → advanced (seen_of os) o.call answer ≡ advanced a.row.sync.sync a.row.call answer
          more o os ps e f = cc

      by : (q : ℕ) (c : Bool) → (q == y) ≡ c
          → Fits (cond c (Some now) (map.get s.rows q)) (if c then heard answer (o q) else o q)
      by q true e = subst
          (λ (z : ℕ). FitsAt None (advanced a.row.sync.sync a.row.call answer) (heard answer (o z)))
          (sym (number_is q y e)) (by_own (o y) was)
      by q false e = i.each q

  -- What ended has followed the protocol.
  ended_kept : (y : ℕ) → HasEnded y s t → Inv o t
  ended_kept y a = record {
    each = λ q. subst (λ (x : Option FencedSync). Fits x (o q)) (sym (rows q)) (by q (q == y) refl);
    none = λ q le. i.none q (same_count q le);
    absent = λ q le. rows q ∙ other q (q == y) refl le;
    count = ap (λ (x : Rows). map.len x) a.row.after ∙ cut_old s.rows y a.row.sync a.row.is
        ∙ ap (λ n. n - 1) i.count ∙ sym (ap (λ (x : Syncs). x.live) a.after);
    few = let e : t.live ≡ s.live - 1 = ap (λ (x : Syncs). x.live) a.after in
        let f : t.workers ≡ s.workers = ap (λ (x : Syncs). x.workers) a.after in
        let r : s.live ≤ s.workers = i.few in omega (arith, e, f, r);
  }
    where
      rows : (q : ℕ) → map.get t.rows q ≡ cond (q == y) None (map.get s.rows q)
      rows q = ap (λ (x : Rows). map.get x q) a.row.after ∙ removed_at s.rows y q

      same_count : (q : ℕ) → t.begun ≤ q → s.begun ≤ q
      same_count q le = let e : t.begun ≡ s.begun = ap (λ (x : Syncs). x.begun) a.after in omega (arith, le, e)

      by : (q : ℕ) (c : Bool) → (q == y) ≡ c → Fits (cond c None (map.get s.rows q)) (o q)
      by q true e = follows (map.get s.rows q) (o q) (i.each q)
      by q false e = i.each q

      other : (q : ℕ) (c : Bool) → (q == y) ≡ c → t.begun ≤ q → cond c None (map.get s.rows q) ≡ None
      other q true e le = refl
      other q false e le = i.absent q (same_count q le)

  -- A request of no sync changes no sync.
  read_kept : (id : ℕ) (r : Request) → HasRead id r s t → Inv o t
  read_kept id r a = record {
    each = λ q. subst (λ (x : Rows). Fits (map.get x q) (o q)) (sym rows) (i.each q);
    none = λ q le. i.none q (past q le);
    absent = λ q le. ap (λ (x : Rows). map.get x q) rows ∙ i.absent q (past q le);
    count = ap (λ (x : Rows). map.len x) rows ∙ i.count ∙ sym (ap (λ (x : Syncs). x.live) a.after);
    few = let e : t.live ≡ s.live = ap (λ (x : Syncs). x.live) a.after in
        let f : t.workers ≡ s.workers = ap (λ (x : Syncs). x.workers) a.after in
        let r : s.live ≤ s.workers = i.few in omega (arith, e, f, r);
  }
    where
      rows : t.rows ≡ s.rows
      rows = ap (λ (x : Syncs). x.rows) a.after

      past : (q : ℕ) → t.begun ≤ q → s.begun ≤ q
      past q le = let e : t.begun ≡ s.begun = ap (λ (x : Syncs). x.begun) a.after in omega (arith, le, e)

  -- Nor does the clock.
  ticked_kept : (moment : ℕ) → t ≡ record s { clock = moment } → Inv o t
  ticked_kept moment a = record {
    each = λ q. subst (λ (x : Rows). Fits (map.get x q) (o q)) (sym rows) (i.each q);
    none = λ q le. i.none q (past q le);
    absent = λ q le. ap (λ (x : Rows). map.get x q) rows ∙ i.absent q (past q le);
    count = ap (λ (x : Rows). map.len x) rows ∙ i.count ∙ sym (ap (λ (x : Syncs). x.live) a);
    few = let e : t.live ≡ s.live = ap (λ (x : Syncs). x.live) a in
        let f : t.workers ≡ s.workers = ap (λ (x : Syncs). x.workers) a in
        let r : s.live ≤ s.workers = i.few in omega (arith, e, f, r);
  }
    where
      rows : t.rows ≡ s.rows
      rows = ap (λ (x : Syncs). x.rows) a

      past : (q : ℕ) → t.begun ≤ q → s.begun ≤ q
      past q le = let e : t.begun ≡ s.begun = ap (λ (x : Syncs). x.begun) a in omega (arith, le, e)

-- What a deed leaves as it was.
counts_asked : (y : ℕ) (call : Call) (s t : Syncs) → HasAsked y call s t → SameCounts s t
counts_asked y call s t a = record {
  begun = ap (λ (x : Syncs). x.begun) a.after;
  live = ap (λ (x : Syncs). x.live) a.after;
  workers = ap (λ (x : Syncs). x.workers) a.after;
}

-- The same of a request.
counts_sent : (y id : ℕ) (parts : CronParts) (call : Call) (r : Request) (s t : Syncs)
    → HasSent y id parts call r s t → SameCounts s t
counts_sent y id parts call r s t a = record {
  begun = ap (λ (x : Syncs). x.begun) a.after;
  live = ap (λ (x : Syncs). x.live) a.after;
  workers = ap (λ (x : Syncs). x.workers) a.after;
}

-- Each deed keeps the invariant.
kept : (ds : List Deed) (s t : Syncs) → Inv (λ q. own q ds) s → (d : Deed) → Moves d s t
    → Inv (λ q. own q (d ∷ ds)) t
kept ds s t i (Begins y n) m = begun_kept (λ q. own q ds) s t i y n m
kept ds s t i (Asks y call) m =
    asked_kept (λ q. own q ds) s t i y call None m.row (counts_asked y call s t m)
kept ds s t i (Sends y id parts call r) m =
    asked_kept (λ q. own q ds) s t i y call (Some id) m.row (counts_sent y id parts call r s t m)
kept ds s t i (Reads id r) m = read_kept (λ q. own q ds) s t i id r m
kept ds s t i (Hears y a) m = heard_kept (λ q. own q ds) s t i y a m
kept ds s t i (Ends y) m = ended_kept (λ q. own q ds) s t i y m
kept ds s t i (Ticks moment) m = ticked_kept (λ q. own q ds) s t i moment m

-- Where nothing began, nobody did anything.
at_start : (workers : ℕ) → Inv (λ q. own q []) (nothing workers)
at_start workers = record {
  each = λ q. subst (λ (o : Option FencedSync). Fits o []) (sym (map.get-empty nat_cmp q)) tt;
  none = λ q le. refl;
  absent = λ q le. map.get-empty nat_cmp q;
  count = map.len-empty nat_cmp FencedSync;
  few = omega arith;
}

-- After all deeds the invariant holds.
pub always : (workers : ℕ) (ds : List Deed) (s : Syncs) → Path ds (nothing workers) s → Inv (λ q. own q ds) s
always workers [] s p = subst (Inv (λ q. own q [])) (sym p) (at_start workers)
always workers (d ∷ ds) s p = kept ds p.0 s (always workers ds p.0 p.1) d p.2

-- A deed changes nothing of how many may be under way.
pub same_workers : (d : Deed) (s t : Syncs) → Moves d s t → t.workers ≡ s.workers
same_workers (Begins y n) s t m = ap (λ (x : Syncs). x.workers) m.after
same_workers (Asks y call) s t m = ap (λ (x : Syncs). x.workers) m.after
same_workers (Sends y id parts call r) s t m = ap (λ (x : Syncs). x.workers) m.after
same_workers (Reads id r) s t m = ap (λ (x : Syncs). x.workers) m.after
same_workers (Hears y a) s t m = ap (λ (x : Syncs). x.workers) m.after
same_workers (Ends y) s t m = ap (λ (x : Syncs). x.workers) m.after
same_workers (Ticks moment) s t m = ap (λ (x : Syncs). x.workers) m

-- So after all deeds as many may be under way as at the start.
pub workers_are : (workers : ℕ) (ds : List Deed) (s : Syncs) → Path ds (nothing workers) s → s.workers ≡ workers
workers_are workers [] s p = ap (λ (x : Syncs). x.workers) p
workers_are workers (d ∷ ds) s p = same_workers d p.0 s p.2 ∙ workers_are workers ds p.0 p.1

-- ---- the clock

-- After a deed the clock is at what was said last.
clock_after : (ds : List Deed) (s t : Syncs) → s.clock ≡ clock_of ds → (d : Deed) → Moves d s t
    → t.clock ≡ clock_of (d ∷ ds)
clock_after ds s t e (Begins y n) m = ap (λ (x : Syncs). x.clock) m.after ∙ e
clock_after ds s t e (Asks y call) m = ap (λ (x : Syncs). x.clock) m.after ∙ e
clock_after ds s t e (Sends y id parts call r) m = ap (λ (x : Syncs). x.clock) m.after ∙ e
clock_after ds s t e (Reads id r) m = ap (λ (x : Syncs). x.clock) m.after ∙ e
clock_after ds s t e (Hears y a) m = ap (λ (x : Syncs). x.clock) m.after ∙ e
clock_after ds s t e (Ends y) m = ap (λ (x : Syncs). x.clock) m.after ∙ e
clock_after ds s t e (Ticks moment) m = ap (λ (x : Syncs). x.clock) m

-- So after all deeds it is there.
clock_is : (workers : ℕ) (ds : List Deed) (s : Syncs) → Path ds (nothing workers) s → s.clock ≡ clock_of ds
clock_is workers [] s p = ap (λ (x : Syncs). x.clock) p
clock_is workers (d ∷ ds) s p = clock_after ds p.0 s (clock_is workers ds p.0 p.1) d p.2

-- What is asked is of no moment past it.
pub always_timely : (workers : ℕ) (ds : List Deed) (s : Syncs) → Path ds (nothing workers) s → AreTimely ds
always_timely workers [] s p = tt
always_timely workers (d ∷ ds) s p =
    more d p.2 (clock_is workers ds p.0 p.1) (always_timely workers ds p.0 p.1)
  where
    more : (d : Deed) → Moves d p.0 s → p.0.clock ≡ clock_of ds → AreTimely ds → AreTimely (d ∷ ds)
    more (Begins y n) m e a = a
    more (Asks y call) m e a = (subst (λ (c : ℕ). IsTimely c call) e m.timely, a)
    more (Sends y id parts call r) m e a = (subst (λ (c : ℕ). IsTimely c call) e m.timely, a)
    more (Reads id r) m e a = a
    more (Hears y a) m e b = b
    more (Ends y) m e a = a
    more (Ticks moment) m e a = a
