-- No CronJob has two syncs under way, and each asks of its own: an invariant of the syncs under way.
use Rattle.std.proofs.Common.{◌≡◌, ℕ, Bool, true, false, cond, List, [], ◌∷◌, refl, sym, ap, subst, ◌∙◌, arith}
use Rattle.std.specs.Prelude.{Option, Some, None, All, ◌==◌, ◌≤◌, if◌then◌else◌}
use Rattle.std.specs.Ordering.{nat_cmp}
use Rattle.std.specs.FinMap as map
use Rattle.std.proofs.lemmas.List.Elements.{All-cons, All-head, All-nil, All-tail}
use Rattle.cj_fence.specs.declared.call.Call.{Call}
use Rattle.cj_fence.specs.declared.answer.Answer.{Answer}
use Rattle.cj_fence.specs.Protocol.{Own, advanced}
use Rattle.cj_control.specs.declared.deed.Deed.{Deed}
use Rattle.cj_control.specs.declared.deed.Deed.TheVariants.{Asks, Begins, Ends, Hears, Reads, Sends, Ticks}
use Rattle.cj_control.specs.declared.rows.FencedSync.{FencedSync}
use Rattle.cj_control.specs.Syncs.{Rows, Syncs, nothing, fresh, AreAlone, IsOf, HasBegun, RowAsks, RowEnds, RowHears, Moves, Path, heard, own, FollowLaw}
use Rattle.cj_control.proofs.FollowLemmas.{number_is, unheard, asking, hearing, put_at, removed_at, follows, always, always_timely, workers_are}

-- a call that a sync of this CronJob may ask
abbrev IsIts : List ℕ → Own → Type 0
IsIts n o = IsOf n o.call

-- what each asked is of its own CronJob
abbrev AreIts : (ℕ → List Own) → Rows → Type 0
AreIts o m = (y : ℕ) (f : FencedSync) → map.get m y ≡ Some f → All (IsIts f.name) (o y)

-- the one invariant of names
record Named (o : ℕ → List Own) (m : Rows) : Type 0 where
  pub alone : AreAlone m
  pub its : AreIts o m

-- a sync that was there under the number, of the same CronJob
record Was (m : Rows) (y : ℕ) (f : FencedSync) : Type 0 where
  pub sync : FencedSync
  pub is : map.get m y ≡ Some sync
  pub name : sync.name ≡ f.name

-- nothing began, and no name changed
abbrev Keeps : Rows → Rows → Type 0
Keeps m n = (y : ℕ) (f : FencedSync) → map.get n y ≡ Some f → Was m y f

-- Where nothing began, those under way are as different as before.
alone_kept : (m n : Rows) → Keeps m n → AreAlone m → AreAlone n
alone_kept m n k a y z f g is has e =
    a y z (k y f is).sync (k z g has).sync (k y f is).is (k z g has).is
    ((k y f is).name ∙ e ∙ sym (k z g has).name)

-- What is found by a name is found by the other.
some_is : (f g : FencedSync) → (o : Option FencedSync) → o ≡ Some f → o ≡ Some g → f ≡ g
some_is f g o e h = cc

-- A put in place of what was there, of the same CronJob, begins nothing.
put_keeps : (m n : Rows) (y : ℕ) (was now : FencedSync) → map.get m y ≡ Some was → now.name ≡ was.name
    → n ≡ map.insert m y now → Keeps m n
put_keeps m n y was now is name after q f has = by (q == y) refl
  where
    found : map.get n q ≡ cond (q == y) (Some now) (map.get m q)
    found = ap (λ (x : Rows). map.get x q) after ∙ put_at m y now q

    by : (c : Bool) → (q == y) ≡ c → Was m q f
    by true e = record {
      sync = was;
      is = ap (map.get m) (number_is q y e) ∙ is;
      name = sym name ∙ ap (λ (x : FencedSync). x.name)
          (some_is now f (map.get n q) (found ∙ ap (λ c. cond c (Some now) (map.get m q)) e) has);
    }
    by false e = record {
      sync = f;
      is = sym (found ∙ ap (λ c. cond c (Some now) (map.get m q)) e) ∙ has;
      name = refl;
    }

-- A removal begins nothing.
cut_keeps : (m n : Rows) (y : ℕ) → n ≡ map.remove m y → Keeps m n
cut_keeps m n y after q f has = by (q == y) refl
  where
    found : map.get n q ≡ cond (q == y) None (map.get m q)
    found = ap (λ (x : Rows). map.get x q) after ∙ removed_at m y q

    by : (c : Bool) → (q == y) ≡ c → Was m q f
    by true e = absurd (cc (sym has ∙ found ∙ ap (λ c. cond c None (map.get m q)) e))
    by false e = record {
      sync = f;
      is = sym (found ∙ ap (λ c. cond c None (map.get m q)) e) ∙ has;
      name = refl;
    }

-- ---- each deed keeps it

module _ (o : ℕ → List Own) (m n : Rows) (i : Named o m) where
  -- What a sync asks is of its own CronJob.
  asked_named : (y : ℕ) (call : Call) (id : Option ℕ) → RowAsks y call id m n
      → Named (asking y call o) n
  asked_named y call id row = record { alone = alone_kept m n keeps i.alone; its = its }
    where
      keeps : Keeps m n
      keeps = put_keeps m n y row.sync (record row.sync { asked = Some call; id = id }) row.is refl row.after

      by : (q : ℕ) (g : FencedSync) → map.get m q ≡ Some g → (c : Bool) → (q == y) ≡ c
          → All (IsIts g.name) (if c then unheard call ∷ o q else o q)
      by q g is true e = All-cons (IsIts g.name) (unheard call) (o q)
          (subst (λ (x : FencedSync). IsOf x.name call)
          (some_is row.sync g (map.get m q) (ap (map.get m) (number_is q y e) ∙ row.is) is) row.its)
          (i.its q g is)
      by q g is false e = i.its q g is

      its : AreIts (asking y call o) n
      its q f has = subst (λ (x : List ℕ). All (IsIts x) (asking y call o q)) (keeps q f has).name
          (by q (keeps q f has).sync (keeps q f has).is (q == y) refl)

  -- An answer changes no call.
  heard_named : (y : ℕ) (answer : Answer) → RowHears y answer m n → Named (hearing y answer o) n
  heard_named y answer row = record { alone = alone_kept m n keeps i.alone; its = its }
    where
      now : FencedSync
      now = record row.sync {
        sync = advanced row.sync.sync row.call answer;
        asked = None;
        id = None;
      }

      keeps : Keeps m n
      keeps = put_keeps m n y row.sync now row.is refl row.after

      same : (p : Own → Type 0) → ((a b : Own) → a.call ≡ b.call → p a → p b) → (os : List Own)
          → All p os → All p (heard answer os)
      same p q [] a = All-nil p
      same p q (x ∷ xs) a =
          All-cons p (record { call = x.call; answer = answer }) xs (q x _ refl (All-head p x xs a))
          (All-tail p x xs a)

      by : (q : ℕ) (x : List ℕ) (c : Bool) → All (IsIts x) (o q)
          → All (IsIts x) (if c then heard answer (o q) else o q)
      by q x true a = same (IsIts x) (λ u v e p. subst (IsOf x) e p) (o q) a
      by q x false a = a

      its : AreIts (hearing y answer o) n
      its q f has = subst (λ (x : List ℕ). All (IsIts x) (hearing y answer o q)) (keeps q f has).name
          (by q (keeps q f has).sync.name (q == y) (i.its q (keeps q f has).sync (keeps q f has).is))

  -- What only leaves keeps the names.
  kept_named : Keeps m n → Named o n
  kept_named keeps = record {
    alone = alone_kept m n keeps i.alone;
    its = λ q f has. subst (λ (x : List ℕ). All (IsIts x) (o q)) (keeps q f has).name
        (i.its q (keeps q f has).sync (keeps q f has).is);
  }

module _ (o : ℕ → List Own) (s t : Syncs) (i : Named o s.rows) where
  -- A sync begins where none of its CronJob is under way.
  begun_named : (y : ℕ) (n : List ℕ) → HasBegun y n s t → o y ≡ [] → Named o t.rows
  begun_named y n b none = record { alone = alone; its = its }
    where
      found : (q : ℕ) → map.get t.rows q ≡ cond (q == y) (Some (fresh n)) (map.get s.rows q)
      found q = ap (λ (x : Syncs). map.get x.rows q) b.after ∙ put_at s.rows y (fresh n) q

      at : (q : ℕ) (c : Bool) → (q == y) ≡ c
          → map.get t.rows q ≡ cond c (Some (fresh n)) (map.get s.rows q)
      at q c e = found q ∙ ap (λ c. cond c (Some (fresh n)) (map.get s.rows q)) e

      -- one that was there is of another CronJob
      other : (q z : ℕ) (f g : FencedSync) → (q == y) ≡ true → map.get t.rows q ≡ Some f
          → map.get s.rows z ≡ Some g → f.name ≡ g.name → ⊥
      other q z f g e is has same = b.free.none z g has (sym same
          ∙ ap (λ (x : FencedSync). x.name) (some_is f (fresh n) (map.get t.rows q) is (at q true e)))

      alone : AreAlone t.rows
      alone p q f g is has same = by (p == y) refl (q == y) refl
        where
          by : (c : Bool) → (p == y) ≡ c → (d : Bool) → (q == y) ≡ d → p ≡ q
          by true e true h = number_is p y e ∙ sym (number_is q y h)
          by true e false h = absurd (other p q f g e is (sym (at q false h) ∙ has) same)
          by false e true h = absurd (other q p g f h has (sym (at p false e) ∙ is) (sym same))
          by false e false h =
              i.alone p q f g (sym (at p false e) ∙ is) (sym (at q false h) ∙ has) same

      its : AreIts o t.rows
      its q f has = by (q == y) refl
        where
          by : (c : Bool) → (q == y) ≡ c → All (IsIts f.name) (o q)
          by true e = subst (All (IsIts f.name))
              (sym (ap o (number_is q y e) ∙ none)) (All-nil (IsIts f.name))
          by false e = i.its q f (sym (at q false e) ∙ has)

-- A sync that begins had asked nothing.
none_own : (workers : ℕ) (ds : List Deed) (s : Syncs) → Path ds (nothing workers) s → (y : ℕ)
    → y ≡ s.begun → own y ds ≡ []
none_own workers ds s p y e = (always workers ds s p).none y (let f : y ≡ s.begun = e in omega (arith, f))

-- Where nothing began, no CronJob has a sync.
at_first : (workers : ℕ) → Named (λ q. own q []) (nothing workers).rows
at_first workers = record {
  alone = λ y z f g is has e. absurd (cc (sym is ∙ map.get-empty nat_cmp y));
  its = λ y f is. absurd (cc (sym is ∙ map.get-empty nat_cmp y));
}

-- Each deed keeps it.
named_after : (workers : ℕ) (ds : List Deed) (s t : Syncs) → Path ds (nothing workers) s
    → Named (λ q. own q ds) s.rows → (d : Deed) → Moves d s t → Named (λ q. own q (d ∷ ds)) t.rows
named_after workers ds s t p i (Begins y n) m =
    begun_named (λ q. own q ds) s t i y n m (none_own workers ds s p y m.number)
named_after workers ds s t p i (Asks y call) m =
    asked_named (λ q. own q ds) s.rows t.rows i y call None m.row
named_after workers ds s t p i (Sends y id parts call r) m =
    asked_named (λ q. own q ds) s.rows t.rows i y call (Some id) m.row
named_after workers ds s t p i (Reads id r) m =
    subst (Named (λ q. own q ds)) (sym (ap (λ (x : Syncs). x.rows) m.after)) i
named_after workers ds s t p i (Ticks moment) m =
    subst (Named (λ q. own q ds)) (sym (ap (λ (x : Syncs). x.rows) m)) i
named_after workers ds s t p i (Hears y a) m = heard_named (λ q. own q ds) s.rows t.rows i y a m.row
named_after workers ds s t p i (Ends y) m =
    kept_named (λ q. own q ds) s.rows t.rows i (cut_keeps s.rows t.rows y m.row.after)

-- After all deeds it holds.
always_named : (workers : ℕ) (ds : List Deed) (s : Syncs) → Path ds (nothing workers) s
    → Named (λ q. own q ds) s.rows
always_named workers [] s p =
    subst (λ (x : Syncs). Named (λ q. own q []) x.rows) (sym p) (at_first workers)
always_named workers (d ∷ ds) s p =
    named_after workers ds p.0 s p.1 (always_named workers ds p.0 p.1) d p.2

-- For follow_law.
pub all_follow : FollowLaw
all_follow workers ds s p = record {
  follows = λ y. follows (map.get s.rows y) (own y ds) ((always workers ds s p).each y);
  timely = always_timely workers ds s p;
  alone = (always_named workers ds s p).alone;
  its = (always_named workers ds s p).its;
  few = let i = always workers ds s p in
      let e : map.len s.rows ≡ s.live = i.count in
      let f : s.live ≤ s.workers = i.few in
      let w : s.workers ≡ workers = workers_are workers ds s p in omega (arith, e, f, w);
}
