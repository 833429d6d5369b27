-- The pairs of Jobs in order: each Job with those behind it, as far as it reaches.
use Rattle.std.proofs.Common.{◌≡◌, ◌⊎◌, inl, inr, ◌≤◌, ℕ, Bool, true, false, ◌&&◌, ◌||◌, ◌==◌, List, [], ◌∷◌, Option, Some, None, is_some, unwrap_or, refl, subst, arith}
use Rattle.std.proofs.lemmas.Bool.Decides.{nat_tests}
use Rattle.std.specs.List.Sorted.{IsPermutation}
use Rattle.std.proofs.lemmas.List.Sorted.{Contains-permutation, IsPermutation-sym}
use Rattle.cj_status.specs.Order.{IsRising}
use Rattle.cj_cluster.specs.declared.cron.ClusterCron.{ClusterCron}
use Rattle.cj_audit.specs.declared.finding.Finding.{Finding}
use Rattle.cj_audit.specs.declared.pairing.Pairing.{Pairing}
use Rattle.cj_audit.specs.declared.pairing.Pairing.TheVariants.{SameTime, SideBySide}
use Rattle.cj_audit.specs.declared.run.Run.{Run}
use Rattle.cj_audit.specs.Pairs.{at_one_time, before_end, comes_before, created, is_pair, key_of, meets, reaches, IsPairNote}
use Rattle.cj_audit.specs.Notes.{AnyOf, IsPairIn}
use Rattle.cj_audit.proofs.Members.{IsIn, contains_in, in_contains, in_each}
use Rattle.cj_audit.proofs.Orders.{key_le, runs_rank}
use Rattle.cj_audit.proofs.Walks.{any_in, in_any}

-- Of two tests that hold together, the first holds.
pub first_of : (a b : Bool) → (a && b) ≡ true → a ≡ true
first_of true b h = refl
first_of false b h = absurd (cc h)

-- Of two tests that hold together, the second holds.
pub second_of : (a b : Bool) → (a && b) ≡ true → b ≡ true
second_of true b h = h
second_of false b h = absurd (cc h)

-- For pairs_reach: Jobs of one scheduled time have one time in the order.
one_time : (a b : Option ℕ) (c d : ℕ) → at_one_time a b ≡ true → (is_some a && (unwrap_or a c == unwrap_or b d)) ≡ true
one_time (Some a) (Some b) c d h = h
one_time (Some a) None c d h = absurd (cc h)
one_time None b c d h = absurd (cc h)

-- For pairs_reach: what holds with more asked of it holds with less.
less_asked : (a b c : Bool) → (a || (b && c)) ≡ true → (a || b) ≡ true
less_asked true b c h = refl
less_asked false true c h = refl
less_asked false false c h = absurd (cc h)

-- A Job reaches those that it makes a pair with.
pub pairs_reach : (p : Pairing) (a b : Run) → is_pair p a b ≡ true → reaches p a b ≡ true
pairs_reach SameTime a b h =
    one_time a.times.scheduled b.times.scheduled (created a) (created b)
    (second_of (comes_before SameTime a b) (meets SameTime a b) h)
pairs_reach (SideBySide e) a b h =
    less_asked (before_end (created b) a.times.ended) (created a == created b) (before_end (created a) b.times.ended)
    (second_of (comes_before (SideBySide e) a b) (meets (SideBySide e) a b) h)

-- For reach_back: of three times in order of which the outer are one, all are.
between_same : (s : Bool) (a b c : ℕ) → a ≤ b → b ≤ c → (s && (a == c)) ≡ true → (s && (a == b)) ≡ true
between_same false a b c l m h = h
between_same true a b c l m h = grind (arith, nat_tests)

-- For reach_back: a time before one that is before the end is before the end too.
between_end : (o : Option ℕ) (a b c : ℕ) → a ≤ b → b ≤ c → (before_end c o || (a == c)) ≡ true
    → (before_end b o || (a == b)) ≡ true
between_end None a b c l m h = refl
between_end (Some e) a b c l m h = grind (arith, nat_tests)

-- A Job that reaches one reaches all that stand between.
pub reach_back : (p : Pairing) (a b c : Run) → key_of p a ≤ key_of p b → key_of p b ≤ key_of p c
    → reaches p a c ≡ true → reaches p a b ≡ true
reach_back SameTime a b c l m h =
    between_same (is_some a.times.scheduled) (key_of SameTime a) (key_of SameTime b) (key_of SameTime c) l m h
reach_back (SideBySide e) a b c l m h = between_end a.times.ended (created a) (created b) (created c) l m h

-- For note_behind: a Job that doesn't reach the next of those behind it makes a pair with none of them.
pub none_behind : (p : Pairing) (c : ClusterCron) (a x : Run) (xs : List Run) (f : Finding) → reaches p a x ≡ false
    → comes_before p x a ≡ false → IsRising (comes_before p) (x ∷ xs) → AnyOf (IsPairNote p c a) (x ∷ xs) f → ⊥
none_behind p c a x xs f far after rising h = by (any_in (IsPairNote p c a) (x ∷ xs) f h)
  where
    by : (y : Run) × (IsIn y (x ∷ xs) × IsPairNote p c a y f) → ⊥
    by (y, (inl is, note)) =
        let near : reaches p a x ≡ true = subst (λ z. reaches p a z ≡ true) is (pairs_reach p a y note.pair) in
        cc (near, far)
    by (y, (inr inside, note)) =
        let behind : comes_before p y x ≡ false = in_each (λ z. comes_before p z x ≡ false) xs y rising.0 inside in
        let near : reaches p a x ≡ true = reach_back p a x y (key_le p x a after) (key_le p y x behind)
        (pairs_reach p a y note.pair) in
        cc (near, far)

-- the pairs of each Job of a list with those behind it
abbrev pub PairsFrom : Pairing → ClusterCron → List Run → Finding → Type 0
PairsFrom p c [] f = ⊥
PairsFrom p c (x ∷ xs) f = AnyOf (IsPairNote p c x) xs f ⊎ PairsFrom p c xs f

-- two that stand in a list and are a pair
abbrev PairIn : Pairing → ClusterCron → List Run → Finding → Type 0
PairIn p c xs f = (a : Run) × (b : Run) × (IsIn a xs × (IsIn b xs × IsPairNote p c a b f))

-- For pair_in: a pair of a list is one of the list with an element more in front.
one_more : (p : Pairing) (c : ClusterCron) (x : Run) (xs : List Run) (f : Finding) → PairIn p c xs f
    → PairIn p c (x ∷ xs) f
one_more p c x xs f (a, b, (i, (j, note))) = (a, b, (inr i, (inr j, note)))

-- For pair_in: the first of a list with one behind it.
with_first : (p : Pairing) (c : ClusterCron) (x : Run) (xs : List Run) (f : Finding)
    → (y : Run) × (IsIn y xs × IsPairNote p c x y f) → PairIn p c (x ∷ xs) f
with_first p c x xs f (y, (i, note)) = (x, y, (inl refl, (inr i, note)))

-- What the walk over a list notes is of two that stand in it.
pair_in : (p : Pairing) (c : ClusterCron) (xs : List Run) (f : Finding) → PairsFrom p c xs f → PairIn p c xs f
pair_in p c [] f h = absurd h
pair_in p c (x ∷ xs) f (inl any) = with_first p c x xs f (any_in (IsPairNote p c x) xs f any)
pair_in p c (x ∷ xs) f (inr rest) = one_more p c x xs f (pair_in p c xs f rest)

-- For pairs_from: no Job comes before itself.
none_before : (p : Pairing) (a : Run) → comes_before p a a ≡ true → ⊥
none_before p a h = let back = (runs_rank p).one_way a a h in cc (h, back)

-- Two that stand in a rising list and are a pair are noted by the walk over it.
pairs_from : (p : Pairing) (c : ClusterCron) (xs : List Run) (f : Finding) (a b : Run) → IsRising (comes_before p) xs
    → IsIn a xs → IsIn b xs → IsPairNote p c a b f → PairsFrom p c xs f
pairs_from p c [] f a b rising i j note = absurd i
pairs_from p c (x ∷ xs) f a b rising (inl is) (inl also) note =
    absurd (none_before p x (subst (λ z. comes_before p x z ≡ true) also (subst (λ z. comes_before p z b ≡ true) is
    (first_of (comes_before p a b) (meets p a b) note.pair))))
pairs_from p c (x ∷ xs) f a b rising (inl is) (inr j) note =
    inl (in_any (IsPairNote p c x) xs f b j (subst (λ z. IsPairNote p c z b f) is note))
pairs_from p c (x ∷ xs) f a b rising (inr i) (inl is) note =
    let before : comes_before p a x ≡ true = subst (λ z. comes_before p a z ≡ true) is
    (first_of (comes_before p a b) (meets p a b) note.pair) in
    let not_before : comes_before p a x ≡ false = in_each (λ z. comes_before p z x ≡ false) xs a rising.0 i in
    absurd (cc (before, not_before))
pairs_from p c (x ∷ xs) f a b rising (inr i) (inr j) note = inr (pairs_from p c xs f a b rising.1 i j note)

-- For note_sorted: what the walk notes is what is to be noted.
pub pairs_to : (p : Pairing) (c : ClusterCron) (xs : List Run) (f : Finding) → PairsFrom p c xs f → IsPairIn p c xs f
pairs_to p c xs f h = by (pair_in p c xs f h)
  where
    by : PairIn p c xs f → IsPairIn p c xs f
    by (a, b, (i, (j, note))) =
        record { first = a; second = b; first_in = in_contains a xs i; second_in = in_contains b xs j; note = note }

-- And the other way round.
pub pairs_back : (p : Pairing) (c : ClusterCron) (xs : List Run) (f : Finding) → IsRising (comes_before p) xs
    → IsPairIn p c xs f → PairsFrom p c xs f
pairs_back p c xs f rising h =
    pairs_from p c xs f h.first h.second rising (contains_in h.first xs h.first_in)
    (contains_in h.second xs h.second_in)
    h.note

-- For note_pairs: the pairs of a list are those of the list in another order.
pub pairs_moved : (p : Pairing) (c : ClusterCron) (xs ys : List Run) (f : Finding) → IsPermutation xs ys
    → IsPairIn p c xs f → IsPairIn p c ys f
pairs_moved p c xs ys f moved h = record {
  first = h.first;
  second = h.second;
  first_in = Contains-permutation xs ys h.first moved h.first_in;
  second_in = Contains-permutation xs ys h.second moved h.second_in;
  note = h.note;
}

-- And the other way round.
pub pairs_moved_back : (p : Pairing) (c : ClusterCron) (xs ys : List Run) (f : Finding) → IsPermutation xs ys
    → IsPairIn p c ys f → IsPairIn p c xs f
pairs_moved_back p c xs ys f moved h = pairs_moved p c ys xs f (IsPermutation-sym xs ys moved) h
