-- Of two keys one stands before the other.
use Rattle.std.proofs.Common.{◌≡◌, ℕ, inl, inr, refl, arith}
use Rattle.std.specs.declared.cmp.Ordering.TheVariants.{Less}
use Rattle.cj_types.specs.Keys.{Place, place_cmp}
use Rattle.cj_table.proofs.Order.{places_total}
use Rattle.cj_history.specs.queue.LookBacks.{Before}
use Rattle.cj_history.proofs.QueueLemmas.Rows.{before_itself}

-- Of two keys it can't be that each is less than the other.
not_both : (j k : Place) → place_cmp j k ≡ Less → place_cmp k j ≡ Less → ⊥
not_both j k x y = before_itself (0, 0) j (inr (refl, inr (refl, places_total.trans j k j x y)))

-- Of two keys it can't be that each stands before the other, by place, then time, then key.
pub both_ways : (p q : ℕ × ℕ) (j k : Place) → Before p j q k → Before q k p j → ⊥
both_ways p q j k (inl a) (inl b) = omega (arith, a, b)
both_ways p q j k (inl a) (inr b) = let c = b.0 in omega (arith, a, c)
both_ways p q j k (inr a) (inl b) = let c = a.0 in omega (arith, c, b)
both_ways p q j k (inr (e, inl a)) (inr (f, inl b)) = omega (arith, a, b)
both_ways p q j k (inr (e, inl a)) (inr (f, inr b)) = let c = b.0 in omega (arith, a, c)
both_ways p q j k (inr (e, inr a)) (inr (f, inl b)) = let c = a.0 in omega (arith, c, b)
both_ways p q j k (inr (e, inr a)) (inr (f, inr b)) = not_both j k a.1 b.1
