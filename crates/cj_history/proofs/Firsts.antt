-- Only one key is the first of the line.
use Rattle.std.proofs.Common.{◌≡◌, Bool, true, false, Option, Some, None, refl, sym, ap, ◌∙◌}
use Rattle.std.specs.Prelude.{List, Ok, Err}
use Rattle.cj_base.specs.declared.refusal.Refusal.TheVariants as No
use Rattle.cj_types.specs.Keys.{Place}
use Rattle.cj_queue.specs.Parts.{key_eq}
use Rattle.cj_queue.proofs.Sets.{eq_true, eq_turned}
use Rattle.cj_calls.specs.declared.reply.Reply.TheVariants as Say
use Rattle.cj_state.specs.declared.phases.sync.InFlight.{InFlight}
use Rattle.cj_history.specs.queue.Deeds.{Operation}
use Rattle.cj_history.specs.queue.Answers.{Answer, IsFirst, OnTake, TakeSays}
use Rattle.cj_history.proofs.QueueLemmas.Firsts.{both_ways}

-- Two keys that are each the first of the line are one key.
one_first : (h : List Operation) (j k : Place) → IsFirst h j → IsFirst h k → j ≡ k
one_first h j k p q = by (key_eq j k) refl
  where
    by : (b : Bool) → key_eq j k ≡ b → j ≡ k
    by true e = eq_true j k e
    by false e = absurd (both_ways _ _ k j (q.before j p.there e) (p.before k q.there (eq_turned k j ∙ e)))

-- Where a Take may be answered the first key of the line, it has no other answer.
with_key : (h : List Operation) (k : Place) (b : Answer) → IsFirst h k → OnTake h b → Ok (Say.Key k) ≡ b
with_key h k (Ok (Say.Key j)) p q = ap (λ (x : Place). Ok (Say.Key x)) (one_first h k j p q)
with_key h k (Err No.ShutDown) p q = absurd (cc (p.there, q.0 k))
with_key h k (Err No.Empty) p q = absurd (cc (p.there, q.0 k))
with_key h k b p q = absurd q

-- Where a Take may be answered ShutDown, it has no other answer.
when_shut : (h : List Operation) (b : Answer) → OnTake h (Err No.ShutDown) → OnTake h b → Err No.ShutDown ≡ b
when_shut h (Ok (Say.Key j)) p q = absurd (cc (q.there, p.0 j))
when_shut h (Err No.ShutDown) p q = refl
when_shut h (Err No.Empty) p q = absurd (cc (p.1, q.1))
when_shut h b p q = absurd q

-- Where a Take may be answered Empty, it has no other answer.
when_empty : (h : List Operation) (b : Answer) → OnTake h (Err No.Empty) → OnTake h b → Err No.Empty ≡ b
when_empty h (Ok (Say.Key j)) p q = absurd (cc (q.there, p.0 j))
when_empty h (Err No.ShutDown) p q = absurd (cc (p.1, q.1))
when_empty h (Err No.Empty) p q = refl
when_empty h b p q = absurd q

-- A Take by one who holds no key has just one answer.
one_take : (h : List Operation) (a b : Answer) → OnTake h a → OnTake h b → a ≡ b
one_take h (Ok (Say.Key k)) b p q = with_key h k b p q
one_take h (Err No.ShutDown) b p q = when_shut h b p q
one_take h (Err No.Empty) b p q = when_empty h b p q
one_take h a b p q = absurd p

-- A Take by any worker, whether or not it holds a key, has just one answer.
pub one_taken : (h : List Operation) (o : Option InFlight) (a b : Answer) → TakeSays h o a → TakeSays h o b → a ≡ b
one_taken h None a b p q = one_take h a b p q
one_taken h (Some s) a b p q = p ∙ sym q
