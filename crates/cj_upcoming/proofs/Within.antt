-- The starts of the minutes of a list are among the list's.
use Rattle.std.proofs.Common.{◌≡◌, ◌≤◌, ◌+◌, ◌==◌, inl, inr, ℕ, Bool, true, false, cond, List, [], ◌∷◌, length, sym, subst, arith}
use Rattle.std.specs.List.{All}
use Rattle.cj_upcoming.specs.declared.start.Start.{Start}
use Rattle.cj_upcoming.specs.declared.minute.Minute.{Minute}
use Rattle.cj_upcoming.specs.Minutes.{minute, minutes, minutes_from, IsWithin}
use Rattle.cj_upcoming.proofs.Members.{IsIn, all_in}

-- Each minute ends before a place at which all of them end.
ends_by : (time first count end : ℕ) (ss : List Start) (m : Minute) → first + count + length ss ≡ end
    → IsIn m (minutes_from time first count ss) → m.first + m.count ≤ end
ends_by time first count end [] m e (inl is) =
    subst (λ (x : Minute). x.first + x.count ≤ end) (sym is) (omega (arith, e))
ends_by time first count end [] m e (inr none) = absurd none
ends_by time first count end (s ∷ ss) m e h =
    by (s.time == time) (λ k. ends_by time first (count + 1) end ss m (omega (arith, e)) k)
    (λ k. ends_by s.time (first + count) 1 end ss m (omega (arith, e)) k) h
  where
    by : (b : Bool) → (IsIn m (minutes_from time first (count + 1) ss) → m.first + m.count ≤ end)
        → (IsIn m (minutes_from s.time (first + count) 1 ss) → m.first + m.count ≤ end)
        → IsIn m (cond b (minutes_from time first (count + 1) ss)
        (minute time first count ∷ minutes_from s.time (first + count) 1 ss)) → m.first + m.count ≤ end
    by true one other k = one k
    by false one other (inl is) = subst (λ (x : Minute). x.first + x.count ≤ end) (sym is) (omega (arith, e))
    by false one other (inr k) = other k

-- For minutes: they are all within the list.
pub minutes_within : (starts : List Start) → All (IsWithin starts) (minutes starts)
minutes_within [] = all_in (IsWithin []) [] (λ m h. absurd h)
minutes_within (s ∷ ss) = all_in (IsWithin (s ∷ ss)) (minutes (s ∷ ss))
    (λ m h. ends_by s.time 0 1 (length (s ∷ ss)) ss m (omega arith) h)
