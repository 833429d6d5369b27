-- The instants of a clock by their numbers.
use Rattle.std.proofs.Common.{◌≡◌, ◌∙◌, ◌≤◌, ◌<◌, ◌+◌, ◌-◌, ◌*◌, ◌/◌, ◌%◌, ◌↔◌, ℕ, IsTrue, Fits, w64, nat_eq, sym, ap, subst, arith}
use Rattle.std.proofs.Math.Nat.{div-le_self, mod-add-div, mul-mod_left, mul_comm}
use Rattle.std.proofs.lemmas.Bool.Decides.{nat_tests}
use Rattle.cj_base.specs.Instant.{last_second}
use Rattle.cj_script.specs.simulation.Spans.{IsInstant, SpanView, instant}

-- A rest that tests as 0 is 0.
is_zero : (r : ℕ) → IsTrue (nat_eq r 0) → r ≡ 0
is_zero r h = grind (arith, nat_tests)

-- And a rest that is 0 tests as 0.
zero_is : (r : ℕ) → r ≡ 0 → IsTrue (nat_eq r 0)
zero_is r h = grind (arith, nat_tests)

-- where no rest is left, whole steps lead to the moment
reached : (start at step : ℕ) → start ≤ at → (at - start) % step ≡ 0 → start + (at - start) / step * step ≡ at
reached start at step low rest =
    let parts : (at - start) % step + step * ((at - start) / step) ≡ at - start = mod-add-div (at - start) step in
    let turned : step * ((at - start) / step) ≡ (at - start) / step * step = mul_comm step ((at - start) / step) in
    omega (arith, parts, turned, rest)

-- whole steps leave none
no_rest : (start at step n : ℕ) → start + n * step ≡ at → (at - start) % step ≡ 0
no_rest start at step n is =
    let whole : at - start ≡ n * step = omega arith in
    ap (λ d. d % step) whole ∙ mul-mod_left n step

-- between start and end the instants are those that whole steps lead to
pub has_exact : (s : SpanView) (at start moment step : ℕ) → start ≡ s.start → moment ≡ at → step ≡ s.step
    → start ≤ moment → moment ≤ s.end
    → (IsTrue (nat_eq ((moment - start) % step) 0)) ↔ ((n : ℕ) × IsInstant s n × (instant s n ≡ at))
has_exact s at start moment step starts is steps low high =
    let same : (moment - start) % step ≡ (at - s.start) % s.step = cc in
    let after : s.start ≤ at = omega arith in
    let before : at ≤ s.end = omega arith in (
      λ even.
          let whole : s.start + (at - s.start) / s.step * s.step ≡ at =
          reached s.start at s.step after (sym same ∙ is_zero ((moment - start) % step) even) in
          ((at - s.start) / s.step, subst (λ t. t ≤ s.end) (sym whole) before, whole),
      λ (n, within, found). zero_is ((moment - start) % step) (same ∙ no_rest s.start at s.step n found),
    )

-- the clock has at most one instant for each second
pub steps_fit : (length step : ℕ) → length ≤ last_second → Fits w64 (length / step + 1)
steps_fit length step h = let fewer : length / step ≤ length = div-le_self length step in omega (arith, fewer, h)

-- an instant is no further than a number of 64 bits can say
pub no_instant : (s : SpanView) (n step : ℕ) → step ≡ s.step → s.end ≤ last_second
    → (n * step < 18446744073709551616 → ⊥) → IsInstant s n → ⊥
no_instant s n step is last far within =
    let same : n * step ≡ n * s.step = cc in
    far (omega (arith, same, last, within))
