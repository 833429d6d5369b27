-- apart: its clause found, and its clause only at each way out.
use Rattle.std.proofs.Common.{◌≡◌, ◌+◌, ◌-◌, ◌⊎◌, ◌≤◌, ◌∙◌, List, Option, Some, ap, sym, subst, inl, inr, ℕ, ◌∷◌, ◌++◌, get_or, length, take, drop, arith}
use Rattle.std.proofs.lemmas.Option.{IfSome_then}
use Rattle.cj_base.specs.Instant.{last_second}
use Rattle.cj_zone.specs.TimeText.{time_text_of}
use Rattle.cj_cluster.specs.kubectl.Instants.{IsDistance, IsApart, IsShown}
use Rattle.cj_cluster.proofs.KubectlLemmas.InstantLemmas.{split_behind, behind_sign, with_sign}
use Rattle.cj_cluster.proofs.kubectl.instant.apart.Goals as goal

-- what is behind the sign
abbrev far : List ℕ → List ℕ
far rest = take (length rest - 1) (drop 1 rest)

-- a text that shows a clock is one with a distance behind the sign
has_distance : (text clock rest : List ℕ) (sign shown distance : ℕ) → IsShown text sign shown distance
    → clock ≡ take 19 text → rest ≡ drop 19 text → IsDistance (far rest) distance
has_distance text clock rest sign shown distance s front back =
    let parts = split_behind text clock rest sign shown distance s front back in
    subst (λ x. IsDistance x distance) (sym (behind_sign rest s.offset sign parts.rest_is)) s.far

-- where no distance is behind the sign, the text tells no instant
no_distance : (text clock rest : List ℕ) (t : ℕ) → clock ≡ take 19 text → rest ≡ drop 19 text
    → ((d : ℕ) → IsDistance (far rest) d → ⊥) → IsApart text t → ⊥
no_distance text clock rest t front back none (inl a) =
    none a.distance (has_distance text clock rest 43 a.shown a.distance a.is_shown front back)
no_distance text clock rest t front back none (inr b) =
    none b.distance (has_distance text clock rest 45 b.shown b.distance b.is_shown front back)

pub returns-in_err-distance-clause-only : goal.returns-in_err-distance-clause-only
returns-in_err-distance-clause-only c = λ t h a.
    absurd (no_distance c.args.text.now c.split_at.result.0.now c.split_at.result.1.now t c.split_at.ensures.front
    c.split_at.ensures.back (λ d is. cc (c.in_err-distance.ensures.only d is)) a)

-- the text shows a clock, by its parts
shows : (text clock rest : List ℕ) (sign shown distance : ℕ) → text ≡ clock ++ rest → length rest ≡ 6
    → get_or rest 0 0 ≡ sign → shown ≤ last_second → clock ≡ take 19 (time_text_of shown)
    → IsDistance (far rest) distance → IsShown text sign shown distance
shows text clock rest sign shown distance whole long first h front is = record {
  offset = far rest;
  in_range = h;
  far = is;
  text_is = whole ∙ ap (λ x. x ++ rest) front
      ∙ ap (λ x. take 19 (time_text_of shown) ++ x) (with_sign rest 5 long ∙ ap (λ s. s ∷ far rest) first);
}

-- For returns-clause-found: what is moved by a distance as the sign says is an instant that the text tells.
tells : (text clock rest : List ℕ) (shown distance t : ℕ) → text ≡ clock ++ rest → length rest ≡ 6
    → shown ≤ last_second → clock ≡ take 19 (time_text_of shown) → IsDistance (far rest) distance
    → ((get_or rest 0 0 ≡ 43) × (t + distance ≡ shown)) ⊎ ((get_or rest 0 0 ≡ 45) × (shown + distance ≡ t))
    → IsApart text t
tells text clock rest shown distance t whole long h front is (inl p) = inl (record {
  shown = shown;
  distance = distance;
  is_shown = shows text clock rest 43 shown distance whole long p.0 h front is;
  later = p.1;
})
tells text clock rest shown distance t whole long h front is (inr p) = inr (record {
  shown = shown;
  distance = distance;
  is_shown = shows text clock rest 45 shown distance whole long p.0 h front is;
  earlier = p.1;
})

pub returns-clause-found : goal.returns-clause-found
returns-clause-found c =
    let rest = c.split_at.result.1.now in
    let long : length rest ≡ 6 = omega (arith, c.split_at.ensures.back_len, c.requires) in
    IfSome_then c.moved.result c.moved.ensures.found
    (λ t either. tells c.args.text.now c.split_at.result.0.now rest c.in_ok-shown.shown c.in_ok-distance.distance t
    c.split_at.ensures.by_index.0 long c.in_ok-shown.ensures.in_range c.in_ok-shown.ensures.found
    c.in_ok-distance.ensures.found either)

-- For told: with the clock's time and the distance that were read, the sum is the same.
same_sum : (t d e s r : ℕ) → t + d ≡ s → e ≡ d → r ≡ s → t + e ≡ r
same_sum t d e s r sum far clock = omega (arith, sum, far, clock)

-- For returns-clause-only: an instant that the text tells is the one that is found.
told : (text clock rest : List ℕ) (shown distance t : ℕ) (result : Option ℕ) → clock ≡ take 19 text
    → rest ≡ drop 19 text → ((s : ℕ) → s ≤ last_second → clock ≡ take 19 (time_text_of s) → shown ≡ s)
    → ((d : ℕ) → IsDistance (far rest) d → distance ≡ d)
    → (get_or rest 0 0 ≡ 43 → t + distance ≡ shown → result ≡ Some t)
    → (get_or rest 0 0 ≡ 45 → shown + distance ≡ t → result ≡ Some t) → IsApart text t → result ≡ Some t
told text clock rest shown distance t result front back clocks fars ahead behind (inl a) =
    let parts = split_behind text clock rest 43 a.shown a.distance a.is_shown front back in
    let d = fars a.distance (has_distance text clock rest 43 a.shown a.distance a.is_shown front back) in
    let s = clocks a.shown a.is_shown.in_range parts.clock_is in
    ahead (ap (λ r. get_or r 0 0) parts.rest_is) (same_sum t a.distance distance a.shown shown a.later d s)
told text clock rest shown distance t result front back clocks fars ahead behind (inr b) =
    let parts = split_behind text clock rest 45 b.shown b.distance b.is_shown front back in
    let d = fars b.distance (has_distance text clock rest 45 b.shown b.distance b.is_shown front back) in
    let s = clocks b.shown b.is_shown.in_range parts.clock_is in
    behind (ap (λ r. get_or r 0 0) parts.rest_is) (omega (arith, b.earlier, d, s))

pub returns-clause-only : goal.returns-clause-only
returns-clause-only c = λ t h a.
    told c.args.text.now c.split_at.result.0.now c.split_at.result.1.now c.in_ok-shown.shown c.in_ok-distance.distance t
    c.moved.result c.split_at.ensures.front c.split_at.ensures.back
    (λ s in_range is. cc (c.in_ok-shown.ensures.only s in_range is)) (λ d is. cc (c.in_ok-distance.ensures.only d is))
    (λ sign later. c.moved.ensures.ahead t sign later) (λ sign earlier. c.moved.ensures.behind t h sign earlier) a
