-- read_instant: its clause only, by the length of the text.
use Rattle.std.proofs.Common.{◌≡◌, ◌⊎◌, sym, ap, subst, length, ℕ, List, inl, inr, arith}
use Rattle.cj_zone.specs.TimeText.{time_text_of}
use Rattle.cj_cluster.specs.kubectl.Instants.{IsApart}
use Rattle.cj_cluster.proofs.KubectlLemmas.InstantLemmas.{printed_length, apart_length}
use Rattle.cj_cluster.proofs.kubectl.instant.read_instant.Goals as goal

-- For is_apart: a text of 25 bytes is none of 20.
other_length : (a b : List ℕ) → a ≡ b → length a ≡ 25 → length b ≡ 20 → ⊥
other_length a b e long short = omega (arith, ap length e, long, short)

-- An instant that a text of 25 bytes prints is told with an offset.
is_apart : (text : List ℕ) (t : ℕ) → length text ≡ 25 → length (time_text_of t) ≡ 20
    → (text ≡ time_text_of t) ⊎ IsApart text t → IsApart text t
is_apart text t long short (inl printed) = absurd (other_length text (time_text_of t) printed long short)
is_apart text t long short (inr apart) = apart

-- One that a text of another length prints is told at UTC.
is_printed : (text : List ℕ) (t : ℕ) → (length text ≡ 25 → ⊥) → (text ≡ time_text_of t) ⊎ IsApart text t
    → text ≡ time_text_of t
is_printed text t other (inl printed) = printed
is_printed text t other (inr apart) = absurd (other (apart_length text t apart))

pub returns-then-text-eq25-clause-only : goal.returns-then-text-eq25-clause-only
returns-then-text-eq25-clause-only c = λ t i.
    let apart : IsApart c.args.text.now t = is_apart c.args.text.now t c.if-text-eq25.true
    (printed_length t i.in_range) i.printed in
    c.apart.ensures.only t i.in_range (subst (λ x. IsApart x t) (sym c.as_bytes.ensures.value) apart)

pub returns-else-text-eq25-clause-only : goal.returns-else-text-eq25-clause-only
returns-else-text-eq25-clause-only c = λ t i.
    c.read_time.ensures.only t i.in_range (is_printed c.args.text.now t c.if-text-eq25.false i.printed)
