-- The requests for calls, one after the other: what there is so far, with those for the rest, is all.
use Rattle.std.proofs.Common.{◌≡◌, ◌++◌, ◌∙◌, ◌+◌, ◌<◌, ◌≤◌, ℕ, suc, List, [], ◌∷◌, drop, length, get_or, refl, sym, ap, subst, arith}
use Rattle.std.proofs.lemmas.List.{append_assoc, append-nil}
use Rattle.std.proofs.Math.ListN.{drop_of_length-le}
use Rattle.std.proofs.Math.Seq.{drop-cons}
use Rattle.cj_fence.specs.declared.call.Call.{Call}
use Rattle.cj_control.specs.declared.sent.Request.{Request}
use Rattle.cj_control.specs.Coming.{AreSentFor}
use Rattle.cj_control.specs.SentFor.{IsSentFor}

module _ (calls : List Call) where
  -- what the rest makes of what there is so far
  pub record Fills (rest : List Call) (rs : List Request) : Type 0 where
    pub whole : (more : List Request) → AreSentFor rest more → AreSentFor calls (rs ++ more)

  -- Before the first call there is nothing.
  pub fills_start : Fills calls []
  fills_start = record { whole = λ more h. h }

  -- With one call more there is its request.
  pub fills_one : (c : Call) (rest : List Call) (rs : List Request) (r : Request) → Fills (c ∷ rest) rs
      → IsSentFor c r → Fills rest (rs ++ (r ∷ []))
  fills_one c rest rs r h is = record {
    whole = λ more k.
        subst (λ xs. AreSentFor calls xs) (sym (append_assoc rs (r ∷ []) more))
        (h.whole (r ∷ more) (r, more, is, k, refl));
  }

  -- For fills_rest: what is left at a place is its call and what is left behind it.
  rest_at : (i : ℕ) (c : Call) → i < length calls → c ≡ get_or calls i c → drop i calls ≡ c ∷ drop (i + 1) calls
  rest_at i c inside at =
      let next : suc i ≡ i + 1 = omega arith in
      drop-cons calls i c inside ∙ ap (λ y. y ∷ drop (suc i) calls) (sym at) ∙ ap (λ n. c ∷ drop n calls) next

  -- The same at a place in the list, whose call is the next.
  pub fills_rest : (i : ℕ) (c : Call) (rs more : List Request) (r : Request) → i < length calls → c ≡ get_or calls i c
      → Fills (drop i calls) rs → IsSentFor c r → more ≡ rs ++ (r ∷ []) → Fills (drop (i + 1) calls) more
  fills_rest i c rs more r inside at h is m =
      subst (λ xs. Fills (drop (i + 1) calls) xs) (sym m)
      (fills_one c (drop (i + 1) calls) rs r (subst (λ xs. Fills xs rs) (rest_at i c inside at) h) is)

  -- Where no call is left, that is all.
  pub fills_over : (i : ℕ) (rs : List Request) → length calls ≤ i → Fills (drop i calls) rs → AreSentFor calls rs
  fills_over i rs over h =
      let end : Fills [] rs = subst (λ xs. Fills xs rs) (drop_of_length-le calls over) h in
      subst (λ xs. AreSentFor calls xs) (append-nil rs) (end.whole [] refl)
