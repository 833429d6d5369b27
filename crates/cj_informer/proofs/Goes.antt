-- Exchanges, joined.
use Rattle.std.proofs.Common.{◌≡◌, List, [], ◌∷◌, ◌++◌, Result, Ok, Err, refl, ap, sym, subst, ◌∙◌, append_assoc}
use Rattle.std.specs.Result.{IsErrAnd}
use Rattle.cj_base.specs.declared.refusal.Refusal.{Refusal}
use Rattle.cj_calls.specs.Rows.{Told}
use Rattle.cj_calls.specs.declared.call.Call.{Call}
use Rattle.cj_calls.specs.declared.reply.Reply.{Reply}
use Rattle.cj_informer.specs.Exchanges.{Exchange, exchanges, accepted, IsRefused, BreaksOff, Goes, IsAccepted}

-- The exchanges of entries and then others are those of the first and then those of the others.
pub exchanges-append : (es fs : List Told) → exchanges (es ++ fs) ≡ exchanges es ++ exchanges fs
exchanges-append [] fs = refl
exchanges-append (e ∷ es) fs = ap (λ (xs : List Exchange). record { call = e.call; answer = e.answer } ∷ xs)
    (exchanges-append es fs)

-- Entries of just some exchanges before entries that go by others, whole or broken off, go by both.
pub goes-then : {X : Type 0} (xs ys : List Exchange) (r : Result X Refusal) (es fs : List Told) → exchanges es ≡ xs
    → Goes ys r fs → Goes (xs ++ ys) r (es ++ fs)
goes-then xs ys (Ok x) es fs one two = exchanges-append es fs ∙ ap (λ (zs : List Exchange). zs ++ exchanges fs) one
    ∙ ap (λ (zs : List Exchange). xs ++ zs) two
goes-then xs ys (Err e) es fs one two = record {
  made = xs ++ two.made;
  next = two.next;
  rest = two.rest;
  last = two.last;
  begins = ap (λ (zs : List Exchange). xs ++ zs) two.begins ∙ sym (append_assoc xs two.made (two.next ∷ two.rest));
  entered = exchanges-append es fs ∙ ap (λ (zs : List Exchange). zs ++ exchanges fs) one
      ∙ ap (λ (zs : List Exchange). xs ++ zs) two.entered ∙ sym (append_assoc xs two.made two.last);
  stops = two.stops;
}

-- Exchanges that break off at a refusal do so with further ones planned behind them.
pub breaks-longer : (xs ys : List Exchange) (e : Refusal) (es : List Told) → BreaksOff xs e es
    → BreaksOff (xs ++ ys) e es
breaks-longer xs ys e es b = record {
  made = b.made;
  next = b.next;
  rest = b.rest ++ ys;
  last = b.last;
  begins = ap (λ (zs : List Exchange). zs ++ ys) b.begins ∙ append_assoc b.made (b.next ∷ b.rest) ys;
  entered = b.entered;
  stops = b.stops;
}

-- Where the first call of the planned exchanges is refused, they break off there.
pub refused-first : (x : Exchange) (rest : List Exchange) (e : Refusal) (es : List Told)
    → IsRefused x.call e (exchanges es) → BreaksOff (x ∷ rest) e es
refused-first x rest e es h = record {
  made = [];
  next = x;
  rest = rest;
  last = exchanges es;
  begins = refl;
  entered = refl;
  stops = h;
}

-- one call that was accepted, and what comes after it
pub said-then : {X : Type 0} (x : Exchange) (ys : List Exchange) (r : Result X Refusal) (es fs : List Told)
    → exchanges es ≡ x ∷ [] → Goes ys r fs → Goes (x ∷ ys) r (es ++ fs)
said-then x ys r es fs one two = goes-then (x ∷ []) ys r es fs one two

-- the reply of an accepted call
pub accepted_as : (call : Call) (answer : Result Reply Refusal) (reply : Reply) (es : List Told)
    → IsAccepted call answer es → answer ≡ Ok reply → exchanges es ≡ accepted call reply ∷ []
accepted_as call answer reply es said is = said.entered
    ∙ ap (λ (a : Result Reply Refusal). (record { call = call; answer = a } ∷ [])) is

-- a refusal that is handed on
pub handed_on : {X : Type 0} (r : Result X Refusal) (e : Refusal) (P : Result X Refusal → Type 0)
    → IsErrAnd r (λ x. x ≡ e) → P (Err e) → P r
handed_on (Ok x) e P is p = absurd is
handed_on (Err x) e P is p = let Q : Refusal → Type 0 = λ y. P (Err y) in subst Q (sym is) p
