-- Claims and makings by looking back are those by the state.
use Rattle.std.proofs.Common.{◌≡◌, ℕ, ◌==◌, cond, List, [], ◌∷◌, Option, Some, None, refl, sym, ap, subst, ◌∙◌}
use Rattle.std.specs.Prelude.{Result, Ok, Err}
use Rattle.cj_base.specs.declared.refusal.Refusal.{Refusal}
use Rattle.cj_types.specs.declared.cron.CronJob.{CronJob}
use Rattle.cj_types.specs.declared.event.Event.{Event}
use Rattle.cj_store.specs.Content.{Content}
use Rattle.cj_decide.specs.Decision.{Planned}
use Rattle.cj_calls.specs.Rows.{Told}
use Rattle.cj_calls.specs.declared.call.Call.{Call}
use Rattle.cj_calls.specs.declared.call.Call.TheVariants as Of
use Rattle.cj_calls.specs.declared.reply.Reply.{Reply}
use Rattle.cj_calls.specs.declared.reply.Reply.TheVariants as Say
use Rattle.cj_state.specs.Legal.{IsLegal, state_of}
use Rattle.cj_world_laws.specs.once.Once as state
use Rattle.cj_world_laws.specs.once.Once.{Claimed, claimed_under, is_making, with_made, IsNew}
use Rattle.cj_world_laws.proofs.OnceLemmas.Whole.{both}
use Rattle.cj_history.specs.store.Store.{IsStore}
use Rattle.cj_history.specs.store.Writes.{writes}
use Rattle.cj_history.proofs.StoreLemmas.Stores.{store_agrees}
use Rattle.cj_history.specs.Once.{claimed, claim_answered, claim_after, claim_of, makes, Once, Alone, OnceAndAlone}
use Rattle.cj_history.proofs.One.{legal}

-- The content s has what the writes ws left.
module _ (ws : List Event) (s : Content) (is : IsStore ws s) where
  -- What a claim of a time records is the same by the content as by the writes.
  claimed_same : (t : ℕ) (o : Option CronJob) → state.claimed_of s t o ≡ claimed ws t o
  claimed_same t None = refl
  claimed_same t (Some cron) = ap (claimed_under cron.meta.uid t) (is.crons cron.key)

  -- What is claimed after the answer to a Claim is the same by the content as by the writes.
  answered_same : (p : Planned) (a : Result Reply Refusal) (before : Option Claimed)
      → state.claim_answered s p a before ≡ claim_answered ws p a before
  answered_same p (Ok (Say.Claimed (Some (t, v)))) before = claimed_same t p.cron
  answered_same p (Ok reply) before = refl
  answered_same p (Err e) before = refl

  -- What is claimed after the answer to any call is the same by the content as by the writes.
  after_same : (call : Call) (a : Result Reply Refusal) (before : Option Claimed)
      → state.claim_after s call a before ≡ claim_after ws call a before
  after_same (Of.Claim p) a before = answered_same p a before
  after_same call a before = refl

-- In a legal history a caller's last accepted claim is the same by the state and by looking back.
claim_same : (window : ℕ) (h : List Told) → IsLegal window h → (w : ℕ) → state.claim_of window h w ≡ claim_of h w
claim_same window [] l w = refl
claim_same window (e ∷ h) l w =
    ap (λ (c : Option Claimed). cond (w == e.caller.number)
    (state.claim_after (state_of window h).store e.call e.answer c) c) (claim_same window h l.2 w)
    ∙ ap (λ (c : Option Claimed). cond (w == e.caller.number) c (claim_of h w))
    (after_same (writes h) (state_of window h).store (store_agrees window h l.2) e.call e.answer (claim_of h w))

-- In a legal history the claims that Jobs were made for are the same by state and by looking back.
makes_same : (window : ℕ) (h : List Told) → IsLegal window h → state.makes window h ≡ makes h
makes_same window [] l = refl
makes_same window (e ∷ h) l =
    ap (λ (c : Option Claimed). with_made (is_making e) c (state.makes window h))
    (claim_same window h l.2 e.caller.number)
    ∙ ap (with_made (is_making e) (claim_of h e.caller.number)) (makes_same window h l.2)

-- Once by the state is Once by looking back: each Job rests on a claim of a time of its own.
once_same : (window : ℕ) (h : List Told) → IsLegal window h → state.Once window h → Once h
once_same window [] l o = tt
once_same window (e ∷ h) l o = (
  (λ m. let c = o.0 m in (c.0, sym (claim_same window h l.2 e.caller.number) ∙ c.1, subst (IsNew c.0) (makes_same window h l.2) c.2)),
  once_same window h l.2 o.1,
)

-- Alone by the state is Alone by looking back: no unfinished Job beside one that must be alone.
alone_same : (window : ℕ) (h : List Told) → IsLegal window h → state.Alone window h → Alone h
alone_same window [] l o = tt
alone_same window (e ∷ h) l o = (
  (λ m c at strict q j there. o.0 m c (claim_same window h l.2 e.caller.number ∙ at) strict q j
      ((store_agrees window h l.2).jobs q ∙ there)),
  alone_same window h l.2 o.1,
)

-- For once_law: in a lawful history no time gets two Jobs, and strict ones are made alone.
pub once_and_alone : OnceAndAlone
once_and_alone window h short l planned =
    let r : IsLegal window h = legal window h l in
    let b = both window h short r planned in
    (once_same window h r b.0, alone_same window h r b.1)
