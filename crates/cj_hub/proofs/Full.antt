-- What a full history answers.
use Rattle.std.proofs.Common.{◌≡◌, ◌↔◌, true, Result, Ok, Err, refl, sym, subst}
use Rattle.std.specs.Prelude.{OnErr}
use Rattle.cj_base.specs.declared.refusal.Refusal.{Refusal}
use Rattle.cj_base.specs.declared.refusal.Refusal.TheVariants.{HistoryFull, Estranged}
use Rattle.cj_hub.specs.Books.{BookView, IsFull}
use Rattle.cj_hub.specs.Runs.{FoundFull, IsTurnedAway, TellsFull}

-- For PlainDesk::call: where a call is refused Estranged exactly where the pass isn't known, and
-- HistoryFull exactly where it is and the history is full, a full history answers one of the two.
pub no_room : {X : Type 0} (r : Result X Refusal) (K F : Type 0) → ((r ≡ Err Estranged) ↔ (K → ⊥))
    → ((r ≡ Err HistoryFull) ↔ (K × F)) → F → IsTurnedAway r
no_room (Ok x) K F strange full is = cc (strange.1 (λ k. cc (full.1 (k, is))))
no_room (Err HistoryFull) K F strange full is = tt
no_room (Err Estranged) K F strange full is = tt
no_room (Err e) K F strange full is = cc (strange.1 (λ k. cc (full.1 (k, is))))

-- For PlainDesk::call: a book that answers HistoryFull is full, and is as it was.
pub found_full : {X : Type 0} (r : Result X Refusal) (K S : Type 0) (b b' : BookView)
    → ((r ≡ Err HistoryFull) ↔ (K × IsFull b)) → OnErr r ((b' ≡ b) × S)
    → TellsFull r (FoundFull true (record { limits = b'.limits; history = b'.history }) (IsFull b'))
found_full (Ok x) K S b b' full same = tt
found_full (Err HistoryFull) K S b b' full same =
    let is : IsFull b' = subst IsFull (sym same.0) (full.0 refl).1 in (λ t. is, is)
found_full (Err e) K S b b' full same = tt
