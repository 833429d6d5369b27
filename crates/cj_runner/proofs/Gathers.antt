-- What comes back, put together one share after the other.
use Rattle.std.proofs.Common.{◌≡◌, List, [], ◌∷◌, ◌++◌, Option, Some, None, IsSome, map, ap, sym, subst, ◌∙◌, inl, inr}
use Rattle.std.proofs.lemmas.List.{map_push, flat_map_more}
use Rattle.cj_hub.specs.Receipts.{PassView}
use Rattle.cj_hub.specs.declared.receipt.Receipt.{Receipt}
use Rattle.cj_runner.specs.Ends.{IsPart}
use Rattle.cj_runner.specs.Shares.{AreAll, IsGathered, Keeping, Loses, TakesUp}
use Rattle.cj_runner.specs.declared.ending.Stop.{Stop}
use Rattle.cj_runner.specs.declared.gather.Gathered.{Gathered}
use Rattle.cj_runner.specs.declared.threads.ShareEnd.{ShareEnd}
use Rattle.cj_runner.proofs.Calls.{all_more}
use Rattle.cj_runner.proofs.Parts.{part_before, part_kept}

-- There is no reason to stop where the reason is None.
not_some : (o : Option Stop) → o ≡ None → IsSome o → ⊥
not_some None is some = cc
not_some (Some x) is some = cc

-- For kept_after: where all shares came back without a reason to stop, so they have with one more
-- that has none.
all_after : (ends : List (Option ShareEnd)) (kept : List ShareEnd) (e : ShareEnd) (rs rs' : List Receipt)
    → AreAll ends kept rs → e.ends.stop ≡ None → rs' ≡ rs ++ e.ends.receipts.items
    → AreAll (ends ++ Some e ∷ []) (kept ++ e ∷ []) rs'
all_after ends kept e rs rs' a quiet joined = record {
  all = ap (λ (xs : List (Option ShareEnd)). xs ++ Some e ∷ []) a.all ∙ sym
      (map_push (λ (x : ShareEnd). Some x) kept e);
  quiet = all_more (λ x. x.ends.stop ≡ None) kept e a.quiet quiet;
  joined = joined ∙ ap (λ (xs : List Receipt). xs ++ e.ends.receipts.items) a.joined
      ∙ flat_map_more (λ x. x.ends.receipts.items) [] kept e;
}

-- What was gathered of some shares is gathered with one more of which nothing is kept, for a
-- reason.
lost_after : (ends : List (Option ShareEnd)) (o : Option ShareEnd) (g g' : Gathered) → IsGathered ends g → Loses g g'
    → IsGathered (ends ++ o ∷ []) g'
lost_after ends o g g' h l = record {
  kept = h.kept;
  part = part_before (map (λ (x : ShareEnd). Some x) h.kept) ends (o ∷ []) h.part;
  passes = l.passes ∙ h.passes;
  whole = λ none. absurd (not_some g'.stop none l.stop);
}

-- What was gathered of some shares is gathered with one more whose pass is kept.
kept_after : (ends : List (Option ShareEnd)) (e : ShareEnd) (g g' : Gathered) → IsGathered ends g → Keeping g e g'
    → IsGathered (ends ++ Some e ∷ []) g'
kept_after ends e g g' h k = record {
  kept = h.kept ++ e ∷ [];
  part =
      subst (λ (xs : List (Option ShareEnd)). IsPart xs (ends ++ Some e ∷ []))
      (sym (map_push (λ (x : ShareEnd). Some x) h.kept e))
      (part_kept (map (λ (x : ShareEnd). Some x) h.kept) ends (Some e) h.part);
  passes = k.passes ∙ ap (λ (ps : List PassView). ps ++ e.pass ∷ []) h.passes
      ∙ sym (map_push (λ (x : ShareEnd). x.pass) h.kept e);
  whole = λ none. let j = k.joins none in all_after ends h.kept e g.receipts.items g'.receipts.items
      (h.whole j.before) j.stop j.receipts;
}

-- For gather: what was gathered of some shares is gathered with one more, whatever came of it.
pub gathered_more : (ends : List (Option ShareEnd)) (o : Option ShareEnd) (g g' : Gathered) → IsGathered ends g
    → TakesUp g o g' → IsGathered (ends ++ o ∷ []) g'
gathered_more ends None g g' h t = lost_after ends None g g' h t
gathered_more ends (Some e) g g' h t = elim t [
  | inl k ↦ kept_after ends e g g' h k
  | inr l ↦ lost_after ends
      (Some e) g g' h l
]
