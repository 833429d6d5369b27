-- What is done through a pass, one operation after the other.
use Rattle.std.proofs.Common.{◌≡◌, ◌+◌, ◌<◌, ◌∙◌, ℕ, ◌==◌, List, [], ◌∷◌, ◌++◌, length, get_or, take, map, add-one, sym, ap, subst, append_assoc, append-nil}
use Rattle.std.specs.List.{AllZip, filter}
use Rattle.std.proofs.lemmas.List.{map-append, take_more}
use Rattle.std.proofs.lemmas.List.Elements.{filter-append}
use Rattle.cj_types.specs.declared.cron.CronJobDraft.{CronJobDraft}
use Rattle.cj_zone.specs.declared.table.ZoneTable.{ZoneTable}
use Rattle.cj_calls.specs.declared.call.Call.{Call}
use Rattle.cj_calls.specs.declared.caller.Caller.{Caller}
use Rattle.cj_calls.specs.declared.caller.Role.{Role}
use Rattle.cj_script.specs.declared.operations.operation.Operation.{Operation}
use Rattle.cj_hub.specs.Receipts.{PassView}
use Rattle.cj_hub.specs.declared.receipt.Receipt.{Receipt}
use Rattle.cj_script.specs.simulation.Spans.{instant}
use Rattle.cj_script.specs.declared.simulation.scenario.Simulation.{Simulation}
use Rattle.cj_script.specs.declared.simulation.scenario.Edit.{Edit}
use Rattle.cj_script.specs.operations.Calls.{IsUnseenCall}
use Rattle.cj_run.specs.Simulations.{operations_below, creation, creations, edits_at}
use Rattle.cj_run.specs.Actions.{AreOf, Called, Does, IsOf}

-- A pass that stays as it was did no operation.
pub does_nothing : (zones : ZoneTable) (p : PassView) → Does zones [] p p
does_nothing zones p = record {
  news = [];
  kept = ap (λ (rs : List Receipt). record p { receipts = rs })
      (sym (append-nil p.receipts));
  are = tt;
}

-- A pass that got the receipt of an operation's call did that operation.
pub does_call : (zones : ZoneTable) (operation : Operation) (call : Call) (p p' : PassView)
    → IsUnseenCall zones operation call
    → Called call p p' → Does zones (operation ∷ []) p p'
does_call zones operation call p p' is m = record {
  news = m.receipt ∷ [];
  kept = m.is.kept;
  are = (
    (
      subst (λ (c : Call). IsUnseenCall zones operation c) (sym m.is.call_given) is,
      ap (λ (c : Caller). c.role) m.is.caller,
    ),
    tt,
  );
}

-- Two lists that match one by one still do with two such lists put behind them.
pub zip_append : {X Y : Type 0} (R : X → Y → Type 0) (xs xs' : List X) (ys ys' : List Y) → AllZip R xs ys
    → AllZip R xs' ys' → AllZip R (xs ++ xs') (ys ++ ys')
zip_append R [] xs' [] ys' h h' = h'
zip_append R [] xs' (y ∷ ys) ys' h h' = absurd h
zip_append R (x ∷ xs) xs' [] ys' h h' = absurd h
zip_append R (x ∷ xs) xs' (y ∷ ys) ys' h h' = (h.0, zip_append R xs xs' ys ys' h.1 h')

-- For does_then: what is of a pass's role is of its role after its receipts.
same_role : (zones : ZoneTable) (operations : List Operation) (p q : PassView) (news rs : List Receipt)
    → q ≡ record p { receipts = p.receipts ++ news } → AreOf q.role zones operations rs
    → AreOf p.role zones operations rs
same_role zones operations p q news rs kept are =
    subst (λ (role : Role). AreOf role zones operations rs) (ap (λ (x : PassView). x.role) kept) are

-- Receipts put behind a pass's, and then more behind those, are put behind in order.
pub kept_then : (p q r : PassView) (news news' : List Receipt) → q ≡ record p { receipts = p.receipts ++ news }
    → r ≡ record q { receipts = q.receipts ++ news' }
    → r ≡ record p { receipts = p.receipts ++ (news ++ news') }
kept_then p q r news news' one two =
    two ∙ ap (λ (x : PassView). record x { receipts = x.receipts ++ news' }) one
    ∙ ap (λ (rs : List Receipt). record p { receipts = rs }) (append_assoc p.receipts news news')

-- A pass that did some operations and then some more did the ones and the others, in their order.
pub does_then : (zones : ZoneTable) (operations operations' : List Operation) (p q r : PassView)
    → Does zones operations p q
    → Does zones operations' q r → Does zones (operations ++ operations') p r
does_then zones operations operations' p q r a b = record {
  news = a.news ++ b.news;
  kept = kept_then p q r a.news b.news a.kept b.kept;
  are = zip_append (IsOf p.role zones) operations operations' a.news b.news a.are
      (same_role zones operations' p q a.news b.news a.kept b.are);
}

-- ---- one more of a list

-- At an instant, two joined lists have the operations of the one, then of the other.
pub edits_append : (es es' : List Edit) (at : ℕ) → edits_at (es ++ es') at ≡ edits_at es at ++ edits_at es' at
unfolding edits_at
edits_append es es' at = ap (map (λ (e : Edit). e.operation)) (filter-append (λ (e : Edit). e.at == at) es es')
    ∙ map-append (λ (e : Edit). e.operation) (filter (λ (e : Edit). e.at == at) es)
    (filter (λ (e : Edit). e.at == at) es')

module _ (zones : ZoneTable) (p q r : PassView) (i : ℕ) where
  -- For create_all: with the CronJobs of the first i drafts created, then the next draft's, those
  -- of the first i + 1 are.
  pub create_more : (at : ℕ) (drafts : List CronJobDraft) (draft : CronJobDraft) → i < length drafts
      → draft ≡ get_or drafts i draft
      → Does zones (creations at (take i drafts)) p q → Does zones (creation at draft ∷ []) q r
      → Does zones (creations at (take (i + 1) drafts)) p r
  create_more at drafts draft lt is a b =
      subst (λ (operations : List Operation). Does zones operations p r)
      (sym (ap (creations at) (take_more drafts i draft lt ∙ ap (λ (x : CronJobDraft). take i drafts ++ x ∷ [])
      (sym is)) ∙ map-append (creation at) (take i drafts) (draft ∷ [])))
      (does_then zones (creations at (take i drafts)) (creation at draft ∷ []) p q r a b)

  -- For edit_all: with the operations at an instant of the first i edits done and then the next edit's,
  -- those of the first i + 1 are.
  pub edit_more : (at : ℕ) (edits : List Edit) (edit : Edit) → i < length edits → edit ≡ get_or edits i edit
      → Does zones (edits_at (take i edits) at) p q → Does zones (edits_at (edit ∷ []) at) q r
      → Does zones (edits_at (take (i + 1) edits) at) p r
  edit_more at edits edit lt is a b =
      subst (λ (operations : List Operation). Does zones operations p r)
      (sym (ap (λ (es : List Edit). edits_at es at) (take_more edits i edit lt
      ∙ ap (λ (x : Edit). take i edits ++ x ∷ []) (sym is)) ∙ edits_append (take i edits) (edit ∷ []) at))
      (does_then zones (edits_at (take i edits) at) (edits_at (edit ∷ []) at) p q r a b)

-- For edit_all: where no edit was gone through, nothing was to be done.
pub no_edits : (zones : ZoneTable) (at : ℕ) (p : PassView) → Does zones (edits_at [] at) p p
unfolding edits_at
no_edits zones at p = does_nothing zones p

-- ---- one more instant

-- For drive: what is done in the first n instants, and then the edits of the next, is all of n + 1.
pub done_more : (simulation : Simulation) (p q r : PassView) (n : ℕ)
    → Does simulation.zones (operations_below simulation n) p q
    → Does simulation.zones (edits_at simulation.edits.items (instant simulation.span n)) q r
    → Does simulation.zones (operations_below simulation (n + 1)) p r
done_more simulation p q r n a b =
    rw (add-one) (does_then simulation.zones (operations_below simulation n)
    (edits_at simulation.edits.items (instant simulation.span n)) p q
    r a b)
