-- Calls of one pass, one after the other.
use Rattle.std.proofs.Common.{◌≡◌, ℕ, Bool, true, false, IsTrue, List, [], ◌∷◌, ◌++◌, map, refl, ap, sym, subst, ◌∙◌, append_assoc}
use Rattle.std.proofs.lemmas.List.{append-nil, map-append, map_push}
use Rattle.std.proofs.lemmas.List.Elements.{filter-append}
use Rattle.std.specs.List.{AllByRecursion, filter}
use Rattle.cj_calls.specs.Rows.{Told}
use Rattle.cj_calls.specs.declared.call.Call.{Call}
use Rattle.cj_world.specs.Worlds.{WorldLog}
use Rattle.cj_hub.specs.Receipts.{PassView, caller_of, with_receipt}
use Rattle.cj_hub.specs.Runs.{more, extended}
use Rattle.cj_hub.specs.declared.receipt.Receipt.{Receipt}
use Rattle.cj_runner.specs.Dues.{is_due, end_call, due_ends}
use Rattle.cj_runner.specs.Ends.{Keeps, calls_of, entries_of}
use Rattle.cj_runner.specs.Shares.{Makes}
use Rattle.cj_runner.specs.declared.running.Running.{Running}

-- ---- which ends are due

-- The ends due in two lists joined are those due in the one and then those due in the other.
pub due-append : (now : ℕ) (xs ys : List Running) → due_ends now (xs ++ ys) ≡ due_ends now xs ++ due_ends now ys
due-append now xs ys = ap (λ (rs : List Running). map (end_call now) rs) (filter-append (is_due now) xs ys)
    ∙ map-append (end_call now) (filter (is_due now) xs) (filter (is_due now) ys)

-- A Job that is due, put behind a list, puts its end behind the ends due there.
pub due_yes : (now : ℕ) (xs : List Running) (x : Running) → is_due now x ≡ true
    → due_ends now (xs ++ x ∷ []) ≡ due_ends now xs ++ end_call now x ∷ []
due_yes now xs x is = due-append now xs (x ∷ []) ∙ ap (λ cs. due_ends now xs ++ cs) (rw is refl)

-- A Job that isn't due, put behind a list, leaves the ends due there as they are.
pub due_no : (now : ℕ) (xs : List Running) (x : Running) → is_due now x ≡ false
    → due_ends now (xs ++ x ∷ []) ≡ due_ends now xs
due_no now xs x is = due-append now xs (x ∷ []) ∙ ap (λ cs. due_ends now xs ++ cs) (rw is refl)
    ∙ append-nil (due_ends now xs)

-- ---- one call more

-- What holds of each of a list and of one more holds of each with that one behind the list.
pub all_more : {X : Type 0} (P : X → Type 0) (xs : List X) (x : X) → AllByRecursion P xs → P x
    → AllByRecursion P (xs ++ x ∷ [])
all_more P [] x h one = (one, tt)
all_more P (y ∷ ys) x h one = (h.0, all_more P ys x h.1 one)

-- The last of the entries that a history gains stands at its front.
more_last : (h es : List Told) (e : Told) → more h (es ++ e ∷ []) ≡ e ∷ more h es
more_last h [] e = refl
more_last h (x ∷ es) e = more_last (x ∷ h) es e

-- For end_share: a pass that has some receipts more has, after one call more, that call's receipt
-- too.
pub keeps_more : {t : Bool} {w w' : WorldLog} {p p1 p2 : PassView} {call : Call} {rs rs' : List Receipt} → Keeps p p1 rs
    → Makes t w w' p1 p2 call rs rs' → Keeps p p2 rs'
keeps_more {p = p} {rs = rs} k m = record {
  own =
      let same : m.receipt.entry.caller ≡ caller_of p = m.own ∙ ap caller_of k.kept in
      subst (λ (qs : List Receipt). AllByRecursion (λ r. r.entry.caller ≡ caller_of p) qs) (sym m.added)
      (all_more (λ r. r.entry.caller ≡ caller_of p) rs m.receipt k.own same);
  kept =
      m.kept ∙ ap (λ (q : PassView). with_receipt q m.receipt) k.kept ∙ ap
      (λ (qs : List Receipt). record p { receipts = qs }) (append_assoc p.receipts rs (m.receipt ∷ []))
      ∙ ap (λ (qs : List Receipt). record p { receipts = p.receipts ++ qs }) (sym m.added);
}

-- For end_share: a history that is told gained, after one call more, the entries of all receipts.
pub told_more : {t : Bool} {w w' : WorldLog} {p1 p2 : PassView} {call : Call} {rs rs' : List Receipt} (w0 : WorldLog)
    → (IsTrue t → w ≡ extended w0 (entries_of rs)) → Makes t w w' p1 p2 call rs rs'
    → IsTrue t → w' ≡ extended w0 (entries_of rs')
told_more {rs = rs} w0 told m is =
    let e = m.receipt.entry in
    m.told is ∙ ap (λ (x : WorldLog). record x { history = e ∷ x.history }) (told is)
    ∙ ap (λ (h : List Told). record w0 { history = h }) (sym (more_last w0.history (entries_of rs) e))
    ∙ ap (λ (es : List Told). extended w0 es) (sym (map_push (λ (r : Receipt). r.entry) rs m.receipt))
    ∙ ap (λ (qs : List Receipt). extended w0 (entries_of qs)) (sym m.added)

-- For end_share: the calls of the receipts have, after one call more, that call behind them.
pub calls_more : {t : Bool} {w w' : WorldLog} {p1 p2 : PassView} {call : Call} {rs rs' : List Receipt} (cs : List Call)
    → calls_of rs ≡ cs → Makes t w w' p1 p2 call rs rs' → calls_of rs' ≡ cs ++ call ∷ []
calls_more {call = call} {rs = rs} cs so_far m =
    ap calls_of m.added ∙ map_push (λ (r : Receipt). r.entry.call) rs m.receipt
    ∙ ap (λ (c : Call). calls_of rs ++ c ∷ []) m.call_is ∙ ap (λ (ds : List Call). ds ++ call ∷ []) so_far
