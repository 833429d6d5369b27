-- Entries gained in parts.
use Rattle.std.proofs.Common.{◌≡◌, Bool, true, false, IsTrue, List, [], ◌∷◌, ◌++◌, map, refl, ap, sym, ◌∙◌, append_assoc, subst}
use Rattle.std.proofs.lemmas.List.{append-nil}
use Rattle.std.specs.List.{AllByRecursion}
use Rattle.std.specs.Prelude.{Result, Ok, Err, IsOk, IsErr, is_ok}
use Rattle.cj_base.specs.declared.refusal.Refusal.{Refusal}
use Rattle.cj_calls.specs.declared.call.Call.{Call}
use Rattle.cj_calls.specs.declared.reply.Reply.{Reply}
use Rattle.cj_calls.specs.Rows.{Told, is_in_row}
use Rattle.cj_calls.specs.declared.caller.Caller.{Caller}
use Rattle.cj_world.specs.Worlds.{WorldLog}
use Rattle.cj_hub.specs.declared.receipt.Receipt.{Receipt}
use Rattle.cj_hub.specs.Receipts.{PassView, caller_of}
use Rattle.cj_hub.specs.Runs.{more, extended, Gains, Adds, IsOne}

-- The entries of two lists of receipts together are those of the one and then those of the other.
entries-append : (rs qs : List Receipt) → map (λ r. r.entry) (rs ++ qs) ≡ map (λ r. r.entry) rs ++ map (λ r. r.entry) qs
entries-append [] qs = refl
entries-append (r ∷ rs) qs = ap (λ es. r.entry ∷ es) (entries-append rs qs)

-- A history with some entries more and then others more is the history with all of them more.
more-append : (h es fs : List Told) → more (more h es) fs ≡ more h (es ++ fs)
more-append h [] fs = refl
more-append h (e ∷ es) fs = more-append (e ∷ h) es fs

-- Where each entry of two lists is by one caller, so is each of the two together.
own-append : (c : Caller) (es fs : List Told) → AllByRecursion (λ e. e.caller ≡ c) es
    → AllByRecursion (λ e. e.caller ≡ c) fs → AllByRecursion (λ e. e.caller ≡ c) (es ++ fs)
own-append c [] fs one two = two
own-append c (e ∷ es) fs one two = (one.0, own-append c es fs one.1 two)

-- What a pass gains first and what it gains next, it gains in all.
pub gains-then : (t : Bool) (w w1 w2 : WorldLog) (p p1 p2 : PassView) (es fs : List Told) → Gains t w w1 p p1 es
    → Gains t w1 w2 p1 p2 fs → Gains t w w2 p p2 (es ++ fs)
gains-then t w w1 w2 p p1 p2 es fs one two = record {
  told = λ is. two.told is ∙ ap (λ x. extended x fs) (one.told is) ∙ ap (λ (h : List Told). record w { history = h })
      (more-append w.history es fs);
  news = one.news ++ two.news;
  entries = entries-append one.news two.news ∙ ap (λ x. x ++ map (λ r. r.entry) two.news) one.entries
      ∙ ap (λ x. es ++ x) two.entries;
  own = own-append (caller_of p) es fs one.own (subst (λ (c : Caller). AllByRecursion (λ e. e.caller ≡ c) fs)
      (ap caller_of one.kept) two.own);
  kept = two.kept ∙ ap (λ (q : PassView). record q { receipts = q.receipts ++ two.news }) one.kept
      ∙ ap (λ (rs : List Receipt). record p { receipts = rs }) (append_assoc p.receipts one.news two.news);
}

-- What is added first and what next is added in all, and meets what follows of the two together.
pub adds-then : {F G H : List Told → Type 0} {t : Bool} {w w1 w2 : WorldLog} {p p1 p2 : PassView} → Adds t w w1 p p1 F
    → Adds t w1 w2 p1 p2 G
    → ((es fs : List Told) → F es → G fs → H (es ++ fs)) → Adds t w w2 p p2 H
adds-then {t = t} {w = w} {w1 = w1} {w2 = w2} {p = p} {p1 = p1} {p2 = p2} one two join = record {
  entries = one.entries ++ two.entries;
  gains = gains-then t w w1 w2 p p1 p2 one.entries two.entries one.gains two.gains;
  meets = join one.entries two.entries one.meets two.meets;
}

-- Entries that were added and meet F meet whatever follows from F.
pub adds-weaker : {F H : List Told → Type 0} {t : Bool} {w w1 : WorldLog} {p p1 : PassView} → Adds t w w1 p p1 F
    → ((es : List Told) → F es → H es) → Adds t w w1 p p1 H
adds-weaker one more = record { entries = one.entries; gains = one.gains; meets = more one.entries one.meets }

-- nothing was entered
pub adds-none : {F : List Told → Type 0} (t : Bool) (w w1 : WorldLog) (p p1 : PassView) → (IsTrue t → w1 ≡ w) → p1 ≡ p
    → F [] → Adds t w w1 p p1 F
adds-none t w w1 p p1 same kept fact = record {
  entries = [];
  gains = record {
    told = same;
    news = [];
    entries = refl;
    own = tt;
    kept = kept ∙ ap (λ (rs : List Receipt). record p { receipts = rs }) (sym (append-nil p.receipts));
  };
  meets = fact;
}

-- one entry was made
pub adds-one : {F : List Told → Type 0} (t : Bool) (w w1 : WorldLog) (p p1 : PassView) (r : Receipt)
    → (IsTrue t → w1 ≡ record w { history = r.entry ∷ w.history }) → r.entry.caller ≡ caller_of p
    → p1 ≡ record p { receipts = p.receipts ++ r ∷ [] } → F (r.entry ∷ []) → Adds t w w1 p p1 F
adds-one t w w1 p p1 r told own kept fact = record {
  entries = r.entry ∷ [];
  gains = record { told = told; news = r ∷ []; entries = refl; own = (own, tt); kept = kept };
  meets = fact;
}

-- ---- one answer

-- An answer of which is_ok is true is a reply.
is_ok_of : (a : Result Reply Refusal) → is_ok a ≡ true → IsOk a
is_ok_of (Ok r) e = refl
is_ok_of (Err r) e = absurd (cc e)

-- An answer of which is_ok is false is a refusal.
is_err_of : (a : Result Reply Refusal) → is_ok a ≡ false → IsErr a
is_err_of (Ok r) e = absurd (cc e)
is_err_of (Err r) e = refl

-- For ask: the entry of an accepted call is one entry of this call, with a reply.
pub accepted : (call : Call) (r : Receipt) (answer : Result Reply Refusal) → answer ≡ r.entry.answer
    → is_ok answer ≡ true → r.entry.call ≡ call → IsTrue (is_in_row call r.entry.answer)
    → IsOne call (λ a. IsOk a × (a ≡ r.entry.answer)) (r.entry ∷ [])
accepted call r answer same ok of row = record {
  entry = r.entry;
  only = refl;
  of = of;
  says =
      (is_ok_of r.entry.answer (ap is_ok (sym same) ∙ ok), refl);
  row = row;
}

-- For ask: the entry of a call that wasn't accepted is one entry of this call, with a refusal.
pub not_accepted : (call : Call) (r : Receipt) (answer : Result Reply Refusal) → answer ≡ r.entry.answer
    → is_ok answer ≡ false → r.entry.call ≡ call → IsTrue (is_in_row call r.entry.answer)
    → IsOne call (λ a. IsErr a × (a ≡ r.entry.answer)) (r.entry ∷ [])
not_accepted call r answer same ok of row = record {
  entry = r.entry;
  only = refl;
  of = of;
  says =
      (is_err_of r.entry.answer (ap is_ok (sym same) ∙ ok), refl);
  row = row;
}
