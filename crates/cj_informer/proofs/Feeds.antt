-- Feeds after a listing, one after the other.
use Rattle.std.proofs.Common.{◌≡◌, ℕ, ◌<◌, ◌≤◌, Bool, true, false, nat_lt, List, [], ◌∷◌, ◌++◌, Option, Some, None, Result, Ok, Err, map, refl, ap, sym, subst, ◌∙◌, arith}
use Rattle.std.proofs.lemmas.Bool.Decides.{nat_tests}
use Rattle.std.specs.Prelude.{MatchBool}
use Rattle.cj_base.specs.declared.refusal.Refusal.{Refusal}
use Rattle.cj_calls.specs.Rows.{Told}
use Rattle.cj_calls.specs.declared.call.Call.TheVariants as Of
use Rattle.cj_calls.specs.declared.reply.Reply.TheVariants as Is
use Rattle.cj_informer.specs.Exchanges.{Exchange, exchanges, BreaksOff, Says}
use Rattle.cj_informer.specs.Informs.{AreFeeds, wants_more, feed}
use Rattle.cj_informer.specs.Outcomes.{HasFed}
use Rattle.cj_informer.proofs.Goes.{goes-then, refused-first}

-- an answer that is above the one before it, if there is one
abbrev pub is_above : Option ℕ → ℕ → Bool
is_above None fed = true
is_above (Some before) fed = nat_lt before fed

-- after each of these answers there is another Feed, and the last of all is above them
abbrev pub Leads : ℕ → Option ℕ → List ℕ → ℕ → Type 0
Leads wanted before [] fed = is_above before fed ≡ true
Leads wanted before (f ∷ fs) fed = (wants_more wanted before f ≡ true) × Leads wanted (Some f) fs fed

-- Feeds so far, of which this is the last answer
pub record IsFeeding (max wanted fed : ℕ) (es : List Told) : Type 0 where
  pub feds : List ℕ
  pub leads : Leads wanted None feds fed
  pub entered : exchanges es ≡ map (feed max) (feds ++ fed ∷ [])

-- Where the test is true, the first of the two facts is enough.
match_true : (b : Bool) (P Q : Type 0) → b ≡ true → P → MatchBool b P Q
match_true true P Q is p = p
match_true false P Q is p = absurd (cc is)

-- Where the test is false, the second of the two facts is enough.
match_false : (b : Bool) (P Q : Type 0) → b ≡ false → Q → MatchBool b P Q
match_false true P Q is q = absurd (cc is)
match_false false P Q is q = q

-- After an answer above the one before it and below the version wanted there is another Feed.
wants : (wanted : ℕ) (before : Option ℕ) (fed : ℕ) → is_above before fed ≡ true → fed < wanted
    → wants_more wanted before fed ≡ true
wants wanted None fed above lt = grind (arith, nat_tests)
wants wanted (Some b) fed above lt = grind (arith, nat_tests)

-- After an answer that reaches the version wanted there is no other Feed.
wants_none : (wanted : ℕ) (before : Option ℕ) (fed : ℕ) → wanted ≤ fed → wants_more wanted before fed ≡ false
wants_none wanted None fed le = grind (arith, nat_tests)
wants_none wanted (Some b) fed le = grind (arith, nat_tests)

-- a Feed that reaches the version is the last
pub ends_at : (wanted : ℕ) (before : Option ℕ) (fed : ℕ) → wanted ≤ fed → AreFeeds wanted before (fed ∷ [])
ends_at wanted before fed le = match_false (wants_more wanted before fed) (AreFeeds wanted (Some fed) []) ([] ≡ [])
    (wants_none wanted before fed le) refl

-- and so is one that brings nothing more
pub ends_below : (wanted b fed : ℕ) → fed ≤ b → AreFeeds wanted (Some b) (fed ∷ [])
ends_below wanted b fed le = match_false (wants_more wanted (Some b) fed) (AreFeeds wanted (Some fed) []) ([] ≡ [])
    (grind (arith, nat_tests)) refl

-- Answers that lead on to one below the version wanted are, with the Feeds after it, all the Feeds.
pub goes_on : (wanted : ℕ) (before : Option ℕ) (feds : List ℕ) (fed : ℕ) (tail : List ℕ) → Leads wanted before feds fed
    → fed < wanted → AreFeeds wanted (Some fed) tail → AreFeeds wanted before (feds ++ fed ∷ tail)
goes_on wanted before [] fed tail leads lt rest = match_true (wants_more wanted before fed)
    (AreFeeds wanted (Some fed) tail) (tail ≡ []) (wants wanted before fed leads lt) rest
goes_on wanted before (f ∷ fs) fed tail leads lt rest =
    match_true (wants_more wanted before f) (AreFeeds wanted (Some f) (fs ++ fed ∷ tail))
    ((fs ++ fed ∷ tail) ≡ []) leads.0 (goes_on wanted (Some f) fs fed tail leads.1 lt rest)

-- Answers that lead on to one that reaches the version wanted are, with it, all the Feeds.
ends : (wanted : ℕ) (before : Option ℕ) (feds : List ℕ) (fed : ℕ) → Leads wanted before feds fed → wanted ≤ fed
    → AreFeeds wanted before (feds ++ fed ∷ [])
ends wanted before [] fed leads le = ends_at wanted before fed le
ends wanted before (f ∷ fs) fed leads le =
    match_true (wants_more wanted before f) (AreFeeds wanted (Some f) (fs ++ fed ∷ [])) ((fs ++ fed ∷ []) ≡ []) leads.0
    (ends wanted (Some f) fs fed leads.1 le)

-- Answers that lead on to one below the version wanted lead on, with it, to a greater one.
leads-more : (wanted : ℕ) (before : Option ℕ) (feds : List ℕ) (fed next : ℕ) → Leads wanted before feds fed
    → fed < wanted → fed < next → Leads wanted before (feds ++ fed ∷ []) next
leads-more wanted before [] fed next leads lt up = (wants wanted before fed leads lt, grind (arith, nat_tests))
leads-more wanted before (f ∷ fs) fed next leads lt up = (leads.0, leads-more wanted (Some f) fs fed next leads.1 lt up)

-- ---- the loop

-- For feed_up_to: the first Feed, where it is accepted, is the only one so far.
pub first_fed : (max wanted fed : ℕ) (es : List Told) → Says (Of.Feed max) (λ v. Is.Version v) (Ok fed) es
    → IsFeeding max wanted fed es
first_fed max wanted fed es h = record { feds = []; leads = refl; entered = h }

-- For feed_up_to: where the first Feed is refused, the Feeds break off at once.
pub first_refused : (max wanted : ℕ) (e : Refusal) (es : List Told)
    → Says {X = ℕ} (Of.Feed max) (λ v. Is.Version v) (Err e) es → HasFed max wanted (Err e) es
first_refused max wanted e es h = record {
  feds = wanted ∷ [];
  enough = ends_at wanted None wanted (omega arith);
  goes = refused-first (feed max wanted) [] e es h;
}

-- The exchanges of some Feeds are those up to an answer, and then those of the answers after it.
again : (max fed : ℕ) (feds tail : List ℕ) → map (feed max) (feds ++ fed ∷ tail) ≡ map (feed max) (feds ++ fed ∷ [])
    ++ map (feed max) tail
again max fed [] tail = refl
again max fed (f ∷ fs) tail = ap (λ (xs : List Exchange). feed max f ∷ xs) (again max fed fs tail)

-- a result that is none
abbrev done : Result (Unit {0}) Refusal
done = Ok tt

-- With one Feed more that is accepted, the exchanges are those of the Feeds so far and of this one.
entered_more : (max fed next : ℕ) (feds : List ℕ) (es fs : List Told) → exchanges es ≡ map (feed max) (feds ++ fed ∷ [])
    → exchanges fs ≡ feed max next ∷ [] → exchanges (es ++ fs) ≡ map (feed max) (feds ++ fed ∷ next ∷ [])
entered_more max fed next feds es fs so_far one =
    goes-then (map (feed max) (feds ++ fed ∷ [])) (feed max next ∷ []) done es fs so_far one
    ∙ sym (again max fed feds (next ∷ []))

-- An answer put behind a row that ends with another is the row with both put behind it.
regroup : (feds : List ℕ) (fed next : ℕ) → (feds ++ fed ∷ []) ++ next ∷ [] ≡ feds ++ fed ∷ next ∷ []
regroup [] fed next = refl
regroup (f ∷ fs) fed next = ap (λ (xs : List ℕ). f ∷ xs) (regroup fs fed next)

-- For feed_up_to: where more was wanted, a Feed that brings more is one more of the Feeds so far.
pub fed_more : (max wanted fed next : ℕ) (es fs : List Told) → fed < wanted → fed < next → IsFeeding max wanted fed es
    → exchanges fs ≡ feed max next ∷ [] → IsFeeding max wanted next (es ++ fs)
fed_more max wanted fed next es fs lt up so_far one = record {
  feds = so_far.feds ++ fed ∷ [];
  leads = leads-more wanted None so_far.feds fed next so_far.leads lt up;
  entered = entered_more max fed next so_far.feds es fs so_far.entered one
      ∙ ap (map (feed max)) (sym (regroup so_far.feds fed next));
}

-- For feed_up_to: a Feed that brings nothing more is the last, and all Feeds are made.
pub fed_stuck : (max wanted fed next : ℕ) (es fs : List Told) → fed < wanted → next ≤ fed → IsFeeding max wanted fed es
    → exchanges fs ≡ feed max next ∷ [] → HasFed max wanted (Ok tt) (es ++ fs)
fed_stuck max wanted fed next es fs lt le so_far one = record {
  feds = so_far.feds ++ fed ∷ next ∷ [];
  enough = goes_on wanted None so_far.feds fed (next ∷ []) so_far.leads lt (ends_below wanted fed next le);
  goes = entered_more max fed next so_far.feds es fs so_far.entered one;
}

-- For feed_up_to: where a Feed after others is refused, the Feeds break off there.
pub fed_refused : (max wanted fed : ℕ) (e : Refusal) (es fs : List Told) → fed < wanted → IsFeeding max wanted fed es
    → Says {X = ℕ} (Of.Feed max) (λ v. Is.Version v) (Err e) fs → HasFed max wanted (Err e) (es ++ fs)
fed_refused max wanted fed e es fs lt so_far one = record {
  feds = so_far.feds ++ fed ∷ wanted ∷ [];
  enough = goes_on wanted None so_far.feds fed (wanted ∷ []) so_far.leads lt
      (ends_at wanted (Some fed) wanted (omega arith));
  goes =
      let P : List Exchange → Type 0 = λ xs. BreaksOff xs e (es ++ fs) in
      subst P (sym (again max fed so_far.feds (wanted ∷ [])))
      (goes-then {X = ℕ} (map (feed max) (so_far.feds ++ fed ∷ [])) (feed max wanted ∷ []) (Err e) es fs so_far.entered
      (refused-first (feed max wanted) [] e fs one));
}

-- For feed_up_to: where the last answer reaches the version wanted, all Feeds are made.
pub fed_enough : (max wanted fed : ℕ) (es : List Told) → wanted ≤ fed → IsFeeding max wanted fed es
    → HasFed max wanted (Ok tt) es
fed_enough max wanted fed es le so_far = record {
  feds = so_far.feds ++ fed
      ∷ [];
  enough = ends wanted None so_far.feds fed so_far.leads le;
  goes = so_far.entered;
}
