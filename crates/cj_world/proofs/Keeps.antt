-- What a world keeps, and what one call adds.
use Rattle.std.proofs.Common.{◌≡◌, inl, inr, ℕ, ◌≤◌, ◌<◌, Bool, true, false, List, ◌∷◌, length, refl, sym, ap, subst, ◌∙◌, arith, IsTrue}
use Rattle.std.proofs.lemmas.Bool.Decides.{nat_tests}
use Rattle.std.specs.Prelude.{◌↔◌, nat_lt, Result, Ok, Err, Some, None, if◌then◌else◌}
use Rattle.cj_base.specs.declared.refusal.Refusal.{Refusal}
use Rattle.cj_base.specs.declared.refusal.Refusal.TheVariants.{Empty, HistoryFull, OutOfMemory}
use Rattle.cj_types.specs.WorldLimits.{Kept}
use Rattle.cj_store.specs.Content.{HasRoom}
use Rattle.cj_calls.specs.declared.caller.Caller.{Caller}
use Rattle.cj_calls.specs.declared.call.Call.{Call}
use Rattle.cj_calls.specs.declared.reply.Reply.{Reply}
use Rattle.cj_calls.specs.Rows.{Told, is_in_row}
use Rattle.cj_state.specs.declared.state.State.{State}
use Rattle.cj_state.specs.WorkerCalls.{Handled, handled}
use Rattle.cj_state.specs.Sound.{IsSound}
use Rattle.cj_state.specs.Step.{step_of}
use Rattle.cj_state.specs.Legal.{answer_of, is_entered, IsPlanned}
use Rattle.cj_world_laws.specs.legal.Answers.{is_empty, Fine}
use Rattle.cj_world_laws.proofs.LegalLemmas.Fine.{fine}
use Rattle.cj_world_laws.proofs.LegalLemmas.Sound.{sound_of, version_of_history}
use Rattle.cj_world.specs.Worlds.{WorldLog, told, Stands, Applied, Advanced, receipts_of, Entered}

-- ---- an answer

-- What a call answers and leaves is Fine: Empty and no change, or an entered answer of its row.
fine_of : (s : State) (caller : Caller) (call : Call) (t : Result Reply Refusal) (s' : State)
    → step_of s caller call ≡ handled t s' → Fine s call (handled t s')
fine_of s caller call t s' e = subst (Fine s call) e (fine s caller call)

module _ (s : State) (call : Call) (m : Handled) where
  -- An answer that isn't Empty is one that the call can have.
  row_in : Fine s call m → is_empty m.answer ≡ false → IsTrue (is_in_row call m.answer)
  row_in (inl f) e = absurd (cc (f.0, e))
  row_in (inr f) e = f.2

  -- An answer that isn't Empty is one that is entered.
  entered_in : Fine s call m → is_empty m.answer ≡ false → is_entered m.answer ≡ true
  entered_in (inl f) e = absurd (cc (f.0, e))
  entered_in (inr f) e = f.1

  -- Where the answer is Empty, the state is as it was.
  kept_in : Fine s call m → is_empty m.answer ≡ true → m.state ≡ s
  kept_in (inl f) e = f.1
  kept_in (inr f) e = absurd (cc (f.0, e))

-- An answer that is_empty holds of is the refusal Empty.
empty_is : (t : Result Reply Refusal) → is_empty t ≡ true → t ≡ Err Empty
empty_is (Ok r) e = absurd (cc e)
empty_is (Err Empty) e = refl
empty_is (Err x) e = absurd (cc e)

-- The refusal HistoryFull is not entered.
full_is_unentered : (t : Result Reply Refusal) → t ≡ Err HistoryFull → is_entered t ≡ false
full_is_unentered t e = ap is_entered e

-- A test that is both true and false: from this, anything follows.
no_truth : {A : Type 0} (b : Bool) → b ≡ true → b ≡ false → A
no_truth b e f = absurd (cc (e, f))

-- the answer stands in its call's row
pub row_given : (s : State) (caller : Caller) (call copy : Call)
    (t one got : Result Reply Refusal) (s' : State) (b : Bool)
    → step_of s caller call ≡ handled t s' → copy ≡ call → one ≡ t → got ≡ t → b ≡ is_empty got → b ≡ false
    → IsTrue (is_in_row copy one)
row_given s caller call copy t one got s' b step c o g e f =
    let empty : is_empty t ≡ false = ap is_empty (sym g) ∙ sym e ∙ f in
    subst (λ x. IsTrue (is_in_row x one)) (sym c)
    (subst (λ x. IsTrue (is_in_row call x)) (sym o)
    (row_in s call (handled t s') (fine_of s caller call t s' step) empty))

-- For advance: a call whose answer isn't Empty, and whose entry is added, did what Advanced says.
pub advanced_entered : (s : State) (h h' : List Told) (caller : Caller) (call : Call)
    (t got : Result Reply Refusal) (s' : State) (b : Bool)
    → step_of s caller call ≡ handled t s' → got ≡ t → b ≡ is_empty got → b ≡ false → h' ≡ told caller call got ∷ h
    → Advanced s h caller call got s' h'
advanced_entered s h h' caller call t got s' b step g e f add =
    let entered : is_entered t ≡ true = entered_in s call (handled t s') (fine_of s caller call t s' step)
    (ap is_empty (sym g) ∙ sym e ∙ f) in
    record {
      entered = λ x. (step ∙ ap (λ (r : Result Reply Refusal). handled r s') (sym g), add);
      unentered = λ x. no_truth (is_entered t) entered (ap is_entered (sym g) ∙ x);
      empty = λ x. no_truth (is_entered t) entered (ap is_entered (sym g ∙ x));
      full = λ x. no_truth (is_entered t) entered (ap is_entered (sym g ∙ x));
      other = λ x. no_truth (is_entered t) entered (ap is_entered (sym g) ∙ x);
    }

-- For advance: a call whose answer is Empty, and that adds no entry, did what Advanced says.
pub advanced_empty : (s : State) (h : List Told) (caller : Caller) (call : Call)
    (t got : Result Reply Refusal) (s' : State) (b : Bool)
    → step_of s caller call ≡ handled t s' → got ≡ t → b ≡ is_empty got → b ≡ true → Advanced s h caller call got s' h
advanced_empty s h caller call t got s' b step g e f =
    let empty : is_empty t ≡ true = ap is_empty (sym g) ∙ sym e ∙ f in
    let is : got ≡ Err Empty = g ∙ empty_is t empty in
    record {
      entered = λ x. absurd (cc (is, x));
      unentered = λ x. (kept_in s call (handled t s') (fine_of s caller call t s' step) empty, refl);
      empty = λ x. ap (λ (m : Handled). m.answer) step ∙ empty_is t empty;
      full = λ x. absurd (cc (is, x));
      other = λ x. is;
    }

-- ---- one call more

module _ (limits : Kept) (h : List Told) (s : State) (st : Stands limits h s) (room : length h < limits.history) where
  -- For World::make: where the history has room, the store has it too.
  pub room_for : HasRoom s.store
  room_for =
      let i = version_of_history limits.window h in
      let j = ap (λ (t : State). t.store.version) st.state_is in
      let k = st.small in
      omega arith

  -- For World::make: the state that the world holds is sound.
  pub sound_now : IsSound s
  sound_now = subst IsSound (sym st.state_is) (sound_of limits.window h)

  module _ (caller : Caller) (call : Call) (r : Result Reply Refusal) (s' : State) (h' : List Told) (p : IsPlanned call)
      (a : Advanced s h caller call r s' h') where
    -- An answer that is entered is the one that the history gives.
    answered : is_entered r ≡ true → r ≡ answer_of limits.window h caller call
    answered e = sym (ap (λ (m : Handled). m.answer) (a.entered e).0) ∙ ap
        (λ (x : State). (step_of x caller call).answer) st.state_is

    -- For stands_next: Stands holds after one call more, by whether its answer is entered.
    stands_by : (b : Bool) → is_entered r ≡ b → Stands limits h' s'
    stands_by true e =
        let x = a.entered e in
        subst (λ (l : List Told). Stands limits l s') (sym x.1) (record {
          legal = (answered e, e, st.legal);
          planned = (p, st.planned);
          short = omega arith;
          small = st.small;
          state_is = sym (ap (λ (m : Handled). m.state) x.0)
              ∙ ap (λ (y : State). (step_of y caller call).state) st.state_is;
        })
    stands_by false e =
        let x = a.unentered e in
        subst (λ (l : List Told). Stands limits l s') (sym x.1) (subst (Stands limits h) (sym x.0) st)

    -- After one call more, Stands holds: the history is short and legal, and leaves the state.
    pub stands_next : Stands limits h' s'
    stands_next = stands_by (is_entered r) refl

    -- One call more did what Applied says.
    pub applied_next : Applied limits h caller call r h'
    applied_next = record {
      entered = λ e. (answered e, (a.entered e).1);
      unentered = λ e. (a.unentered e).1;
      empty = λ e. ap (λ (x : State). (step_of x caller call).answer) (sym st.state_is) ∙ a.empty e;
      full = (λ e. absurd (a.full e), λ e. absurd (omega arith));
    }

-- ---- room

-- For room_left: where a test holds from l on and fails at a, a is below l.
below : (a l : ℕ) (b : Bool) → (l ≤ a → b ≡ true) → b ≡ false → a < l
below a l b e f = by (nat_lt a l) refl
  where
    by : (t : Bool) → nat_lt a l ≡ t → a < l
    by true t = grind (arith, nat_tests)
    by false t = let le : l ≤ a = grind (arith, nat_tests) in absurd (cc (e le, f))

-- For World::make: a history that isn't full has room.
pub room_left : (limits : Kept) (h : List Told) (w : WorldLog) (b : Bool) → record { limits = limits; history = h } ≡ w
    → (IsTrue b ↔ (w.limits.history ≤ length w.history)) → b ≡ false → length h < limits.history
room_left limits h w b v e f = subst (λ (x : WorldLog). length x.history < x.limits.history) (sym v)
    (below (length w.history) w.limits.history b e.1 f)

-- ---- no call

-- At a full history, to refuse with HistoryFull and add nothing is what Applied says.
pub full_applied : (limits : Kept) (h : List Told) (caller : Caller) (call : Call) → limits.history ≤ length h
    → Applied limits h caller call (Err HistoryFull) h
full_applied limits h caller call f = record {
  entered = λ e. absurd (cc e);
  unentered = λ e. refl;
  empty = λ e. absurd (cc e);
  full = (λ e. f, λ e. refl);
}

-- Where the history has room, to refuse with OutOfMemory and add nothing is what Applied says.
pub memory_applied : (limits : Kept) (h : List Told) (caller : Caller) (call : Call) → length h < limits.history
    → Applied limits h caller call (Err OutOfMemory) h
memory_applied limits h caller call f = record {
  entered = λ e. absurd (cc e);
  unentered = λ e. refl;
  empty = λ e. absurd (cc e);
  full = (λ e. absurd (cc e), λ e. absurd (omega arith));
}

-- ---- receipts

-- The two receipts of an entry with this answer.
abbrev pair : Caller → Call → Result Reply Refusal → Told × Told
pair caller call r = (told caller call r, told caller call r)

-- For advance: where the answer isn't Empty, its entry's two receipts are what receipts_of gives.
pub receipts_entered : (s : State) (caller : Caller) (call : Call)
    (t got : Result Reply Refusal) (s' : State) (b : Bool) (p : Told × Told)
    → step_of s caller call ≡ handled t s' → got ≡ t → b ≡ is_empty got → b ≡ false
    → p ≡ (told caller call got, told caller call got) → Some p ≡ receipts_of caller call got
receipts_entered s caller call t got s' b p step g e f i =
    let entered : is_entered got ≡ true = ap is_entered g ∙ entered_in s call (handled t s')
    (fine_of s caller call t s' step) (ap is_empty (sym g) ∙ sym e ∙ f) in
    ap (λ (x : Told × Told). Some x) i ∙ sym (ap
    (λ (x : Bool). if x then Some (told caller call got, told caller call got) else None) entered)

-- For advance: where the answer is Empty, receipts_of gives none.
pub receipts_empty : (caller : Caller) (call : Call) (got : Result Reply Refusal) (b : Bool) → b ≡ is_empty got
    → b ≡ true → None ≡ receipts_of caller call got
receipts_empty caller call got b e f =
    sym (ap (λ (x : Result Reply Refusal). if is_entered x then Some (told caller call x, told caller call x) else None)
    (empty_is got (sym e ∙ f)))

-- For entered_by: where receipts_of gives two, the answer is entered, and they are its entry's.
by_entered : (caller : Caller) (call : Call) (r : Result Reply Refusal) (p : Told × Told) (b : Bool) → is_entered r ≡ b
    → (if b then Some (told caller call r, told caller call r) else None) ≡ Some p
    → (is_entered r ≡ true) × (p ≡ (told caller call r, told caller call r))
by_entered caller call r p true e f = (e, cc (sym f))
by_entered caller call r p false e f = absurd (cc f)

-- For World::enter_shared: a call that has receipts was entered with them.
pub entered_by : (limits : Kept) (h : List Told) (caller : Caller) (call : Call) (r : Result Reply Refusal) (p : Told
    × Told) (h' : List Told)
    → Applied limits h caller call r h' → receipts_of caller call r ≡ Some p → Entered limits h caller call p h'
entered_by limits h caller call r p h' a e =
    let b = by_entered caller call r p (is_entered r) refl e in
    record {
      answer = r;
      is_entered = b.0;
      first = ap (λ (x : Told × Told). x.0) b.1;
      second = ap (λ (x : Told × Told). x.1) b.1;
      applied = a;
    }

-- For nothing_by: where receipts_of gives none, the answer isn't entered.
by_none : (caller : Caller) (call : Call) (r : Result Reply Refusal) (b : Bool) → is_entered r ≡ b
    → (if b then Some (pair caller call r) else None) ≡ None → is_entered r ≡ false
by_none caller call r true e f = absurd (cc f)
by_none caller call r false e f = e

-- A call without receipts, whose answer is Empty if unentered, did what Applied says of Empty.
pub nothing_by : (limits : Kept) (h : List Told) (caller : Caller) (call : Call) (r : Result Reply Refusal) (h' : List
    Told)
    → Applied limits h caller call r h' → (is_entered r ≡ false → r ≡ Err Empty) → receipts_of caller call r ≡ None
    → Applied limits h caller call (Err Empty) h'
nothing_by limits h caller call r h' a f e =
    subst (λ (x : Result Reply Refusal). Applied limits h caller call x h')
    (f (by_none caller call r (is_entered r) refl e)) a
