-- A key that was taken stays in the taker's hands until the end of its sync, and a key that is in
-- somebody's hands isn't taken.
use Rattle.std.proofs.Common.{◌≡◌, ◌⊎◌, inl, inr, ℕ, ◌==◌, Bool, true, false, List, [], ◌∷◌, ◌++◌, refl, sym, ap, subst, ◌∙◌, arith}
use Rattle.std.specs.Prelude.{Option, Some, None, Result, Ok, Err, if◌then◌else◌}
use Rattle.std.proofs.lemmas.Bool.Decides.{nat_tests}
use Rattle.cj_base.specs.declared.refusal.Refusal.{Refusal}
use Rattle.cj_types.specs.Keys.{Place}
use Rattle.cj_types.specs.declared.policy.Reason.{Reason}
use Rattle.cj_queue.specs.Queue.{has, first}
use Rattle.cj_calls.specs.Rows.{Told}
use Rattle.cj_calls.specs.declared.caller.Caller.{Caller}
use Rattle.cj_calls.specs.declared.caller.Role.{Role}
use Rattle.cj_calls.specs.declared.caller.Role.TheVariants.{User, Runner, Informer, Worker}
use Rattle.cj_calls.specs.declared.call.Call.{Call}
use Rattle.cj_calls.specs.declared.call.Call.TheVariants as Of
use Rattle.cj_calls.specs.declared.end.End.{End}
use Rattle.cj_calls.specs.declared.reply.Reply.{Reply}
use Rattle.cj_calls.specs.declared.reply.Reply.TheVariants as Is
use Rattle.cj_state.specs.declared.phases.sync.InFlight.{InFlight}
use Rattle.cj_state.specs.declared.state.State.{State}
use Rattle.cj_state.specs.WorkerCalls.{sync_of, take, take_by, take_first}
use Rattle.cj_state.specs.Step.{step_of, by_role}
use Rattle.cj_state.specs.Legal.{IsLegal, state_of}
use Rattle.cj_world_laws.specs.legal.InFlightSyncs.{accepted, sync_after, sync}
use Rattle.cj_world_laws.specs.legal.Exclusive.{IsTake, IsFinish, SomeFinish, here, later, AlwaysExclusive}
use Rattle.cj_world_laws.proofs.LegalLemmas.Rows.{first_free}
use Rattle.cj_world_laws.proofs.LegalLemmas.Sound.{Whole, whole_of}
use Rattle.cj_world_laws.proofs.LegalLemmas.HeldSyncs.{syncs_agree}

-- Numbers that the test takes for equal are equal.
number_is : (q k : ℕ) → (q == k) ≡ true → q ≡ k
number_is q k e = grind (arith, nat_tests)

-- A number is equal to itself by the test.
same_number : (q : ℕ) → (q == q) ≡ true
same_number q = grind (arith, nat_tests)

-- ---- the role of who takes and who ends

abbrev Taken : State → ℕ → Result Reply Refusal → Type 0
Taken s w a = (r : Reply) → a ≡ Ok r → (sync_of s w ≡ None)
    × ((k : Place) → r ≡ Is.Key k → first s.queue.row.line ≡ Some k)

-- For is_taken: a Take by a worker without a sync gets the first key of the line, or none.
first_taken : (s : State) (w : ℕ) (o : Option Place) → first s.queue.row.line ≡ o → sync_of s w ≡ None
    → Taken s w (take_first s w o).answer
first_taken s w (Some k) e n r f =
    (n, λ q g. let i : Is.Key k ≡ Is.Key q = cc in e ∙ (let j : k ≡ q = cc in ap (λ (x : Place). Some x) j))
first_taken s w None e n r f = absurd (cc f)

-- For is_taken: an accepted Take by a worker gets the first key, and there was no sync.
by_taken : (s : State) (w : ℕ) (o : Option InFlight) → sync_of s w ≡ o → Taken s w (take_by s w o).answer
by_taken s w None e = first_taken s w (first s.queue.row.line) refl e
by_taken s w (Some x) e = λ r f. absurd (cc f)

-- For is_taken: whatever the role, an accepted Take gets the first key, and there was no sync.
role_taken : (s : State) (role : Role) (w : ℕ) → Taken s w (by_role s role w Of.Take).answer
unfolding take
role_taken s Worker w = by_taken s w (sync_of s w) refl
role_taken s User w = λ r f. absurd (cc f)
role_taken s Runner w = λ r f. absurd (cc f)
role_taken s Informer w = λ r f. absurd (cc f)

-- Whose Take is accepted had no sync, and the key it gets is the first of the line.
is_taken : (s : State) (caller : Caller) → Taken s caller.number (step_of s caller Of.Take).answer
unfolding step_of
is_taken s caller = role_taken s caller.role caller.number

-- who is answered a Take or a Finish is a worker
works_alone : (s : State) (role : Role) (w : ℕ) (r : Reply) → (by_role s role w Of.Take).answer ≡ Ok r → role ≡ Worker
works_alone s Worker w r e = refl
works_alone s User w r e = absurd (cc e)
works_alone s Runner w r e = absurd (cc e)
works_alone s Informer w r e = absurd (cc e)

-- For ender: whose Finish is accepted has the role Worker.
ends_alone : (s : State) (role : Role) (w : ℕ) (end : End) (rs : List Reason) (r : Reply)
    → (by_role s role w (Of.Finish end rs)).answer ≡ Ok r → role ≡ Worker
ends_alone s Worker w end rs r e = refl
ends_alone s User w end rs r e = absurd (cc e)
ends_alone s Runner w end rs r e = absurd (cc e)
ends_alone s Informer w end rs r e = absurd (cc e)

-- A caller whose Take is accepted is a worker.
taker : (s : State) (caller : Caller) (r : Reply) → (step_of s caller Of.Take).answer ≡ Ok r → caller.role ≡ Worker
unfolding step_of
taker s caller r e = works_alone s caller.role caller.number r e

-- A caller whose Finish is accepted is a worker.
ender : (s : State) (caller : Caller) (end : End) (rs : List Reason) (r : Reply)
    → (step_of s caller (Of.Finish end rs)).answer ≡ Ok r → caller.role ≡ Worker
unfolding step_of
ender s caller end rs r e = ends_alone s caller.role caller.number end rs r e

-- ---- a sync with the key

abbrev Holds : Option InFlight → Place → Type 0
Holds None k = ⊥
Holds (Some x) k = x.key ≡ k

-- an entry of the worker leaves it the key, or is the end
data Left (k : Place) (call : Call) (r : Reply) (o : Option InFlight) : Type 0 where
  holds : Holds o k → Left k call r o
  ends : (end : End) (rs : List Reason) → call ≡ Of.Finish end rs → r ≡ Is.Done → Left k call r o

-- An accepted call of a worker that holds a key leaves it the key or is a Finish,
-- unless it is a Take that gets a key.
after_reply : (k : Place) (x : InFlight) (call : Call) (r : Reply) → x.key ≡ k
    → ((q : Place) → call ≡ Of.Take → r ≡ Is.Key q → ⊥) → Left k call r (accepted (Some x) call r)
after_reply k x Of.Take (Is.Key q) h never = absurd (never q refl refl)
after_reply k x Of.SeeCron (Is.SeenCron c) h never = holds h
after_reply k x Of.SeeJobs (Is.SeenJobs js) h never = holds h
after_reply k x Of.SeeActive (Is.SeenActive js) h never = holds h
after_reply k x (Of.Claim p) (Is.Claimed None) h never = holds h
after_reply k x (Of.Claim p) (Is.Claimed (Some c)) h never = holds h
after_reply k x Of.DropNext (Is.Dropped d) h never = holds h
after_reply k x Of.MakeNext (Is.Job j) h never = holds h
after_reply k x Of.SetStatus (Is.Version v) h never = holds h
after_reply k x (Of.Finish end rs) Is.Done h never = ends end rs refl refl
after_reply k x call r h never = holds h

-- A caller with the role Worker is the worker of its number.
caller_is : (c : Caller) (w : ℕ) → w ≡ c.number → c.role ≡ Worker → c ≡ record { number = w; role = Worker }
caller_is c w n r = ap (λ (x : Role). record { number = c.number; role = x }) r
    ∙ ap (λ (x : ℕ). record { number = x; role = Worker }) (sym n)

module _ (window : ℕ) (h : List Told) (e : Told) (k : Place) (w : ℕ) (legal : IsLegal window (e ∷ h)) where
  -- For of_reply: by what the reply leaves, the worker has the key or the entry is its sync's end.
  from_left : (r : Reply) (o : Option InFlight) → w ≡ e.caller.number → e.answer ≡ Ok r → Left k e.call r o
      → Holds o k ⊎ IsFinish (record { number = w; role = Worker }) e
  from_left r o n a (holds x) = inl x
  from_left r o n a (ends end rs c d) = inr (record {
    by = caller_is e.caller w n (ender (state_of window h) e.caller end rs r
        (subst (λ (x : Call). (step_of (state_of window h) e.caller x).answer ≡ Ok r) c (sym legal.0 ∙ a)));
    end = end;
    reasons = rs;
    call = c;
    answer = a ∙ ap (λ (x : Reply). Ok x) d;
  })

  -- A worker that has a sync isn't answered a Take with a key.
  no_take : (x : InFlight) → w ≡ e.caller.number → sync h w ≡ Some x → (r : Reply) → e.answer ≡ Ok r → (q : Place)
      → e.call ≡ Of.Take → r ≡ Is.Key q → ⊥
  no_take x n at r a q c d =
      let none : sync_of (state_of window h) e.caller.number ≡ None =
      (is_taken (state_of window h) e.caller r (subst (λ (y : Call). (step_of (state_of window h) e.caller y).answer
      ≡ Ok r) c (sym legal.0 ∙ a))).0 in
      let some : sync_of (state_of window h) w ≡ Some x = syncs_agree window h legal.2 w ∙ at in
      let here : sync_of (state_of window h) w ≡ None = ap (sync_of (state_of window h)) n ∙ none in
      cc (some, here)

  -- For of_sync: the same by the entry's answer: a refusal leaves the sync, a reply what it says.
  of_reply : (x : InFlight) → w ≡ e.caller.number → sync h w ≡ Some x → x.key ≡ k → (a : Result Reply Refusal)
      → e.answer ≡ a → Holds (sync_after (Some x) e.call a) k ⊎ IsFinish (record { number = w; role = Worker }) e
  of_reply x n at key (Err f) i = inl key
  of_reply x n at key (Ok r) i = from_left r _ n i (after_reply k x e.call r key (no_take x n at r i))

  -- For by_number: a worker's own entry leaves it the key that it holds, or is its sync's end.
  of_sync : w ≡ e.caller.number → (o : Option InFlight) → sync h w ≡ o → Holds o k
      → Holds (sync_after o e.call e.answer) k ⊎ IsFinish (record { number = w; role = Worker }) e
  of_sync n None at key = absurd key
  of_sync n (Some x) at key = of_reply x n at key e.answer refl

  -- For kept_in_hand: the same whether or not the entry is of the worker's number.
  by_number : (b : Bool) → (b ≡ true → w ≡ e.caller.number) → Holds (sync h w) k
      → Holds (if b then sync_after (sync h w) e.call e.answer else sync h w) k
      ⊎ IsFinish (record { number = w; role = Worker }) e
  by_number false n key = inl key
  by_number true n key = of_sync (n refl) (sync h w) refl key

  -- A worker that holds a key still holds it after the next entry, or this is its sync's end.
  kept_in_hand : Holds (sync h w) k → Holds (sync (e ∷ h) w) k ⊎ IsFinish (record { number = w; role = Worker }) e
  kept_in_hand key = by_number (w == e.caller.number) (number_is w e.caller.number) key

-- The older entries of a legal history are a legal history.
legal_rest : (window : ℕ) (xs ys : List Told) → IsLegal window (xs ++ ys) → IsLegal window ys
legal_rest window [] ys l = l
legal_rest window (x ∷ xs) ys l = legal_rest window xs ys l.2

module _ (window : ℕ) (before : List Told) (a : Told) (k : Place) (take : IsTake k a) where
  -- Right after the Take of a key the taker's number holds the key.
  just_taken : Holds (sync (a ∷ before) a.caller.number) k
  just_taken = by (a.caller.number == a.caller.number) (same_number a.caller.number)
    where
      by : (b : Bool) → b ≡ true → Holds (if b then sync_after (sync before a.caller.number) a.call a.answer
          else sync before a.caller.number) k
      by true t = subst (λ (c : Call). Holds (sync_after (sync before a.caller.number) c a.answer) k) (sym take.call)
          (subst (λ (r : Result Reply Refusal). Holds (sync_after (sync before a.caller.number) Of.Take r) k)
          (sym take.answer) refl)
      by false t = absurd (cc t)

  -- Who took a key by a legal entry is the worker of its number.
  is_worker : IsLegal window (a ∷ before) → record { number = a.caller.number; role = Worker } ≡ a.caller
  is_worker l =
      let e : (step_of (state_of window before) a.caller Of.Take).answer ≡ Ok (Is.Key k) =
      subst (λ (c : Call). (step_of (state_of window before) a.caller c).answer ≡ Ok (Is.Key k)) take.call
      (sym l.0 ∙ take.answer) in
      sym (caller_is a.caller a.caller.number refl (taker (state_of window before) a.caller (Is.Key k) e))

  -- Since the Take its taker has ended the sync, or it still holds the key.
  in_hand : (between : List Told) → IsLegal window (between ++ a ∷ before)
      → SomeFinish a.caller between ⊎ Holds (sync (between ++ a ∷ before) a.caller.number) k
  in_hand [] l = inr just_taken
  in_hand (e ∷ es) l = by (in_hand es l.2)
    where
      next : Holds (sync (e ∷ (es ++ a ∷ before)) a.caller.number) k ⊎ IsFinish
          (record { number = a.caller.number; role = Worker }) e
          → SomeFinish a.caller (e ∷ es) ⊎ Holds (sync (e ∷ (es ++ a ∷ before)) a.caller.number) k
      next (inl x) = inr x
      next (inr f) =
          inl (here e es (subst (λ (c : Caller). IsFinish c e) (is_worker (legal_rest window es (a ∷ before) l.2)) f))

      by : SomeFinish a.caller es ⊎ Holds (sync (es ++ a ∷ before) a.caller.number) k
          → SomeFinish a.caller (e ∷ es) ⊎ Holds (sync (e ∷ (es ++ a ∷ before)) a.caller.number) k
      by (inl f) = inl (later e es f)
      by (inr x) = next (kept_in_hand window (es ++ a ∷ before) e k a.caller.number l x)

  -- While the taker holds the key, a legal next entry is no Take of it.
  never_again : (between : List Told) (b : Told) → IsTake k b → IsLegal window (b ∷ (between ++ a ∷ before))
      → Holds (sync (between ++ a ∷ before) a.caller.number) k → ⊥
  never_again between b again l x = by (sync (between ++ a ∷ before) a.caller.number) refl x
    where
      by : (o : Option InFlight) → sync (between ++ a ∷ before) a.caller.number ≡ o → Holds o k → ⊥
      by None e key = key
      by (Some y) e key =
          let whole : Whole (state_of window (between ++ a ∷ before)) = whole_of window (between ++ a ∷ before) in
          let held : has (state_of window (between ++ a ∷ before)).queue.row.processing y.key ≡ true =
          whole.sat.held a.caller.number y (syncs_agree window (between ++ a ∷ before) l.2 a.caller.number ∙ e) in
          let taken : (step_of (state_of window (between ++ a ∷ before)) b.caller Of.Take).answer ≡ Ok (Is.Key k) =
          subst (λ (c : Call). (step_of (state_of window (between ++ a ∷ before)) b.caller c).answer ≡ Ok (Is.Key k))
          again.call (sym l.0 ∙ again.answer) in
          let free : has (state_of window (between ++ a ∷ before)).queue.row.processing k ≡ false =
          first_free (state_of window (between ++ a ∷ before)).queue.row k whole.row
          ((is_taken (state_of window (between ++ a ∷ before)) b.caller (Is.Key k) taken).1 k refl) in
          cc (held, free, ap (has (state_of window (between ++ a ∷ before)).queue.row.processing) key)

-- For exclusive_law: between two Takes of a key its first taker has ended its sync.
pub always_exclusive : AlwaysExclusive
always_exclusive window h legal k after between before second first e again take =
    by (in_hand window before first k take between rest_legal.2)
  where
    rest_legal : IsLegal window (second ∷ (between ++ first ∷ before))
    rest_legal = legal_rest window after (second ∷ (between ++ first ∷ before))
        (subst (λ (l : List Told). IsLegal window l) e legal)

    by : SomeFinish first.caller between ⊎ Holds (sync (between ++ first ∷ before) first.caller.number) k
        → SomeFinish first.caller between
    by (inl f) = f
    by (inr x) = absurd (never_again window before first k take between second again rest_legal x)
