-- What was added and not taken since is kept by the queue, and what waits is added at its time.
use Rattle.std.proofs.Common.{◌≡◌, ◌⊎◌, inl, inr, ℕ, ◌+◌, ◌*◌, ◌<◌, ◌≤◌, max, nat_le, Bool, true, false, cond, not, ◌&&◌, ◌||◌, List, [], ◌∷◌, ◌++◌, Option, Some, None, is_some, refl, sym, ap, subst, ◌∙◌, arith}
use Rattle.std.specs.Prelude.{Result, Ok, Err}
use Rattle.std.proofs.lemmas.Bool.Decides.{nat_tests}
use Rattle.cj_base.specs.declared.refusal.Refusal.{Refusal}
use Rattle.cj_types.specs.Keys.{Place}
use Rattle.cj_queue.specs.Parts.{key_eq}
use Rattle.cj_queue.specs.Times.{earlier}
use Rattle.cj_queue.specs.Queue.{Queue, delay}
use Rattle.cj_queue.proofs.Sets.{eq_true, eq_self}
use Rattle.cj_calls.specs.declared.call.Call.{Call}
use Rattle.cj_calls.specs.declared.call.Call.TheVariants as Of
use Rattle.cj_calls.specs.declared.end.End.{End}
use Rattle.cj_calls.specs.declared.end.End.TheVariants.{Well, Again}
use Rattle.cj_calls.specs.declared.reply.Reply.{Reply}
use Rattle.cj_calls.specs.declared.reply.Reply.TheVariants as Say
use Rattle.cj_calls.specs.Rows.{Told}
use Rattle.cj_state.specs.declared.phases.sync.InFlight.{InFlight}
use Rattle.cj_state.specs.Legal.{IsLegal, state_of}
use Rattle.cj_world_laws.specs.legal.Exclusive.{IsTake}
use Rattle.cj_world_laws.specs.legal.InFlightSyncs.{sync}
use Rattle.cj_history.specs.queue.Deeds.{Deed, adds, ticks, takes, ends, fails, shuts, nothing, accepted, deed, finish, next_of, Operation, operations}
use Rattle.cj_history.specs.queue.LookBacks.{is_take, is_finish, is_by, is_shut, is_within, is_add, adds_in, later, later_in, waits_in, waits_more, marks, holder, held, dirty, shut, mark, failures, ready_at}
use Rattle.cj_history.specs.queue.Laws.{IsQueue}
use Rattle.cj_history.specs.progress.Kept.{operation, IsAdd, IsTick, IsEnd, Adds, by_name, by_moment, at_once, NoneTakes, IsWanted, IsDone, IsToRetry, retry_at, IsLined, IsKept, Waits, NoKeyIsLost}
use Rattle.cj_history.proofs.QueueLemmas.Turns.{key_of}
use Rattle.cj_history.proofs.QueueLemmas.Holders.{holds, holder_after}
use Rattle.cj_history.proofs.QueueLemmas.Agreed.{stands, queue_agrees}
use Rattle.cj_history.proofs.ProgressLemmas.Aside.{legal_rest}

-- ---- tests

-- An or is true where its left side is.
or_left : (a b : Bool) → a ≡ true → (a || b) ≡ true
or_left true b e = refl
or_left false b e = absurd (cc e)

-- An or is true where its right side is.
or_right : (a b : Bool) → b ≡ true → (a || b) ≡ true
or_right true b e = refl
or_right false b e = e

-- Of an or that is false both sides are.
or_false : (a b : Bool) → (a || b) ≡ false → (a ≡ false) × (b ≡ false)
or_false true b e = absurd (cc e)
or_false false b e = (refl, e)

-- An and is true where both sides are.
and_true : (a b : Bool) → a ≡ true → b ≡ true → (a && b) ≡ true
and_true true b e f = f
and_true false b e f = absurd (cc e)

-- The test of an order that holds is true.
le_true : (a b : ℕ) → a ≤ b → nat_le a b ≡ true
le_true a b l = grind (arith, nat_tests)

-- The order holds where its test is true.
le_of : (a b : ℕ) → nat_le a b ≡ true → a ≤ b
le_of a b e = grind (arith, nat_tests, e)

-- Where the test of an order is false, the other order holds.
le_false : (a b : ℕ) → nat_le a b ≡ false → b < a
le_false a b e = grind (arith, nat_tests, e)

-- ---- an entry that takes no key

-- An accepted call did take a key only where it is a Take that was answered so.
takes_by : (o : Option InFlight) (call : Call) (r : Reply) (k : Place) → (is_take (accepted o call r) k ≡ false)
    ⊎ ((call ≡ Of.Take) × ((j : Place) × (r ≡ Say.Key j) × (is_take (accepted o call r) k ≡ key_eq k j)))
takes_by o Of.Take (Say.Key j) k = inr (refl, (j, refl, refl))
takes_by o (Of.Add j) Say.Done k = inl refl
takes_by o (Of.Tick now) Say.Done k = inl refl
takes_by o Of.Shut Say.Done k = inl refl
takes_by o (Of.Finish Well rs) Say.Done k = inl refl
takes_by o (Of.Finish (Again now) rs) Say.Done k = inl refl
takes_by o call r k = inl refl

-- an accepted answer
abbrev fine : Reply → Result Reply Refusal
fine r = Ok r

-- For not_taken: an accepted entry that isn't a Take of the key did not take it.
not_taken_by : (o : Option InFlight) (e : Told) (r : Reply) (k : Place) → (IsTake k e → ⊥) → e.answer ≡ Ok r
    → (is_take (accepted o e.call r) k ≡ false)
    ⊎ ((e.call ≡ Of.Take) × ((j : Place) × (r ≡ Say.Key j) × (is_take (accepted o e.call r) k ≡ key_eq k j)))
    → is_take (accepted o e.call r) k ≡ false
not_taken_by o e r k n g (inl f) = f
not_taken_by o e r k n g (inr (c, (j, is, same))) = by (key_eq k j) refl
  where
    by : (b : Bool) → key_eq k j ≡ b → is_take (accepted o e.call r) k ≡ false
    by true t = absurd (n (record {
      call = c;
      answer = g ∙ ap fine is ∙ ap (λ (x : Place). fine (Say.Key x)) (sym (eq_true k j t));
    }))
    by false t = same ∙ t

-- An entry that isn't a Take of the key did not take it.
not_taken : (o : Option InFlight) (e : Told) (k : Place) → (IsTake k e → ⊥) → is_take (deed o e.call e.answer) k ≡ false
not_taken o e k n = by e.answer refl
  where
    by : (a : Result Reply Refusal) → e.answer ≡ a → is_take (deed o e.call a) k ≡ false
    by (Err x) g = refl
    by (Ok r) g = not_taken_by o e r k n g (takes_by o e.call r k)

-- ---- an entry that adds the key

-- An accepted Add adds its key.
add_deed : (o : Option InFlight) (e : Told) (k : Place) → IsAdd k e → deed o e.call e.answer ≡ adds k
add_deed o e k i = ap (λ (c : Call). deed o c e.answer) i.call
    ∙ ap (λ (a : Result Reply Refusal). deed o (Of.Add k) a) i.answer

-- An accepted Tick tells its moment.
tick_deed : (o : Option InFlight) (e : Told) (now : ℕ) → IsTick now e → deed o e.call e.answer ≡ ticks now
tick_deed o e now i = ap (λ (c : Call). deed o c e.answer) i.call
    ∙ ap (λ (a : Result Reply Refusal). deed o (Of.Tick now) a) i.answer

-- An accepted Finish ends a sync, well or to be tried again.
end_deed : (o : Option InFlight) (before : List Told) (k : Place) (end : End) (e : Told) → IsEnd before k end e
    → deed o e.call e.answer ≡ finish o end
end_deed o before k end e i = ap (λ (c : Call). deed o c e.answer) i.call
    ∙ ap (λ (a : Result Reply Refusal). deed o (Of.Finish end i.reasons) a) i.answer

-- An end whose delayed add is due at once adds its key.
late_adds : (d : Deed) (k : Place) (m : ℕ) (b : Bool) (f at : ℕ) (was : Option ℕ) → later_in d b f ≡ Some at → at ≤ m
    → adds_in d k m (later_in d b f) was ≡ true
late_adds (ends n) k m b f at was e l = ap (λ o. is_within o m) e ∙ le_true at m l
late_adds (fails n) k m b f at was e l = ap (λ o. is_within o m) e ∙ le_true at m l
late_adds (adds j) k m b f at was e l = absurd (cc e)
late_adds (ticks n) k m b f at was e l = absurd (cc e)
late_adds (takes j) k m b f at was e l = absurd (cc e)
late_adds shuts k m b f at was e l = absurd (cc e)
late_adds nothing k m b f at was e l = absurd (cc e)

-- One whose delayed add isn't due yet leaves its key waiting for it, or for an earlier one.
late_waits : (d : Deed) (m : ℕ) (b : Bool) (f at : ℕ) (was : Option ℕ) → later_in d b f ≡ Some at → nat_le at m ≡ false
    → waits_in d false m (later_in d b f) was ≡ Some (earlier was at)
late_waits (ends n) m b f at was e l =
    ap (λ o. waits_more o m was) e ∙ ap (λ c. cond c was (Some (earlier was at))) l
late_waits (fails n) m b f at was e l =
    ap (λ o. waits_more o m was) e ∙ ap (λ c. cond c was (Some (earlier was at))) l
late_waits (adds j) m b f at was e l = absurd (cc e)
late_waits (ticks n) m b f at was e l = absurd (cc e)
late_waits (takes j) m b f at was e l = absurd (cc e)
late_waits shuts m b f at was e l = absurd (cc e)
late_waits nothing m b f at was e l = absurd (cc e)

-- whether an entry adds the key, where the queue isn't shut
abbrev add_test : List Told → Told → Place → Bool
add_test before e k = adds_in (operation before e).deed k (mark (operations before))
    (later (operations before) (operation before e) k) (ready_at (operations before) k)

-- An entry that adds the key before any shutdown is an add of it to the look-backs.
adds_true : (before : List Told) (k : Place) (e : Told) → shut (operations before) ≡ false → Adds before k e
    → is_add (operations before) (operation before e) k ≡ true
adds_true before k e s (by_name i) =
    and_true (not (shut (operations before))) (add_test before e k) (ap not s)
    (ap (λ (d : Deed). adds_in d k (mark (operations before)) (later (operations before) (operation before e) k)
    (ready_at (operations before) k)) (add_deed (sync before e.caller.number) e k i) ∙ eq_self k)
adds_true before k e s (by_moment now at i r l) =
    and_true (not (shut (operations before))) (add_test before e k) (ap not s)
    (ap (λ (d : Deed). adds_in d k (mark (operations before)) (later (operations before) (operation before e) k)
    (ready_at (operations before) k)) (tick_deed (sync before e.caller.number) e now i)
    ∙ ap (λ (w : Option ℕ). is_within w now) r ∙ le_true at now l)
adds_true before k e s (at_once at f l) =
    and_true (not (shut (operations before))) (add_test before e k) (ap not s)
    (late_adds (operation before e).deed k (mark (operations before))
    (is_by (holder (operations before) k) e.caller.number) (failures (operations before) k) at
    (ready_at (operations before) k) f l)

-- A key that an entry added is dirty as long as it isn't taken.
still_dirty : (k : Place) (e : Told) (before after : List Told)
    → is_add (operations before) (operation before e) k ≡ true → NoneTakes k after
    → dirty (operations (after ++ e ∷ before)) k ≡ true
still_dirty k e before [] a n =
    or_left (is_add (operations before) (operation before e) k)
    (not (is_take (operation before e).deed k) && dirty (operations before) k) a
still_dirty k e before (x ∷ after) a n =
    let h : List Told = after ++ e ∷ before in
    or_right (is_add (operations h) (operation h x) k)
    (not (is_take (operation h x).deed k) && dirty (operations h) k)
    (and_true (not (is_take (operation h x).deed k)) (dirty (operations h) k)
    (ap not (not_taken (sync h x.caller.number) x k n.0)) (still_dirty k e before after a n.1))

-- A key that was added and not taken since is dirty.
wanted_dirty : (h : List Told) (k : Place) → IsWanted h k → dirty (operations h) k ≡ true
wanted_dirty h k w =
    subst (λ (x : List Told). dirty (operations x) k ≡ true) (sym w.is)
    (still_dirty k w.entry w.before w.after (adds_true w.before k w.entry w.runs w.adds) w.untaken)

-- ---- what the queue has of a dirty key

-- A dirty key stands in the line, or is held and dirty.
kept_of : (h : List Operation) (q : Queue) (k : Place) → IsQueue h q → dirty h k ≡ true → IsKept q k
kept_of h q k is d = by (held h k) refl
  where
    by : (b : Bool) → held h k ≡ b → IsKept q k
    by true e = inr (is.held k ∙ e, is.dirty k ∙ d)
    by false e = inl (is.line.members k ∙ and_true (dirty h k) (not (held h k)) d (ap not e))

-- A dirty key that nobody holds stands in the line.
lined_of : (h : List Operation) (q : Queue) (k : Place) → IsQueue h q → dirty h k ≡ true → holder h k ≡ None
    → IsLined q k
lined_of h q k is d f = is.line.members k
    ∙ and_true (dirty h k) (not (held h k)) d (ap (λ (o : Option ℕ). not (is_some o)) f)

-- ---- the end of a sync

-- Who ends the sync of a key is its holder.
is_its : (window : ℕ) (before : List Told) → IsLegal window before → (k : Place) (end : End) (e : Told)
    → IsEnd before k end e → is_by (holder (operations before) k) e.caller.number ≡ true
is_its window before l k end e i =
    (stands window before l).tied k e.caller.number
    ∙ ap (λ (o : Option InFlight). holds (key_of o) k) i.held ∙ ap (λ (p : Place). key_eq k p) i.key ∙ eq_self k

-- After its holder's end nobody holds a key.
freed_by : (o : Option InFlight) (end : End) (v : ℕ) (k : Place) (was : Option ℕ) → is_by was v ≡ true
    → holder_after (finish o end) v k was ≡ None
freed_by o Well v k was e = ap (λ b. cond b None was) e
freed_by o (Again now) v k was e = ap (λ b. cond b None was) e

-- After the end of its sync nobody holds a key.
pub freed : (window : ℕ) (before : List Told) → IsLegal window before → (k : Place) (end : End) (e : Told)
    → IsEnd before k end e → holder (operations (e ∷ before)) k ≡ None
freed window before l k end e i =
    ap (λ (d : Deed). holder_after d e.caller.number k (holder (operations before) k))
    (end_deed (sync before e.caller.number) before k end e i)
    ∙ freed_by (sync before e.caller.number) end e.caller.number k (holder (operations before) k)
    (is_its window before l k end e i)

-- ---- what waits

-- The earlier of two times is not after the second.
earlier_le : (was : Option ℕ) (at : ℕ) → earlier was at ≤ at
earlier_le None at = omega arith
earlier_le (Some b) at = omega arith

-- For above_other: a delayed add that waits is above the greatest moment told.
above_more : (m : ℕ) (late was : Option ℕ) → ((at : ℕ) → was ≡ Some at → m < at) → (at : ℕ)
    → waits_more late m was ≡ Some at → m < at
above_more m None was f at e = f at e
above_more m (Some x) was f at e = by (nat_le x m) refl e
  where
    low : (o : Option ℕ) → ((b : ℕ) → o ≡ Some b → m < b) → m < x → m < earlier o x
    low None g l = l
    low (Some b) g l = let a = g b refl in omega (arith, a, l)

    by : (t : Bool) → nat_le x m ≡ t → cond t was (Some (earlier was x)) ≡ Some at → m < at
    by true g h = f at h
    by false g h = let same : earlier was x ≡ at = cc h in subst (λ n. m < n) same (low was f (le_false x m g))

-- For above_step: after an operation that tells no moment, what waits is above the greatest told.
above_other : (s : Bool) (m : ℕ) (late was : Option ℕ) → ((at : ℕ) → was ≡ Some at → m < at) → (at : ℕ)
    → cond s was (waits_more late m was) ≡ Some at → m < at
above_other true m late was f at e = f at e
above_other false m late was f at e = above_more m late was f at e

-- For above: one operation more leaves what waits above the greatest moment told.
above_step : (d : Deed) (s : Bool) (m : ℕ) (late was : Option ℕ) → ((at : ℕ) → was ≡ Some at → m < at)
    → (at : ℕ) → waits_in d s m late was ≡ Some at → marks d m < at
above_step shuts s m late was f at e = absurd (cc e)
above_step (ticks now) s m late None f at e = absurd (cc e)
above_step (ticks now) s m late (Some b) f at e = by (nat_le b now) refl e
  where
    by : (t : Bool) → nat_le b now ≡ t → cond t None (Some b) ≡ Some at → max m now < at
    by true g h = absurd (cc h)
    by false g h =
        let same : b ≡ at = cc h in let a = f b refl in let c = le_false b now g in omega (arith, same, a, c)
above_step (adds j) s m late was f at e = above_other s m late was f at e
above_step (takes j) s m late was f at e = above_other s m late was f at e
above_step (ends n) s m late was f at e = above_other s m late was f at e
above_step (fails n) s m late was f at e = above_other s m late was f at e
above_step nothing s m late was f at e = above_other s m late was f at e

-- What waits, waits for a time above the greatest moment told.
above : (h : List Operation) (k : Place) (at : ℕ) → ready_at h k ≡ Some at → mark h < at
above [] k at e = absurd (cc e)
above (a ∷ h) k at e = above_step a.deed (shut h) (mark h) (later h a k) (ready_at h k) (above h k) at e

-- ---- from the end of a sync on, until the key is taken

-- nobody holds the key, and it is dirty or waits for the time or an earlier one
record Ahead (h : List Operation) (k : Place) (t : ℕ) : Type 0 where
  free : holder h k ≡ None
  due : (dirty h k ≡ true) ⊎ ((at : ℕ) × (ready_at h k ≡ Some at) × (at ≤ t))

-- A holder that is none, or becomes none, is none.
none_either : (b : Bool) (o : Option ℕ) → o ≡ None → cond b None o ≡ None
none_either true o e = refl
none_either false o e = e

-- Who isn't the holder of a key adds it by no end.
late_none : (d : Deed) (b : Bool) (f : ℕ) → b ≡ false → later_in d b f ≡ None
late_none (ends None) b f e = refl
late_none (ends (Some t)) b f e = ap (λ x. later_in (ends (Some t)) x f) e
late_none (fails n) b f e = ap (λ x. later_in (fails n) x f) e
late_none (adds j) b f e = refl
late_none (ticks n) b f e = refl
late_none (takes j) b f e = refl
late_none shuts b f e = refl
late_none nothing b f e = refl

-- For ahead_due: without a delayed add the key waits as it did.
stays : (s : Bool) (m : ℕ) (late was : Option ℕ) → late ≡ None → cond s was (waits_more late m was) ≡ was
stays true m late was e = refl
stays false m late was e = ap (λ (o : Option ℕ). waits_more o m was) e

-- A key that waits is added by an operation, or waits as it did.
ahead_due : (d : Deed) (k : Place) (s : Bool) (m : ℕ) (late was : Option ℕ) (at : ℕ) → late ≡ None
    → is_shut d ≡ false → was ≡ Some at → (adds_in d k m late was ≡ true) ⊎ (waits_in d s m late was ≡ Some at)
ahead_due shuts k s m late was at e f w = absurd (cc f)
ahead_due (ticks now) k s m late was at e f w = by (nat_le at now) refl
  where
    by : (t : Bool) → nat_le at now ≡ t → (is_within was now ≡ true) ⊎ (cond (is_within was now) None was ≡ Some at)
    by true g = inl (ap (λ (o : Option ℕ). is_within o now) w ∙ g)
    by false g = inr (ap (λ b. cond b None was) (ap (λ (o : Option ℕ). is_within o now) w ∙ g) ∙ w)
ahead_due (adds j) k s m late was at e f w = inr (stays s m late was e ∙ w)
ahead_due (takes j) k s m late was at e f w = inr (stays s m late was e ∙ w)
ahead_due (ends n) k s m late was at e f w = inr (stays s m late was e ∙ w)
ahead_due (fails n) k s m late was at e f w = inr (stays s m late was e ∙ w)
ahead_due nothing k s m late was at e f w = inr (stays s m late was e ∙ w)

-- An operation that doesn't take the key, and is no shutdown, leaves it ahead.
ahead_step : (h : List Operation) (a : Operation) (k : Place) (t : ℕ) → is_take a.deed k ≡ false
    → is_shut a.deed ≡ false → shut h ≡ false → Ahead h k t → Ahead (a ∷ h) k t
ahead_step h a k t n c s f = record {
  free = ap (λ b. cond b (Some a.by) (cond (is_finish a.deed && is_by (holder h k) a.by) None (holder h k))) n
      ∙ none_either (is_finish a.deed && is_by (holder h k) a.by) (holder h k) f.free;
  due = by f.due;
}
  where
    idle : later h a k ≡ None
    idle = late_none a.deed (is_by (holder h k) a.by) (failures h k) (ap (λ (o : Option ℕ). is_by o a.by) f.free)

    on : (at : ℕ) → at ≤ t
        → (adds_in a.deed k (mark h) (later h a k) (ready_at h k) ≡ true) ⊎ (ready_at (a ∷ h) k ≡ Some at)
        → (dirty (a ∷ h) k ≡ true) ⊎ ((at : ℕ) × (ready_at (a ∷ h) k ≡ Some at) × (at ≤ t))
    on at l (inl e) = inl (or_left (is_add h a k) (not (is_take a.deed k) && dirty h k)
        (and_true (not (shut h)) (adds_in a.deed k (mark h) (later h a k) (ready_at h k)) (ap not s) e))
    on at l (inr e) = inr (at, e, l)

    by : (dirty h k ≡ true) ⊎ ((at : ℕ) × (ready_at h k ≡ Some at) × (at ≤ t))
        → (dirty (a ∷ h) k ≡ true) ⊎ ((at : ℕ) × (ready_at (a ∷ h) k ≡ Some at) × (at ≤ t))
    by (inl d) = inl (or_right (is_add h a k) (not (is_take a.deed k) && dirty h k)
        (and_true (not (is_take a.deed k)) (dirty h k) (ap not n) d))
    by (inr (at, w, l)) = on at l
        (ahead_due a.deed k (shut h) (mark h) (later h a k) (ready_at h k) at idle c w)

-- After the end of its sync, which adds it again at a time, a key is ahead.
ahead_end : (window : ℕ) (before : List Told) → IsLegal window before → (k : Place) (t : ℕ) (end : End) (e : Told)
    → IsEnd before k end e → later (operations before) (operation before e) k ≡ Some t
    → shut (operations before) ≡ false
    → Ahead (operations (e ∷ before)) k t
ahead_end window before l k t end e i n s = record {
  free = freed window before l k end e i;
  due = by (nat_le t (mark (operations before))) refl;
}
  where
    its : Bool
    its = is_by (holder (operations before) k) e.caller.number

    by : (b : Bool) → nat_le t (mark (operations before)) ≡ b
        → (dirty (operations (e ∷ before)) k ≡ true)
        ⊎ ((at : ℕ) × (ready_at (operations (e ∷ before)) k ≡ Some at) × (at ≤ t))
    by true g = inl (or_left (is_add (operations before) (operation before e) k)
        (not (is_take (operation before e).deed k) && dirty (operations before) k)
        (and_true (not (shut (operations before))) (add_test before e k) (ap not s)
        (late_adds (operation before e).deed k (mark (operations before)) its (failures (operations before) k) t
        (ready_at (operations before) k) n (le_of t (mark (operations before)) g))))
    by false g = inr (
      earlier (ready_at (operations before) k) t,
      ap (λ b. waits_in (operation before e).deed b (mark (operations before))
          (later (operations before) (operation before e) k) (ready_at (operations before) k)) s
          ∙ late_waits (operation before e).deed (mark (operations before)) its (failures (operations before) k) t
          (ready_at (operations before) k) n g,
      earlier_le (ready_at (operations before) k) t,
    )

-- From the end of its sync on, until it is taken or the queue is shut, a key is ahead.
ahead : (window : ℕ) (before : List Told) (k : Place) (t : ℕ) (end : End) (e : Told) (after : List Told)
    → IsLegal window (after ++ e ∷ before) → IsEnd before k end e
    → later (operations before) (operation before e) k ≡ Some t
    → shut (operations (after ++ e ∷ before)) ≡ false → NoneTakes k after
    → Ahead (operations (after ++ e ∷ before)) k t
ahead window before k t end e [] l i n s none =
    ahead_end window before l.2 k t end e i n
    (or_false (is_shut (operation before e).deed) (shut (operations before)) s).1
ahead window before k t end e (x ∷ after) l i n s none =
    let h : List Told = after ++ e ∷ before in
    let two = or_false (is_shut (operation h x).deed) (shut (operations h)) s in
    ahead_step (operations h) (operation h x) k t (not_taken (sync h x.caller.number) x k none.0)
    two.0 two.1 (ahead window before k t end e after l.2 i n two.1 none.1)

-- The end of a sync that ended well, with a next time, adds its key at that.
next_later : (window : ℕ) (before : List Told) → IsLegal window before → (k : Place) (t : ℕ) (e : Told)
    → IsEnd before k Well e → next_of (sync before e.caller.number) ≡ Some t
    → later (operations before) (operation before e) k ≡ Some (1000 * t)
next_later window before l k t e i n =
    ap (λ (d : Deed). later_in d (is_by (holder (operations before) k) e.caller.number)
    (failures (operations before) k))
    (end_deed (sync before e.caller.number) before k Well e i ∙ ap (λ (o : Option ℕ). ends o) n)
    ∙ ap (λ b. later_in (ends (Some t)) b (failures (operations before) k)) (is_its window before l k Well e i)

-- That of one that is to be tried again adds its key after the delay of its failures before.
retry_later : (window : ℕ) (before : List Told) → IsLegal window before → (k : Place) (now : ℕ) (e : Told)
    → IsEnd before k (Again now) e
    → later (operations before) (operation before e) k ≡ Some (now + delay (failures (operations before) k))
retry_later window before l k now e i =
    ap (λ (d : Deed). later_in d (is_by (holder (operations before) k) e.caller.number)
    (failures (operations before) k)) (end_deed (sync before e.caller.number) before k (Again now) e i)
    ∙ ap (λ b. later_in (fails now) b (failures (operations before) k)) (is_its window before l k (Again now) e i)

-- After a sync that ended well, with a next time, a key that wasn't taken since is ahead.
done_ahead : (window : ℕ) (h : List Told) → IsLegal window h → (k : Place) (t : ℕ) → IsDone h k t
    → Ahead (operations h) k (1000 * t)
done_ahead window h l k t d =
    let whole = subst (IsLegal window) d.is l in
    subst (λ (x : List Told). Ahead (operations x) k (1000 * t)) (sym d.is)
    (ahead window d.before k (1000 * t) Well d.entry d.after whole d.end
    (next_later window d.before (legal_rest window d.after (d.entry ∷ d.before) whole).2 k t d.entry d.end d.next)
    (sym (ap (λ (x : List Told). shut (operations x)) d.is) ∙ d.runs) d.untaken)

-- So is one whose sync is to be tried again.
retry_ahead : (window : ℕ) (h : List Told) → IsLegal window h → (k : Place) (now : ℕ) → (y : IsToRetry h k now)
    → Ahead (operations h) k (retry_at y)
retry_ahead window h l k now y =
    let whole = subst (IsLegal window) y.is l in
    subst (λ (x : List Told). Ahead (operations x) k (retry_at y)) (sym y.is)
    (ahead window y.before k (retry_at y) (Again now) y.entry y.after whole y.end
    (retry_later window y.before (legal_rest window y.after (y.entry ∷ y.before) whole).2 k now y.entry y.end)
    (sym (ap (λ (x : List Told). shut (operations x)) y.is) ∙ y.runs) y.untaken)

-- A key that is ahead stands in the line, or waits for its time.
ahead_waits : (h : List Operation) (q : Queue) (k : Place) (t : ℕ) → IsQueue h q → Ahead h k t
    → IsLined q k ⊎ Waits q k t
ahead_waits h q k t is f = by f.due
  where
    by : (dirty h k ≡ true) ⊎ ((at : ℕ) × (ready_at h k ≡ Some at) × (at ≤ t)) → IsLined q k ⊎ Waits q k t
    by (inl d) = inl (lined_of h q k is d f.free)
    by (inr (at, w, l)) = inr (record {
      at = at;
      waits = is.waits k ∙ w;
      ahead = subst (λ n. n < at) (sym is.tick) (above h k at w);
      within = l;
    })

-- A key that is ahead stands in the line once a moment at or past its time was told.
ahead_lined : (h : List Operation) (q : Queue) (k : Place) (t : ℕ) → IsQueue h q → Ahead h k t → t ≤ mark h
    → IsLined q k
ahead_lined h q k t is f told = by f.due
  where
    by : (dirty h k ≡ true) ⊎ ((at : ℕ) × (ready_at h k ≡ Some at) × (at ≤ t)) → IsLined q k
    by (inl d) = lined_of h q k is d f.free
    by (inr (at, w, l)) = let a = above h k at w in absurd (omega (arith, a, l, told))

-- For no_key_is_lost_law: after a legal history the queue has all that was added or is due.
pub none_lost : NoKeyIsLost
none_lost window h l = record {
  added = λ k w. kept_of (operations h) (state_of window h).queue k (queue_agrees window h l) (wanted_dirty h k w);
  ended = λ k end e before is i w. lined_of (operations h) (state_of window h).queue k (queue_agrees window h l)
      (wanted_dirty h k w)
      (ap (λ (x : List Told). holder (operations x) k) is
      ∙ freed window before (subst (IsLegal window) is l).2 k end e i);
  next = λ k t d. ahead_waits (operations h) (state_of window h).queue k (1000 * t) (queue_agrees window h l)
      (done_ahead window h l k t d);
  due = λ k t d told. ahead_lined (operations h) (state_of window h).queue k (1000 * t) (queue_agrees window h l)
      (done_ahead window h l k t d) told;
  again = λ k now y. ahead_waits (operations h) (state_of window h).queue k (retry_at y) (queue_agrees window h l)
      (retry_ahead window h l k now y);
  retried = λ k now y due. ahead_lined (operations h) (state_of window h).queue k (retry_at y) (queue_agrees window h l)
      (retry_ahead window h l k now y) due;
}
