-- What a world at rest says of the times that came: no CronJob whose sync ended well has its next one up to then.
use Rattle.std.proofs.Common.{◌≡◌, ◌∙◌, ◌+◌, ◌-◌, ◌*◌, ◌<◌, ◌≤◌, ◌||◌, ℕ, Bool, true, false, List, [], ◌∷◌, ◌++◌, refl, sym, ap, subst, arith}
use Rattle.std.specs.Prelude.{Result, Ok, if◌then◌else◌, max}
use Rattle.std.proofs.lemmas.Bool.{eqb-true, false≢true}
use Rattle.cj_base.specs.declared.refusal.Refusal.{Refusal}
use Rattle.cj_types.specs.Keys.{Place}
use Rattle.cj_queue.specs.Parts.{stands_in}
use Rattle.cj_calls.specs.Rows.{Told}
use Rattle.cj_calls.specs.declared.call.Call.{Call}
use Rattle.cj_calls.specs.declared.call.Call.TheVariants as Of
use Rattle.cj_calls.specs.declared.caller.Role.{Role}
use Rattle.cj_calls.specs.declared.caller.Role.TheVariants.{Informer}
use Rattle.cj_calls.specs.declared.reply.Reply.{Reply}
use Rattle.cj_calls.specs.declared.reply.Reply.TheVariants as Is
use Rattle.cj_state.specs.Legal.{IsLegal, answer_of, state_of}
use Rattle.cj_world_laws.specs.legal.InFlightSyncs.{sync}
use Rattle.cj_history.specs.queue.Answers.{Says}
use Rattle.cj_history.specs.queue.Deeds.{Deed, adds, ends, fails, nothing, shuts, takes, ticks, deed, operations}
use Rattle.cj_history.specs.queue.LookBacks.{mark, marks}
use Rattle.cj_history.proofs.ProgressLemmas.Kept.{none_lost}
use Rattle.cj_history.proofs.QueueLemmas.Answered.{answers_agree}
use Rattle.cj_script.specs.simulation.Spans.{SpanView, instant}
use Rattle.cj_run.specs.Turns.{begins, edits, is_moment, progress, progress_of, turn}
use Rattle.cj_run.specs.Turns as turns
use Rattle.cj_run.specs.Upkeep.{ComesToRest, KeepsUp}
use Rattle.cj_run.specs.declared.turns.Progress.{Progress}
use Rattle.cj_run.proofs.Ordered.{both_left, both_right}

-- What begins an instant is an informer's Tick at its moment.
record IsFirstTick (s : SpanView) (p : Progress) (role : Role) (call : Call) : Type 0 where
  at : ℕ
  by : role ≡ Informer
  is : call ≡ Of.Tick at
  moment : is_moment s p.begun at ≡ true

-- For told_more: so it is.
tick_of : (s : SpanView) (p : Progress) (role : Role) (call : Call) → begins s p role call ≡ true
    → IsFirstTick s p role call
tick_of s p Informer (Of.Tick at) t = record { at = at; by = refl; is = refl; moment = t }
tick_of s p role call t = absurd (false≢true t)

-- An operation never sets the moment back that the queue was told.
marks_on : (d : Deed) (was : ℕ) → was ≤ marks d was
marks_on (ticks now) was = omega arith
marks_on (adds k) was = omega arith
marks_on (takes k) was = omega arith
marks_on (ends next) was = omega arith
marks_on (fails now) was = omega arith
marks_on shuts was = omega arith
marks_on nothing was = omega arith

-- For told_more: what an informer's Tick is answered.
tick_answered : (window : ℕ) (e : Told) (h : List Told) (at : ℕ) → IsLegal window (e ∷ h) → e.caller.role ≡ Informer
    → e.call ≡ Of.Tick at
    → e.answer ≡ Ok Is.Done
tick_answered window e h at l by is =
    l.0 ∙ subst (λ (call : Call). Says (operations h) (sync h e.caller.number) Informer call
    (answer_of window h e.caller e.call)) is
    (subst (λ (role : Role). Says (operations h) (sync h e.caller.number) role e.call
    (answer_of window h e.caller e.call)) by (answers_agree window h e.caller e.call l.2))

-- For told_more: what the queue was told by that Tick.
mark_ticked : (window : ℕ) (e : Told) (h : List Told) (at : ℕ) → IsLegal window (e ∷ h) → e.caller.role ≡ Informer
    → e.call ≡ Of.Tick at
    → mark (operations (e ∷ h)) ≡ max (mark (operations h)) at
mark_ticked window e h at l by is =
    ap (λ (call : Call). marks (deed (sync h e.caller.number) call e.answer) (mark (operations h))) is
    ∙ ap (λ (a : Result Reply Refusal). marks (deed (sync h e.caller.number) (Of.Tick at) a) (mark (operations h)))
    (tick_answered window e h at l by is)

-- the queue was told the moment of the last instant that began, if one did
abbrev IsToldUp : SpanView → ℕ → ℕ → Type 0
IsToldUp s begun told = 1 ≤ begun → instant s (begun - 1) * 1000 ≤ told

-- For told_more: by the entry's own Tick.
told_by : (s : SpanView) (n at was told : ℕ) → is_moment s n at ≡ true → told ≡ max was at
    → IsToldUp s (n + 1) told
told_by s n at was told moment is one =
    let same : instant s n * 1000 ≡ at = eqb-true (instant s n * 1000) at (both_right _ _ moment) in
    let number : (n + 1) - 1 ≡ n = omega arith in
    let most : at ≤ max was at = omega arith in
    rw (number, same, is) most

-- For told_more: by whether the entry begins an instant.
told_case : (window : ℕ) (s : SpanView) (e : Told) (h : List Told) → IsLegal window (e ∷ h)
    → IsToldUp s (turn s h) (mark (operations h))
    → (starts over : Bool) → begins s (progress_of s h) e.caller.role e.call ≡ starts
    → IsToldUp s (if starts then progress ((progress_of s h).begun + 1) true false
    else (if over then progress (progress_of s h).begun false
    (edits e.caller.role || (progress_of s h).edited) else progress_of s h)).begun
    (mark (operations (e ∷ h)))
told_case window s e h l told true over is =
    let t = tick_of s (progress_of s h) e.caller.role e.call is in
    told_by s (progress_of s h).begun t.at (mark (operations h)) (mark (operations (e ∷ h))) t.moment
    (mark_ticked window e h t.at l t.by t.is)
told_case window s e h l told false true is = λ one.
    let more = marks_on (deed (sync h e.caller.number) e.call e.answer) (mark (operations h)) in
    omega (arith, told one, more)
told_case window s e h l told false false is = λ one.
    let more = marks_on (deed (sync h e.caller.number) e.call e.answer) (mark (operations h)) in
    omega (arith, told one, more)

-- After a legal history the queue was told the moment of the last instant that began.
told_up : (window : ℕ) (s : SpanView) (h : List Told) → IsLegal window h
    → IsToldUp s (turn s h) (mark (operations h))
told_up window s [] l = λ one. absurd (omega (arith, one))
told_up window s (e ∷ h) l =
    told_case window s e h l (told_up window s h l.2)
    (begins s (progress_of s h) e.caller.role e.call) (turns.ends e.caller.role e.call) refl

-- An instant goes on only where one has begun.
begun_on : (s : SpanView) (h : List Told) → (progress_of s h).on ≡ true → 1 ≤ turn s h
begun_on s [] on = absurd (false≢true on)
begun_on s (e ∷ h) on =
    by (begun_on s h) (begins s (progress_of s h) e.caller.role e.call) (turns.ends e.caller.role e.call) on
  where
    by : ((progress_of s h).on ≡ true → 1 ≤ turn s h) → (starts over : Bool)
        → (if starts then progress ((progress_of s h).begun + 1) true false
        else (if over then progress (progress_of s h).begun false
        (edits e.caller.role || (progress_of s h).edited) else progress_of s h)).on ≡ true
        → 1 ≤ (if starts then progress ((progress_of s h).begun + 1) true false
        else (if over then progress (progress_of s h).begun false
        (edits e.caller.role || (progress_of s h).edited) else progress_of s h)).begun
    by before true over t = omega arith
    by before false true t = absurd (false≢true t)
    by before false false t = before t

-- Where all entries are answered as the history has it, so are those before any one.
legal_front : (window : ℕ) (later : List Told) (e : Told) (h : List Told) → IsLegal window (later ++ e ∷ h)
    → IsLegal window h
legal_front window [] e h l = l.2
legal_front window (x ∷ later) e h l = legal_front window later e h l.2

-- For keeps_up: nobody stands in an empty line.
none_lined : (xs : List Place) (k : Place) → xs ≡ [] → stands_in xs k ≡ true → ⊥
none_lined xs k none there =
    absurd (false≢true (sym (ap (λ (ys : List Place). stands_in ys k) none) ∙ there))

-- For keeps_up: a time is above a moment that was told, where the key isn't lined up.
after_it : (moment t told : ℕ) → moment * 1000 ≤ told → (1000 * t ≤ told → ⊥) → moment < t
after_it moment t told up not = omega (arith, up, not)

-- For run_of: a legal history that comes to rest at the end of each instant keeps up.
pub keeps_up : (window : ℕ) (s : SpanView) (h : List Told) → IsLegal window h → ComesToRest window s h
    → KeepsUp window s h
keeps_up window s h l rests later before e is over =
    let l' : IsLegal window before =
    legal_front window later e before (subst (λ (x : List Told). IsLegal window x) is l) in
    let settled = rests later before e is over in
    let told = told_up window s before l' (begun_on s before (both_left (progress_of s before).on _ over)) in
    record {
      settled = settled;
      due = λ k t done.
          after_it (instant s (turn s before - 1)) t (mark (operations before)) told (λ le.
          none_lined (state_of window before).queue.row.line k settled.rest.0
          ((none_lost window before l').due k t done le));
    }
