-- The order of what is called between two instants: the ends of Jobs, and then the user.
use Rattle.std.proofs.Common.{◌≡◌, ◌∙◌, ◌+◌, ◌<◌, ◌&&◌, ◌||◌, ℕ, inl, inr, Bool, true, false, List, [], ◌∷◌, ◌++◌, refl, sym, ap, subst, arith}
use Rattle.std.specs.Prelude.{◌⊎◌, not, if◌then◌else◌, Result}
use Rattle.std.proofs.lemmas.Bool.{false≢true}
use Rattle.cj_base.specs.declared.refusal.Refusal.{Refusal}
use Rattle.cj_calls.specs.Rows.{Told}
use Rattle.cj_calls.specs.declared.call.Call.{Call}
use Rattle.cj_calls.specs.declared.caller.Role.{Role}
use Rattle.cj_calls.specs.declared.caller.Role.TheVariants.{Runner, User}
use Rattle.cj_calls.specs.declared.reply.Reply.{Reply}
use Rattle.cj_script.specs.simulation.Spans.{SpanView}
use Rattle.cj_run.specs.Turns.{EndsFirst, are_timely, begins, edits, ends, is_end_at, is_timely, progress, progress_after, progress_of, turn}
use Rattle.cj_run.specs.declared.turns.Progress.{Progress}

-- Where two tests pass, the first does.
pub both_left : (a b : Bool) → (a && b) ≡ true → a ≡ true
both_left true b t = refl
both_left false b t = t

-- And so does the second.
pub both_right : (a b : Bool) → (a && b) ≡ true → b ≡ true
both_right true b t = t
both_right false b t = absurd (false≢true t)

-- Where all entries are at their times, so are those up to any one.
front_timely : (s : SpanView) (later h : List Told) → are_timely s (later ++ h) ≡ true → are_timely s h ≡ true
front_timely s [] h t = t
front_timely s (e ∷ later) h t = front_timely s later h (both_left (are_timely s (later ++ h)) _ t)

-- how far a run is, where the user called after so many instants had begun: another one has begun since, or not, and
-- then the call is known
abbrev Waits : ℕ → Progress → Type 0
Waits n p = (n < p.begun) ⊎ ((p.begun ≡ n) × (p.edited ≡ true))

-- So it is after the user's call.
after_user : (s : SpanView) (p : Progress) (role : Role) (call : Call) → role ≡ User
    → Waits p.begun (progress_after s p role call)
after_user s p role call user =
    subst (λ (r : Role). Waits p.begun (progress_after s p r call)) (sym user) (inr (refl, refl))

-- For after_more: so it is after another call, by what that call begins and ends.
after_one : (n : ℕ) (p : Progress) (starts over edit : Bool) → Waits n p
    → Waits n (if starts then progress (p.begun + 1) true false
    else (if over then progress p.begun false (edit || p.edited) else p))
after_one n p true over edit (inl lt) = inl (omega (arith, lt))
after_one n p true over edit (inr same) = inl (omega (arith, same.0))
after_one n p false true edit (inl lt) = inl lt
after_one n p false true true (inr same) = inr (same.0, refl)
after_one n p false true false (inr same) = inr same
after_one n p false false edit w = w

-- And so it is after any calls that follow.
after_more : (s : SpanView) (n : ℕ) (between h : List Told) → Waits n (progress_of s h)
    → Waits n (progress_of s (between ++ h))
after_more s n [] h w = w
after_more s n (e ∷ es) h w =
    let p = progress_of s (es ++ h) in
    after_one n p (begins s p e.caller.role e.call) (ends e.caller.role e.call) (edits e.caller.role)
    (after_more s n es h w)

-- For not_edited: a test that fails outside of an instant, and one that fails where the user called.
none_known : (on edited test : Bool) → ((on && false) || (not edited && test)) ≡ true → edited ≡ false
none_known on false test t = refl
none_known true true test t = absurd (false≢true t)
none_known false true test t = absurd (false≢true t)

-- Where a runner's call is at its time, no call of the user is known.
not_edited : (s : SpanView) (p : Progress) (role : Role) (call : Call) (answer : Result Reply Refusal) → role ≡ Runner
    → is_timely s p role call answer ≡ true
    → p.edited ≡ false
not_edited s p role call answer runner timely =
    none_known p.on p.edited (is_end_at s p.begun call)
    (subst (λ (r : Role). is_timely s p r call answer ≡ true) runner timely)

-- Then an instant has begun since the user's call.
begun_since : (n : ℕ) (p : Progress) → Waits n p → p.edited ≡ false → n < p.begun
begun_since n p (inl lt) free = lt
begun_since n p (inr same) free = absurd (false≢true (sym free ∙ same.1))

-- For run_of: where all entries are at their times, Jobs end before the user's edits are made.
pub ends_first : (s : SpanView) (h : List Told) → are_timely s h ≡ true → EndsFirst s h
ends_first s h timely later between before end edit is runner user =
    let es = between ++ edit ∷ before in
    let p = progress_of s es in
    let front : are_timely s (end ∷ es) ≡ true =
    front_timely s later (end ∷ es) (sym (ap (are_timely s) is) ∙ timely) in
    let own : is_timely s p end.caller.role end.call end.answer ≡ true =
    both_right (are_timely s es) _ front in
    begun_since (turn s before) p
    (after_more s (turn s before) between (edit ∷ before)
    (after_user s (progress_of s before) edit.caller.role edit.call user))
    (not_edited s p end.caller.role end.call end.answer runner own)
