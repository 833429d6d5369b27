-- What is seen of a history, and what is wanted, one after the other.
use Rattle.std.proofs.Common.{◌≡◌, ◌+◌, ◌<◌, ◌∙◌, ◌&&◌, ℕ, Bool, List, [], ◌∷◌, ◌++◌, length, get_or, take, map, add-one, sym, ap, subst, append_assoc, append-nil}
use Rattle.std.specs.Prelude.{◌↔◌, IsTrue}
use Rattle.std.proofs.lemmas.List.{map-append, take_more}
use Rattle.cj_calls.specs.Rows.{Told}
use Rattle.cj_calls.specs.declared.caller.Caller.{Caller}
use Rattle.cj_script.specs.declared.operations.operation.Operation.{Operation}
use Rattle.cj_script.specs.simulation.Spans.{SpanView, instant}
use Rattle.cj_script.specs.declared.simulation.scenario.Simulation.{Simulation}
use Rattle.cj_script.specs.declared.simulation.scenario.Edit.{Edit}
use Rattle.cj_run.specs.Participants.{IsOwn}
use Rattle.cj_run.specs.Validation.{Agrees, IsValid, Sees}
use Rattle.cj_run.specs.Simulations.{edits_at}
use Rattle.cj_run.specs.Turns.{AllInstants, are_timely, is_timely, progress_after, turn, turns_after, turns_below}
use Rattle.cj_run.specs.declared.validation.Seen.{Seen}
use Rattle.cj_run.specs.declared.turns.Progress.{Progress}
use Rattle.cj_run.proofs.Done.{edits_append}
use Rattle.cj_run.proofs.Reported.{same_count}

-- For Seen::see: with one entry more, what was seen is of the history with that entry.
pub see_more : (s : SpanView) (callers : List Caller) (user : ℕ) (v v' : Seen) (e : Told) (h : List Told)
    → v'.progress ≡ progress_after s v.progress e.caller.role e.call
    → (IsTrue v'.own ↔ (IsOwn callers e × IsTrue v.own))
    → v'.timely ≡ (v.timely && is_timely s v.progress e.caller.role e.call e.answer)
    → v'.turns.items ≡ turns_after user v.progress.begun v.turns.items e
    → Sees s callers user v h
    → Sees s callers user v' (e ∷ h)
see_more s callers user v v' e h went owned kept put k = record {
  progress = went ∙ ap (λ (p : Progress). progress_after s p e.caller.role e.call) k.progress;
  own = (
    (λ t. let b = owned.0 t in (b.0, k.own.0 b.1)),
    (λ a. owned.1 (a.0, k.own.1 a.1)),
  );
  timely = kept ∙ ap (λ (b : Bool). b && is_timely s v.progress e.caller.role e.call e.answer) k.timely
      ∙ ap (λ (p : Progress). are_timely s h && is_timely s p e.caller.role e.call e.answer) k.progress;
  turns = put ∙ ap (λ (p : Progress). turns_after user p.begun v.turns.items e) k.progress
      ∙ ap (λ (ns : List ℕ). turns_after user (turn s h) ns e) k.turns;
}

-- For put_edits: where no edit was gone through, there is nothing more.
pub wanted_none : (at n : ℕ) (ns : List ℕ) → ns ≡ ns ++ map (λ _. n) (edits_at [] at)
unfolding edits_at
wanted_none at n ns = sym (append-nil ns)

-- For put_edits: so many for the edits at an instant of the first i, and then for the next edit, are those for
-- the first i + 1.
pub wanted_more : (at n i : ℕ) (edits : List Edit) (edit : Edit) (ns ms ks : List ℕ) → i < length edits
    → edit ≡ get_or edits i edit
    → ms ≡ ns ++ map (λ _. n) (edits_at (take i edits) at) → ks ≡ ms ++ map (λ _. n) (edits_at (edit ∷ []) at)
    → ks ≡ ns ++ map (λ _. n) (edits_at (take (i + 1) edits) at)
wanted_more at n i edits edit ns ms ks lt is before more =
    let f : Operation → ℕ = λ _. n in
    let done = edits_at (take i edits) at in
    let next = edits_at (edit ∷ []) at in
    let split : edits_at (take (i + 1) edits) at ≡ done ++ next =
    ap (λ (es : List Edit). edits_at es at) (take_more edits i edit lt
    ∙ ap (λ (x : Edit). take i edits ++ x ∷ []) (sym is))
    ∙ edits_append (take i edits) (edit ∷ []) at in
    more ∙ ap (λ (xs : List ℕ). xs ++ map f next) before ∙ append_assoc ns (map f done) (map f next)
    ∙ ap (λ (xs : List ℕ). ns ++ xs) (sym (map-append f done next) ∙ ap (λ (os : List Operation). map f os) (sym split))

-- For turns_wanted: those of the first n instants, and then so many for each edit of the next, are those of n + 1.
pub instant_more : (c : Simulation) (n : ℕ) (ns ms : List ℕ) → ns ≡ turns_below c n
    → ms ≡ ns ++ map (λ _. n) (edits_at c.edits.items (instant c.span n))
    → ms ≡ turns_below c (n + 1)
instant_more c n ns ms before more =
    rw (add-one) (more ∙ ap (λ (xs : List ℕ). xs ++ map (λ _. n) (edits_at c.edits.items (instant c.span n))) before)

-- For is_valid: what was seen of a history is what is wanted just where the history is kept.
pub is_valid : (c : Simulation) (callers : List Caller) (user count : ℕ) (h : List Told) (v : Seen) (wanted : List ℕ)
    (b : Bool)
    → AllInstants c.span count → wanted ≡ turns_below c count
    → Sees c.span callers user v h
    → (IsTrue b ↔ Agrees v wanted count)
    → IsTrue b ↔ IsValid c callers user h
is_valid c callers user count h v wanted b all is k iff = (
  (λ t.
      let a = iff.0 t in
      let e : count ≡ turn c.span h = sym a.begun ∙ ap (λ (p : Progress). p.begun) k.progress in
      record {
        own = k.own.0 a.own;
        time = record {
          all = subst (λ (n : ℕ). AllInstants c.span n) e all;
          over = sym (ap (λ (p : Progress). p.on) k.progress) ∙ a.over;
          timely = sym k.timely ∙ a.timely;
          turns = sym k.turns ∙ a.turns ∙ is ∙ ap (turns_below c) e;
        };
      }),
  (λ kept.
      let e : turn c.span h ≡ count = same_count c.span (turn c.span h) count kept.time.all all in
      iff.1 (record {
        begun = ap (λ (p : Progress). p.begun) k.progress ∙ e;
        over = ap (λ (p : Progress). p.on) k.progress ∙ kept.time.over;
        own = k.own.1 kept.own;
        timely = k.timely ∙ kept.time.timely;
        turns = k.turns ∙ kept.time.turns ∙ ap (turns_below c) e ∙ sym is;
      })),
)
