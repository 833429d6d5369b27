-- What one call adds to a book.
use Rattle.std.proofs.Common.{◌≡◌, ◌<◌, true, false, List, ◌∷◌, length, refl, sym, ap, ◌∙◌, arith}
use Rattle.std.specs.Prelude.{Err}
use Rattle.cj_base.specs.declared.refusal.Refusal.{Refusal}
use Rattle.cj_base.specs.declared.refusal.Refusal.TheVariants.{Empty, HistoryFull, OutOfMemory}
use Rattle.cj_types.specs.WorldLimits.{Kept}
use Rattle.cj_calls.specs.Rows.{Told}
use Rattle.cj_calls.specs.declared.caller.Caller.{Caller}
use Rattle.cj_calls.specs.declared.call.Call.{Call}
use Rattle.cj_state.specs.Legal.{state_of, answer_of, is_entered}
use Rattle.cj_world.specs.Worlds.{told, Applied, Entered}
use Rattle.cj_hub.specs.Books.{IsUnentered}
use Rattle.cj_hub.proofs.Finds.{finds}

-- what an entered call adds
pub record Added (limits : Kept) (h : List Told) (caller : Caller) (call : Call)
    (one two : Told) (h' : List Told) : Type 0 where
  pub same : one ≡ two
  pub entry : one ≡ told caller call (answer_of limits.window h caller call)
  pub entered : is_entered (answer_of limits.window h caller call) ≡ true
  pub history : h' ≡ one ∷ h

-- For Book::enter: an entered call gives its entry twice, with the history's answer, and adds it.
pub added : (limits : Kept) (h : List Told) (caller : Caller) (call : Call) (p : Told × Told) (h' : List Told)
    → Entered limits h caller call p h' → Added limits h caller call p.0 p.1 h'
added limits h caller call p h' e =
    let x = e.applied.entered e.is_entered in record {
      same = e.first ∙ sym e.second;
      entry = e.first ∙ ap (told caller call) x.0;
      entered = ap is_entered (sym x.0) ∙ e.is_entered;
      history = x.1 ∙ ap (λ y. y ∷ h) (sym e.first);
    }

-- For Book::enter: where the history has room, it fails for want of memory or of a key to take.
pub unentered : (limits : Kept) (h : List Told) (caller : Caller) (call : Call) (e : Refusal) (h' : List Told)
    → Applied limits h caller call (Err e) h' → is_entered (Err e) ≡ false → length h < limits.history
    → IsUnentered (state_of limits.window h) call e
unentered limits h caller call Empty h' a u room = finds (state_of limits.window h) caller call (a.empty refl)
unentered limits h caller call OutOfMemory h' a u room = tt
unentered limits h caller call HistoryFull h' a u room = let f = a.full.0 refl in absurd (omega arith)
unentered limits h caller call x h' a u room = absurd (cc u)
