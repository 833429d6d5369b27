-- Steps one after the other.
use Rattle.std.proofs.Common.{◌≡◌, ◌+◌, ◌∙◌, ℕ, Bool, true, false, List, [], ◌∷◌, ◌++◌, refl, sym, ap, subst, append_assoc, append-nil}
use Rattle.std.specs.Prelude.{◌||◌}
use Rattle.cj_types.specs.WorldLimits.{Kept}
use Rattle.cj_zone.specs.declared.table.ZoneTable.{ZoneTable}
use Rattle.cj_calls.specs.Rows.{Told}
use Rattle.cj_script.specs.declared.step.Step.{Step}
use Rattle.cj_replay.specs.Runs.{MakesAll, MakesStep}

-- A test or what is false is the test.
or_nothing : (a : Bool) → (a || false) ≡ a
or_nothing true = refl
or_nothing false = refl

-- Whether one of three tests holds doesn't depend on which two are joined first.
or_both : (a b c : Bool) → ((a || b) || c) ≡ (a || (b || c))
or_both true b c = refl
or_both false b c = refl

module _ (zones : ZoneTable) (limits : Kept) (step : Step) (line : List ℕ) (now : Bool) (h2 : List Told) where
  -- For makes_more: one step after none is all that was stepped.
  alone : (h h1 : List Told) (text : List ℕ) (full : Bool) → text ≡ [] → full ≡ false → h1 ≡ h
      → MakesStep zones limits h1 step line now h2
      → MakesAll zones limits h (step ∷ []) (text ++ line) (full || now) h2
  alone h h1 text full t f e p = record {
    line = line;
    rest = [];
    now = now;
    later = false;
    between = h2;
    makes = subst (λ (l : List Told). MakesStep zones limits l step line now h2) e p;
    others = (refl, refl, refl);
    printed = ap (λ (l : List ℕ). l ++ line) t ∙ sym (append-nil line);
    found = ap (λ (b : Bool). b || now) f ∙ sym (or_nothing now);
  }

  -- a step more
  pub makes_more : (done : List Step) (h h1 : List Told) (text : List ℕ) (full : Bool)
      → MakesAll zones limits h done text full h1
      → MakesStep zones limits h1 step line now h2 → MakesAll zones limits h (done ++ step ∷ []) (text ++ line)
      (full || now) h2
  makes_more [] h h1 text full a p = alone h h1 text full a.0 a.1 a.2 p
  makes_more (first ∷ done) h h1 text full a p = record {
    line = a.line;
    rest = a.rest ++ line;
    now = a.now;
    later = a.later || now;
    between = a.between;
    makes = a.makes;
    others = makes_more done a.between h1 a.rest a.later a.others p;
    printed = ap (λ (l : List ℕ). l ++ line) a.printed ∙ append_assoc a.line a.rest line;
    found = ap (λ (b : Bool). b || now) a.found ∙ or_both a.now a.later now;
  }
