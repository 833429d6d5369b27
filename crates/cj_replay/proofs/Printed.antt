-- What steps and the report print.
use Rattle.std.proofs.Common.{◌≡◌, ◌⊎◌, inl, inr, ◌+◌, ◌<◌, ◌∙◌, ℕ, Bool, true, false, List, [], ◌∷◌, ◌++◌, length, get_or, take, drop, refl, rules, sym, ap, subst, append_assoc, append-nil}
use Rattle.std.proofs.lemmas.List.{take-append-drop, take_more}
use Rattle.std.specs.Prelude.{Option, ◌||◌, Result, Ok, Err, OnErr}
use Rattle.std.specs.Io.KnownBytes.{Appends}
use Rattle.cj_types.specs.WorldLimits.{Kept}
use Rattle.cj_zone.specs.declared.table.ZoneTable.{ZoneTable}
use Rattle.cj_calls.specs.Rows.{Told}
use Rattle.cj_io.specs.Writing.{AppendsSome, HasPrinted, Prints}
use Rattle.cj_io.proofs.Written.{appends_both, appends_nothing, nothing_printed, printed_begun, printed_more, printed_some, printed_whole}
use Rattle.cj_world_laws.specs.Promise.{KeepsPromise}
use Rattle.cj_report.specs.Reports.{report_of}
use Rattle.cj_script.specs.declared.script.Script.{Script}
use Rattle.cj_script.specs.declared.step.Step.{Step}
use Rattle.cj_replay.specs.Runs.{MakesAll, MakesStep}
use Rattle.cj_replay.specs.Replays.{IsPartOf, IsReplayed}
use Rattle.cj_replay.specs.Printing.{BreaksOff, CutsReport, HasPlayed, PrintsPart, PrintsReport, PrintsStep}
use Rattle.cj_replay.proofs.Replayed.{makes_more}

-- ---- one step

module _ (zones : ZoneTable) (limits : Kept) (h : List Told) (step : Step) where
  -- For print_step: a step that was made and whose line was printed is what PrintsStep says.
  pub step_printed : (full : Bool) (h' : List Told) (old new : Option (List ℕ)) (waited waits line : List ℕ)
      → MakesStep zones limits h step line full h' → Prints old waited line new waits
      → PrintsStep zones limits h step full h' old waited new waits
  step_printed full h' old new waited waits line p q = record { line = line; makes = p; printed = q }

  -- For print_step: a step that was made and whose line was printed in part is what PrintsPart
  -- says.
  pub step_cut : (full : Bool) (h' : List Told) (old new : Option (List ℕ)) (waited line : List ℕ)
      → MakesStep zones limits h step line full h' → AppendsSome old new (waited ++ line)
      → PrintsPart zones limits h step old waited new
  step_cut full h' old new waited line p q = record { line = line; is_line = inr (full, h', p); begun = q }

  -- For print_step: a step without a line, where nothing was printed, is what PrintsPart says.
  pub step_lacking : (old : Option (List ℕ)) (waited : List ℕ) → PrintsPart zones limits h step old waited old
  step_lacking old waited = record { line = []; is_line = inl refl; begun = appends_nothing old (waited ++ []) }

-- ---- all steps

module _ (zones : ZoneTable) (limits : Kept) (h : List Told) (start : Option (List ℕ)) where
  -- Before the first step nothing was made and nothing printed, as HasPlayed says.
  pub none_played : (waits : List ℕ) → waits ≡ [] → HasPlayed zones limits h [] false h start start waits
  none_played waits e = record { text = []; makes = (refl, refl, refl); printed = nothing_printed start waits e }

  module _ (done : List Step) (full : Bool) (h1 : List Told) (old : Option (List ℕ)) (waited : List ℕ)
      (a : HasPlayed zones limits h done full h1 start old waited) (step : Step) where
    -- With one step more that is printed, HasPlayed goes on from the steps before it.
    pub played_more : (now : Bool) (h2 : List Told) (new : Option (List ℕ)) (waits : List ℕ)
        → PrintsStep zones limits h1 step now h2 old waited new waits
        → HasPlayed zones limits h (done ++ step ∷ []) (full || now) h2 start new waits
    played_more now h2 new waits p = record {
      text = a.text ++ p.line;
      makes = makes_more zones limits step p.line now h2 done h h1 a.text full a.makes p.makes;
      printed = printed_more start old new waited a.text a.printed p.line waits p.printed;
    }

    -- For breaks_off: the steps break off before one without a line, or after one printed in part.
    breaks_by : (new : Option (List ℕ)) (line : List ℕ) (left steps : List Step) → steps ≡ (done ++ step ∷ []) ++ left
        → AppendsSome old new (waited ++ line)
        → (line ≡ []) ⊎ ((now : Bool) × (h2 : List Told) × MakesStep zones limits h1 step line now h2)
        → BreaksOff zones limits h steps start new
    breaks_by new line left steps e b (inl n) = record {
      done = done;
      left = step ∷ left;
      are = e ∙ append_assoc done (step ∷ []) left;
      text = a.text;
      full = full;
      history = h1;
      makes = a.makes;
      begun = subst (λ (l : List ℕ). AppendsSome start new l) (ap (λ (l : List ℕ). a.text ++ l) n ∙ append-nil a.text)
          (printed_some start old new waited a.text a.printed line b);
    }
    breaks_by new line left steps e b (inr (now, h2, p)) = record {
      done = done ++ step ∷ [];
      left = left;
      are = e;
      text = a.text ++ line;
      full = full || now;
      history = h2;
      makes = makes_more zones limits step line now h2 done h h1 a.text full a.makes p;
      begun = printed_some start old new waited a.text a.printed line b;
    }

    -- Where a step is printed in part or not at all, the steps break off there.
    pub breaks_off : (new : Option (List ℕ)) (left steps : List Step) → steps ≡ (done ++ step ∷ []) ++ left
        → PrintsPart zones limits h1 step old waited new → BreaksOff zones limits h steps start new
    breaks_off new left steps e p = breaks_by new p.line left steps e p.begun p.is_line

-- ---- the report

module _ (window : ℕ) (h : List Told) (old : Option (List ℕ)) (waited : List ℕ) where
  -- For print_report: where no report was made, nothing was printed.
  pub report_lacking : CutsReport window h old waited old
  report_lacking = record { rest = []; is_rest = inl refl; begun = appends_nothing old (waited ++ []) }

  -- For print_report: where the report's print fails, a beginning of what was to come was printed.
  pub report_cut : (new : Option (List ℕ)) (report : List ℕ) → report ≡ report_of window h
      → AppendsSome old new (waited ++ report) → CutsReport window h old waited new
  report_cut new report e b = record { rest = report; is_rest = inr e; begun = b }

  module _ (between new : Option (List ℕ)) (report waits : List ℕ) (e : report ≡ report_of window h)
      (p : Prints old waited report between waits) where
    -- Since before the report, what waited and the report were printed, of which an end still
    -- waits.
    has : HasPrinted old between waits (waited ++ report)
    has = record { written = p.written; appended = p.appended; is = p.are }

    -- For print_report: where the end that waits is written, the whole report was printed.
    pub report_printed : Appends between new waits → PrintsReport window h old waited new
    report_printed w = subst (λ (l : List ℕ). Appends old new (waited ++ l)) e
        (printed_whole old between new waits (waited ++ report) has w)

    -- For print_report: where the end that waits is written in part, a beginning was printed.
    pub report_begun : AppendsSome between new waits → CutsReport window h old waited new
    report_begun s = record {
      rest = report;
      is_rest = inr e;
      begun = printed_begun old between new waits
          (waited ++ report) has s;
    }

-- ---- the whole

module _ (s : Script) where
  -- For replay: where no step is made, nothing is printed, which is part of the run.
  pub nothing_done : (a : Option (List ℕ)) → (text : List ℕ) × IsPartOf s text × AppendsSome a a text
  nothing_done a = (
    [],
    inl (record {
      done = [];
      left = s.steps.items;
      steps = refl;
      full = false;
      history = [];
      makes = (refl, refl, refl);
    }),
    appends_nothing a [],
  )

  -- For replay_on: where the steps break off, a beginning of a part of the run was printed.
  pub broken_off : (a b : Option (List ℕ)) → BreaksOff s.zones s.limits [] s.steps.items a b
      → (text : List ℕ) × IsPartOf s text × AppendsSome a b text
  broken_off a b x = (
    x.text,
    inl (record {
      done = x.done;
      left = x.left;
      steps = x.are;
      full = x.full;
      history = x.history;
      makes = x.makes;
    }),
    x.begun,
  )

  module _ (full : Bool) (h : List Told) (a b c : Option (List ℕ)) (waits : List ℕ)
      (x : HasPlayed s.zones s.limits [] s.steps.items full h a b waits) (k : KeepsPromise s.limits.window h) where
    -- The lines of all steps with the report behind them are the whole run.
    whole : (report : List ℕ) → report ≡ report_of s.limits.window h → IsReplayed s (x.text ++ report) full
    whole report e = record {
      history = h;
      lines = x.text;
      makes = x.makes;
      promise = k;
      printed = ap (λ (l : List ℕ). x.text ++ l) e;
    }

    -- For replay_on: where all steps were made and the report printed, the whole run was printed.
    pub replayed : PrintsReport s.limits.window h b waits c → (text : List ℕ) × IsReplayed s text full
        × Appends a c text
    replayed p = (
      x.text ++ report_of s.limits.window h,
      whole (report_of s.limits.window h) refl,
      subst (λ (l : List ℕ). Appends a c l)
          (sym (append_assoc x.printed.written waits (report_of s.limits.window h))
          ∙ ap (λ (l : List ℕ). l ++ report_of s.limits.window h) (sym x.printed.is))
          (appends_both a b c x.printed.written (waits ++ report_of s.limits.window h) x.printed.appended p),
    )

    -- For cut_in_report: all steps' lines, with nothing or the report behind, are part of the run.
    cut_by : (rest : List ℕ) → (rest ≡ []) ⊎ (rest ≡ report_of s.limits.window h) → IsPartOf s (x.text ++ rest)
    cut_by rest (inl e) = inl (record {
      done = s.steps.items;
      left = [];
      steps = sym (append-nil s.steps.items);
      full = full;
      history = h;
      makes = subst (λ (l : List ℕ). MakesAll s.zones s.limits [] s.steps.items l full h)
          (sym (ap (λ (l : List ℕ). x.text ++ l) e ∙ append-nil x.text)) x.makes;
    })
    cut_by rest (inr e) = inr (full, whole rest e)

    -- For replay_on: where the report is cut, a beginning of a part of the run was printed.
    pub cut_in_report : CutsReport s.limits.window h b waits c → (text : List ℕ) × IsPartOf s text
        × AppendsSome a c text
    cut_in_report r = (
      x.text ++ r.rest,
      cut_by r.rest r.is_rest,
      printed_some a b c waits x.text x.printed r.rest
          r.begun,
    )

-- ---- the loop

-- The steps up to the one at i are those before it and this one.
at_step : (steps : List Step) (i : ℕ) (step : Step) → i < length steps → step ≡ get_or steps i step
    → take (i + 1) steps ≡ take i steps ++ step ∷ []
at_step steps i step lt is = take_more steps i step lt ∙ ap (λ (x : Step). take i steps ++ x ∷ []) (sym is)

module _ (zones : ZoneTable) (limits limits' : Kept) (h : List Told) (start : Option (List ℕ)) (steps : List Step)
    (i : ℕ) (step : Step) (lt : i < length steps) (is : step ≡ get_or steps i step) (kept : limits' ≡ limits)
    (full : Bool) (h1 : List Told) (old : Option (List ℕ)) (waited : List ℕ) (a : HasPlayed zones limits h
    (take i steps) full h1 start old waited) where
  -- For print_all: HasPlayed goes on at a turn of its loop that prints a step.
  pub loop_more : (found more : Bool) (h2 : List Told) (new : Option (List ℕ)) (waits : List ℕ) → more ≡ (full || found)
      → PrintsStep zones limits' h1 step found h2 old waited new waits
      → HasPlayed zones limits h (take (i + 1) steps) more h2 start new waits
  loop_more found more h2 new waits e p =
      subst (λ (l : List Step). HasPlayed zones limits h l more h2 start new waits) (sym (at_step steps i step lt is))
      (subst (λ (b : Bool). HasPlayed zones limits h (take i steps ++ step ∷ []) b h2 start new waits) (sym e)
      (played_more zones limits h start (take i steps) full h1 old waited a step found h2 new waits
      (subst (λ (k : Kept). PrintsStep zones k h1 step found h2 old waited new waits) kept p)))

  -- For print_all: the steps break off at a turn of its loop that prints a step in part or not.
  pub loop_breaks : (new : Option (List ℕ)) → PrintsPart zones limits' h1 step old waited new
      → BreaksOff zones limits h steps start new
  loop_breaks new p =
      breaks_off zones limits h start (take i steps) full h1 old waited a step new (drop (i + 1) steps) steps
      (sym (take-append-drop (i + 1) steps) ∙ ap (λ (l : List Step). l ++ drop (i + 1) steps)
      (at_step steps i step lt is))
      (subst (λ (k : Kept). PrintsPart zones k h1 step old waited new) kept p)

-- what holds in any case holds at an error
pub at_error : {A E P : Type 0} (r : Result A E) → P → OnErr r P
at_error (Ok x) p = search rules
at_error (Err e) p = p

-- For print_all: where the history was found full before, it was found full in all.
pub first_true : (a b c : Bool) → a ≡ true → c ≡ a → c ≡ (a || b)
first_true true b c e f = f
first_true false b c e f = absurd (cc e)

-- For print_all: where the history wasn't found full before, this step tells whether it was in all.
pub first_false : (a b c : Bool) → a ≡ false → c ≡ b → c ≡ (a || b)
first_false true b c e f = absurd (cc e)
first_false false b c e f = f
