-- What is seen of a history, its oldest entry first.
use Rattle.std.specs.Prelude.{◌≡◌, ◌↔◌, ℕ, false, true, IsTrue, List}
use Rattle.std.specs.List.{AllByRecursion}
use Rattle.cj_calls.specs.Rows.{Told}
use Rattle.cj_calls.specs.declared.caller.Caller.{Caller}
use Rattle.cj_script.specs.simulation.Spans.{SpanView}
use Rattle.cj_script.specs.declared.simulation.scenario.Simulation.{Simulation}
use Rattle.cj_run.specs.Participants.{IsOwn}
use Rattle.cj_run.specs.Turns.{KeepsTime, are_timely, progress_of, turns_of}
use Rattle.cj_run.specs.declared.validation.Seen.{Seen}

-- how far the run is, whether each entry is of one of the callers and at its time, and how many
-- instants had begun before each of the user's
pub record Sees (s : SpanView) (callers : List Caller) (user : ℕ) (v : Seen) (h : List Told)
    : Type 0 where
  pub progress : v.progress ≡ progress_of s h
  pub own : IsTrue v.own ↔ AllByRecursion (IsOwn callers) h
  pub timely : v.timely ≡ are_timely s h
  pub turns : v.turns.items ≡ turns_of s user h

-- it is what is wanted
pub record Agrees (v : Seen) (wanted : List ℕ) (count : ℕ) : Type 0 where
  pub begun : v.progress.begun ≡ count
  pub over : v.progress.on ≡ false
  pub own : IsTrue v.own
  pub timely : v.timely ≡ true
  pub turns : v.turns.items ≡ wanted

-- the entries of a history are of these callers, and made at their times
pub record IsValid (c : Simulation) (callers : List Caller) (user : ℕ) (h : List Told)
    : Type 0 where
  pub own : AllByRecursion (IsOwn callers) h
  pub time : KeepsTime c user h
