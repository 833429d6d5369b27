-- How the run of a script ends.
use Rattle.std.proofs.Common.{◌≡◌, ◌≢◌, ◌⊎◌, inl, inr, ℕ, List, [], Bool, true, false, refl, subst}
use Rattle.std.specs.Prelude.{Option, Result, Ok, Err, IfOk, codes}
use Rattle.std.specs.Result.{IsOkAnd}
use Rattle.std.specs.Io.KnownBytes.{Appends}
use Rattle.cj_io.specs.declared.exit_status.ExitStatus.{ExitStatus}
use Rattle.cj_io.specs.declared.exit_status.ExitStatus.TheVariants.{Success}
use Rattle.cj_io.specs.declared.failure.Failure.{Failure}
use Rattle.cj_io.specs.Statuses.{failure_line}
use Rattle.cj_io.specs.Writing.{AppendsSome}
use Rattle.cj_scenario.specs.declared.fault.SceneFault.{SceneFault}
use Rattle.cj_scenario.specs.declared.fault.SceneFault.TheVariants as Why
use Rattle.cj_scenario.specs.declared.detection.form.Form.TheVariants as A
use Rattle.cj_script.specs.declared.script.Script.{Script}
use Rattle.cj_script.specs.Scripts.{IsRefusedScript, IsScript}
use Rattle.cj_replay.specs.Replays.{IsPartOf, IsReplayed}
use Rattle.cj_answers.specs.declared.answer.Answer.{Answer}
use Rattle.cj_args.specs.declared.request.ReplayRequest.{ReplayRequest}
use Rattle.cj_io.specs.declared.zone_files.file.ZoneFile.{ZoneFile}
use Rattle.cj_io.specs.declared.zone_files.given.GivenZones.{GivenZones}
use Rattle.cj_answers.specs.Given.{IsNoneGiven, IsReadUnder, pair_words}
use Rattle.cj_answers.specs.Outcome.{Outcome, done, explained, outcome_of, refusal, status_of}
use Rattle.cj_check.specs.Plan.{IsSceneRefusal}
use Rattle.cj_program.specs.Replay.{EndsBadly, EndsWell, IsRead, IsReplayLines}
use Rattle.cj_program.specs.Writing.{FailsLines, IsCut, IsGiven, IsUnanswered}

-- s is a script that was run; out and err are the outputs before it, out' and err' after it.
module _ (s : Script) (out out' err err' : Option (List ℕ)) where
  -- For run_script: a run that was printed whole and didn't find the history full ended well.
  pub ends_well : (full : Bool) → full ≡ false → (text : List ℕ) × IsReplayed s text full × Appends out out' text
      → Appends err err' [] → EndsWell s out out' err err'
  ends_well full e r said = record {
    text = r.0;
    run = subst (λ (b : Bool). IsReplayed s r.0 b) e r.1;
    printed = r.2;
    said = said;
  }

  -- For run_script: a run that was printed whole, found the history full and said so ended badly.
  pub fills : (full : Bool) → full ≡ true → (text : List ℕ) × IsReplayed s text full × Appends out out' text
      → AppendsSome err err' (codes "cronsim: history full\n")
      → EndsBadly s out out' err err'
  fills full e r t = inl (record {
    text = r.0;
    run = subst (λ (b : Bool). IsReplayed s r.0 b) e r.1;
    printed = r.2;
    told = t;
  })

  -- For run_script: a run of which a beginning was printed, and that told why, ended badly.
  pub cut : (failure : Failure) → (text : List ℕ) × IsPartOf s text × AppendsSome out out' text
      → AppendsSome err err' (failure_line failure) → EndsBadly s out out' err err'
  cut failure r t = inr (record { text = r.0; part = r.1; begun = r.2; failure = failure; told = t })

-- ---- of the bytes

-- bytes are all of the input of the request r, and given are the zones of its words with the files.
module _ (r : ReplayRequest) (files : List ZoneFile) (given : GivenZones) (zones : IsReadUnder r.zones files given)
    (bytes : List ℕ)
    (input : Option (List ℕ)) (read : IsRead input bytes) (out out' err err' : Option (List ℕ)) where
  -- For serve_bytes: the run of their script that ended well is an outcome of replay.
  pub run_served : (s : Script) → IsScript given bytes s → (status : ExitStatus)
      → (status ≡ Success) × EndsWell s out out' err err'
      → (o : Outcome) × IsReplayLines r files input o × (status ≡ status_of o.ending) × Appends out out' o.printed
      × Appends err err' o.said
  run_served s is status (e, w) = (
    done w.text,
    inr (inr
        (record {
          script = s;
          reads = record { given = given; zones = zones; bytes = bytes; read = read; said = is };
          text = w.text;
          run = w.run;
          answer = refl;
        })),
    e,
    w.printed,
    w.said,
  )

  -- For serve_bytes: where the run of their script ended badly, replay failed.
  pub run_failed : (s : Script) → IsScript given bytes s → EndsBadly s out out' err err'
      → FailsLines r files input out out' err err'
  run_failed s is b =
      inr (inr (record {
        script = s;
        reads = record { given = given; zones = zones; bytes = bytes; read = read; said = is };
        ends = b;
      }))

  -- The bytes are refused as a script, with this fault.
  module _ (fault : SceneFault) (why : IsRefusedScript given bytes fault) where
    -- A refusal of the bytes for another cause than memory is an outcome of replay.
    refused : (o : Outcome) → fault ≢ Why.Memory → IsSceneRefusal r.explain A.Script bytes fault o
        → IsReplayLines r files input o
    refused o told is = inr (inl (record {
      given = given;
      zones = zones;
      bytes = bytes;
      read = read;
      fault = fault;
      refused = why;
      told = told;
      says = is;
    }))

    -- For serve_bytes: a refusal of the bytes that was given is an outcome of replay.
    pub refusal_served : (status : ExitStatus) (made : Result Answer Failure) → IfOk made (λ _. fault ≢ Why.Memory)
        → IfOk made (λ a. IsSceneRefusal r.explain A.Script bytes fault (outcome_of a))
        → IsOkAnd made (λ a. IsGiven status (outcome_of a) out out' err err')
        → (o : Outcome) × IsReplayLines r files input o × (status ≡ status_of o.ending) × Appends out out' o.printed
        × Appends err err' o.said
    refusal_served status (Ok a) told is g = (
      outcome_of a,
      refused (outcome_of a) told is,
      g.status_is,
      g.printed,
      g.said,
    )
    refusal_served status (Err e) told is g = absurd g

    -- For serve_bytes: where a refusal has no answer, or one that was cut off, replay failed.
    pub refusal_failed : (made : Result Answer Failure) → IfOk made (λ _. fault ≢ Why.Memory)
        → IfOk made (λ a. IsSceneRefusal r.explain A.Script bytes fault (outcome_of a))
        → IsUnanswered out out' err err' ⊎ IsOkAnd made
        (λ a. IsCut (outcome_of a).printed (outcome_of a).said out out' err err')
        → FailsLines r files input out out' err err'
    refusal_failed made told is (inl u) = inl u
    refusal_failed (Ok a) told is (inr c) = inr (inl
        (record { outcome = outcome_of a; answer = refused (outcome_of a) told is; cut = c }))
    refusal_failed (Err e) told is (inr c) = absurd c

-- ---- of the words

-- A rule of the words of the request r is refused, so nothing is read.
module _ (r : ReplayRequest) (files : List ZoneFile) (input out out' err err' : Option (List ℕ))
    (none : IsNoneGiven r.zones []) where
  -- What is answered then is an outcome of replay.
  refused_rule : (o : Outcome) → o ≡ explained r.explain pair_words (refusal (codes "cronsim: zone\n"))
      → IsReplayLines r files input o
  refused_rule o is = inl (record { zones = none; answer = is })

  -- For serve_replay: that answer, where it was given, is an outcome of replay.
  pub rule_served : (status : ExitStatus) (made : Result Answer Failure)
      → IfOk made (λ a. outcome_of a ≡ explained r.explain pair_words (refusal (codes "cronsim: zone\n")))
      → IsOkAnd made (λ a. IsGiven status (outcome_of a) out out' err err')
      → (o : Outcome) × IsReplayLines r files input o × (status ≡ status_of o.ending) × Appends out out' o.printed
      × Appends err err' o.said
  rule_served status (Ok a) is g = (outcome_of a, refused_rule (outcome_of a) is, g.status_is, g.printed, g.said)
  rule_served status (Err e) is g = absurd g

  -- For serve_replay: where there is no answer then, or one that was cut off, replay failed.
  pub rule_failed : (made : Result Answer Failure)
      → IfOk made (λ a. outcome_of a ≡ explained r.explain pair_words (refusal (codes "cronsim: zone\n")))
      → IsUnanswered out out' err err' ⊎ IsOkAnd made
      (λ a. IsCut (outcome_of a).printed (outcome_of a).said out out' err err')
      → FailsLines r files input out out' err err'
  rule_failed made is (inl u) = inl u
  rule_failed (Ok a) is (inr c) = inr (inl
      (record { outcome = outcome_of a; answer = refused_rule (outcome_of a) is; cut = c }))
  rule_failed (Err e) is (inr c) = absurd c
