-- A manifest without a fault.
use Rattle.std.proofs.Common.{◌≡◌, ◌∙◌, ap, inr, rules, ℕ, List, ◌++◌, Bool}
use Rattle.std.specs.Prelude.{Result, Ok, Err, IfOk}
use Rattle.cj_args.specs.declared.request.CheckRequest.{CheckRequest}
use Rattle.cj_io.specs.declared.failure.Failure.{Failure}
use Rattle.cj_zone.specs.declared.zone.Zone.{Zone}
use Rattle.cj_manifest.specs.declared.manifest.Manifest.{Manifest}
use Rattle.cj_manifest.specs.Either.{key_of, kind_of, manifest_draft, manifest_faults, manifest_warnings}
use Rattle.cj_manifest.specs.Reading.{IsReading}
use Rattle.cj_answers.specs.declared.answer.Answer.{Answer}
use Rattle.cj_answers.specs.Advice.{IsAdvice, dropped_words_all}
use Rattle.cj_check.specs.Check.{IsChecked, IsComingWords, ended, fine_ending, pod_words, strict_words}
use Rattle.cj_check.specs.JobFields.{IsUnfit}
use Rattle.cj_answers.specs.Lines.{ok_line, warning_lines}
use Rattle.cj_answers.specs.Moments.{asked_moment}
use Rattle.cj_answers.specs.Outcome.{Outcome, explained, outcome_of}

-- what is answered then
abbrev pub answered : CheckRequest → Bool → Manifest → List ℕ → List ℕ → List ℕ → List (List ℕ) → Outcome
answered r alone m coming unfit words ws = explained r.explain (dropped_words_all ws ++ (words ++ pod_words alone))
    (ended (fine_ending r.strict ws (coming ++ unfit)) (strict_words r.strict r.explain coming ++ unfit)
    (ok_line (kind_of m) (key_of m) ++ warning_lines ws))

-- closes what is answered of a manifest that reads without a fault
pub fine_checked : (q : CheckRequest) (alone : Bool) (zones : List Zone) (bytes : List ℕ) (m : Manifest)
    (words text coming unfit said : List ℕ)
    (slice ws : List (List ℕ)) (r : Result Answer Failure) → slice ≡ ws → text ≡ words → said ≡ unfit
    → IsAdvice m zones (asked_moment q.moment) words → IsComingWords m zones coming → IsUnfit m unfit
    → IsReading Manifest (manifest_faults zones) manifest_draft manifest_warnings bytes m ws
    → IfOk r (λ a. outcome_of a ≡ answered q alone m coming said text slice)
    → IfOk r (λ a. IsChecked q alone zones bytes (outcome_of a))
fine_checked q alone zones bytes m words text coming unfit said slice ws (Ok a) e l u advice comes fits read is =
    let answer =
    is
    ∙ (ap (answered q alone m coming said text) e
    ∙ (ap (λ x. answered q alone m coming said x ws) l ∙ ap (λ x. answered q alone m coming x words ws) u)) in
    inr (inr (record {
      manifest = m;
      warnings = ws;
      reading = read;
      words = words;
      advice = advice;
      coming = coming;
      comes = comes;
      unfit = unfit;
      unfit_is = fits;
      answer = answer;
    }))
fine_checked q alone zones bytes m words text coming unfit said slice ws (Err f) e l u advice comes fits read is =
    search rules
