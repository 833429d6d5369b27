-- What `--explain` says of a manifest without a fault: Kubernetes CronJob documentation, "Schedule
-- suspension", "Deadline for delayed Job start", "Jobs history limits" and "CronJob limitations" (a
-- deadline below ten seconds).
use Rattle.std.specs.Prelude.{◌≡◌, ℕ, ◌==◌, nat_lt, Bool, true, false, List, [], ◌∷◌, ◌++◌, Option, None, Some, codes, bytes_eq, if◌then◌else◌}
use Rattle.cj_types.specs.declared.cron.CronSpec.{CronSpec}
use Rattle.cj_zone.specs.declared.zone.Zone.{Zone}
use Rattle.cj_manifest.specs.declared.manifest.Manifest.{Manifest}
use Rattle.cj_manifest.specs.declared.manifest.Manifest.TheVariants as Of
use Rattle.cj_answers.specs.ClockWords.{IsClockAdvice}
use Rattle.cj_answers.specs.Coming.{IsScheduleAdvice}
use Rattle.cj_answers.specs.Suggestion.{suggestion}

abbrev pub suspend_advice : Bool → List ℕ
suspend_advice true = codes "spec.suspend: true starts no Job\n"
suspend_advice false = []

-- rule: explain-advice
abbrev pub deadline_advice : Option ℕ → List ℕ
deadline_advice None = []
deadline_advice (Some d) =
    if d == 0 then codes "spec.startingDeadlineSeconds: 0 never starts a Job\n"
    else if nat_lt d 10 then codes "spec.startingDeadlineSeconds: below 10 Kubernetes' own controller, which looks every 10 s, may start none\n"
    else []

abbrev pub successful_advice : ℕ → List ℕ
successful_advice n =
    if n == 0 then codes "spec.successfulJobsHistoryLimit: 0 keeps no complete Job\n" else []

abbrev pub failed_advice : ℕ → List ℕ
failed_advice n =
    if n == 0 then codes "spec.failedJobsHistoryLimit: 0 keeps no failed Job\n" else []

-- what is worth a look
-- rule: explain-advice
abbrev pub cron_advice : CronSpec → List ℕ
cron_advice s =
    suspend_advice s.suspend ++ (deadline_advice s.starting_deadline_seconds
    ++ (successful_advice s.successful_limit ++ failed_advice s.failed_limit))

-- that, whether the schedule comes at all, and which local times its zone's clock skips or shows
-- twice behind a moment
pub record IsCronAdvice (spec : CronSpec) (zones : List Zone) (moment : Option ℕ) (words : List ℕ)
    : Type 0 where
  pub coming : List ℕ
  pub comes : IsScheduleAdvice spec zones coming
  pub clock : List ℕ
  pub changes : IsClockAdvice spec zones moment clock
  pub are : words ≡ cron_advice spec ++ (coming ++ clock)

abbrev pub IsAdvice : Manifest → List Zone → Option ℕ → List ℕ → Type 0
IsAdvice (Of.CronJob draft) zones moment words = IsCronAdvice draft.spec zones moment words
IsAdvice (Of.Job draft) zones moment words = words ≡ []

-- a member that isn't known, by its path, with words on what it may be meant to be
unfoldable pub unknown_words : List ℕ → List ℕ → List ℕ
unknown_words path meant =
    path ++ (codes ": no member that is known here, so it is dropped" ++ (meant ++ codes "\n"))

-- a member that is dropped, by its path, and what it may be meant to be
-- rules: explain-advice, explain-suggestion
unfoldable pub dropped_words : List ℕ → List ℕ
dropped_words path =
    if bytes_eq path (codes "apiVersion") then codes
    "apiVersion: read as batch/v1; Kubernetes 1.25 dropped batch/v1beta1\n"
    else unknown_words path (suggestion path)

abbrev pub dropped_words_all : List (List ℕ) → List ℕ
dropped_words_all [] = []
dropped_words_all (w ∷ ws) = dropped_words w ++ dropped_words_all ws
