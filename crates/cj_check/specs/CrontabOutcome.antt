-- What `crontab` answers.
use Rattle.std.specs.Prelude.{◌≡◌, ◌⊎◌, ℕ, List, Bool, true, false, Option, IfSome, codes}
use Rattle.std.specs.List.{list_any}
use Rattle.cj_args.specs.declared.crontab.CrontabRequest.{CrontabRequest}
use Rattle.cj_answers.specs.Given.{pair_words}
use Rattle.cj_answers.specs.Moments.{moment_words}
use Rattle.cj_answers.specs.Outcome.{Outcome, explained, refusal}
use Rattle.cj_answers.specs.as_json.Forms.{form_words}
use Rattle.cj_answers.specs.declared.answer.Ending.{Ending}
use Rattle.cj_answers.specs.declared.answer.Ending.TheVariants.{Done, Refused}
use Rattle.cj_check.specs.Crontab.{AreEntries, is_refused}
use Rattle.cj_check.specs.declared.crontab.entries.Entry.{Entry}

-- one refused line refuses the crontab
-- rule: crontab-status
abbrev pub ending_by : Bool → Ending
ending_by true = Refused
ending_by false = Done

abbrev pub image_words : List ℕ
image_words = codes "--image: -o yaml wants the image that has the commands, such as --image debian:12\n"

abbrev pub crontab_namespace_words : List ℕ
crontab_namespace_words = codes "--namespace: want at most 63 lower-case letters, digits and -, with a letter or a digit at both ends\n"

abbrev pub crontab_zone_words : List ℕ
crontab_zone_words = codes "--time-zone: want the name of a zone whose file is in the folder of --zoneinfo, or whose rule --zone gives\n"

abbrev pub long_words : List ℕ
long_words = codes "FILE: its manifests are more than 16,777,216 bytes, the most that check reads; split it\n"

-- the lines of the crontab were read, and one of them that is refused refuses it
-- rule: crontab-status
pub record IsCrontabRead (bytes : List ℕ) (o : Outcome) : Type 0 where
  pub entries : List Entry
  pub are : AreEntries bytes entries
  pub ending : o.ending ≡ ending_by (list_any is_refused entries)

-- the words are refused, for the first of these causes
-- rule: crontab-status
abbrev pub IsCrontabRefused : CrontabRequest → Outcome → Type 0
IsCrontabRefused r o =
    (o ≡ explained r.explain form_words (refusal (codes "cronsim: output\n")))
    ⊎ (o ≡ explained r.explain image_words (refusal (codes "cronsim: image\n")))
    ⊎ (o ≡ explained r.explain crontab_namespace_words (refusal (codes "cronsim: namespace\n")))
    ⊎ (o ≡ explained r.explain moment_words (refusal (codes "cronsim: time\n")))
    ⊎ (o ≡ explained r.explain pair_words (refusal (codes "cronsim: zone\n")))
    ⊎ (o ≡ explained r.explain crontab_zone_words (refusal (codes "cronsim: zone\n")))
    ⊎ (o ≡ explained r.explain long_words (refusal (codes "cronsim: output\n")))

-- what the bytes of a crontab are answered; its manifests may be too long
-- rule: crontab-status
abbrev pub IsBytesOutcome : CrontabRequest → List ℕ → Outcome → Type 0
IsBytesOutcome r bytes o = IsCrontabRefused r o ⊎ IsCrontabRead bytes o

-- all of the input is read
-- rule: crontab-status
pub record ReadsCrontab (r : CrontabRequest) (input : Option (List ℕ)) (o : Outcome) : Type 0 where
  pub bytes : List ℕ
  pub bytes_are : IfSome input (λ xs. bytes ≡ xs)
  pub answer : IsBytesOutcome r bytes o

-- what `crontab` answers, where the input is known
-- rule: crontab-status
abbrev pub IsCrontabOutcome : CrontabRequest → Option (List ℕ) → Outcome → Type 0
IsCrontabOutcome r input o = IsCrontabRefused r o ⊎ ReadsCrontab r input o
