-- How many times were missed, and since when: Kubernetes CronJob documentation, "CronJob
-- limitations".
use Rattle.std.specs.Prelude.{ℕ, List, ◌++◌, codes, decimal}
use Rattle.cj_types.specs.declared.cron.CronJob.{CronJob}
use Rattle.cj_due.specs.declared.answer.Missed.{Missed}
use Rattle.cj_due.specs.declared.answer.Missed.TheVariants as Kind
use Rattle.cj_zone.specs.TimeText.{time_text_of}
use Rattle.cj_why.specs.Since.{since_words}

-- since an instant, and what set that
abbrev pub none_words : List ℕ → List ℕ → List ℕ
none_words since what =
    codes "missed: none since " ++ (since ++ (codes " (" ++ (what ++ codes ")\n")))

abbrev pub few_words : List ℕ → List ℕ → ℕ → List ℕ → List ℕ
few_words since what count latest =
    codes "missed: " ++ (decimal count ++ (codes " since " ++ (since ++ (codes " (" ++ (what
    ++ (codes "), the latest at " ++ (latest ++ codes "\n")))))))

abbrev pub many_words : List ℕ → List ℕ → List ℕ → List ℕ
many_words since what latest =
    codes "missed: more than 100 since " ++ (since ++ (codes " (" ++ (what
    ++ (codes "), the latest at " ++ (latest ++ codes "\n")))))

-- none; or their number, from 1 to 100, and the latest of them; or more than 100, and the latest of
-- them
-- rule: explain-why
abbrev pub missed_words : Missed → List ℕ → List ℕ → List ℕ
missed_words Kind.None since what = none_words since what
missed_words (Kind.Some count latest) since what = few_words since what count (time_text_of latest)
missed_words (Kind.Many latest) since what = many_words since what (time_text_of latest)

-- the instant after which times count isn't below the moment
-- rule: explain-why
abbrev pub no_window : CronJob → ℕ → List ℕ
no_window cron now = codes "missed: none, as times count after "
    ++ (since_words cron now ++ codes ", which isn't past\n")
