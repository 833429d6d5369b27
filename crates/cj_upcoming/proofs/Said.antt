-- What is said of a schedule, by whether it allows some date.
use Rattle.std.proofs.Common.{◌≡◌, true, false, ◌&&◌, ap}
use Rattle.std.specs.Prelude.{codes}
use Rattle.cj_schedule.specs.Matches.{Sets}
use Rattle.cj_upcoming.specs.Dates.{has_date, has_month}
use Rattle.cj_upcoming.specs.Sentence.{date_words, words_of, words_where}

-- Where it does, its words are those of its sets.
pub words_yes : (s : Sets) → true ≡ (has_month s && has_date s) → date_words s ≡ words_of s
unfolding words_of
words_yes s e = ap (λ b. words_where b s) e

-- Where it doesn't, that is said.
pub words_none : (s : Sets) → false ≡ (has_month s && has_date s) → codes "At no time" ≡ words_of s
unfolding words_of
words_none s e = ap (λ b. words_where b s) e
