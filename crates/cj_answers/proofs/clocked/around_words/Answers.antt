-- around_words: its one clause, as split_once splits at the words.
use Rattle.std.proofs.Common.{◌≡◌, ℕ, List, ◌++◌}
use Rattle.std.specs.Prelude.{Option, None, Some, IfSome, MatchOption}
use Rattle.std.specs.Borrow.{Bor}
use Rattle.std.specs.Str.Pattern.{FindsText, SplitsAroundMatch}
use Rattle.std.proofs.lemmas.Str.Pattern.{split_text_parts}
use Rattle.cj_answers.specs.Clocked.{utc_words}
use Rattle.cj_answers.proofs.clocked.around_words.Goals as goal

-- what is around a text that is found
around : (p bs : List ℕ) (r : Option (Bor (List ℕ) × Bor (List ℕ)))
    → MatchOption r (FindsText p bs None) (λ x. SplitsAroundMatch (FindsText p) bs x.0.now x.1.now)
    → IfSome r (λ x. bs ≡ x.0.now ++ (p ++ x.1.now))
around p bs None h = tt
around p bs (Some x) h = split_text_parts p bs (Some x) h

pub returns : goal.returns
returns c = around utc_words c.args.text.now c.split_once.result c.split_once.ensures.cases
