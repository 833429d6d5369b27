-- The program's command line is one of which the matches are known.
use Rattle.std.proofs.Common.{◌≡◌, List, true, refl, ap, ◌∙◌, Option, Result, IfOk}
use Rattle.clap.specs.Words.{App, HasMatchesOf, Row, Text, is_simple, subcommand_of, subcommand_rows_of}
use Rattle.clap.specs.declared.parser.matches.ArgMatches.{ArgMatches}
use Rattle.cj_args.specs.Command.{IsOfRows, cronsim_app}
use Rattle.cj_args.specs.declared.request.Request.{Request}

-- For parse_words: the program's command line is simple.
pub simple_cronsim : is_simple cronsim_app ≡ true
simple_cronsim = refl

-- For parse_words: the matches of a simple command have the subcommand that the words name.
pub simple_rows : (a b : App) (words : List Text) (m : ArgMatches) → a ≡ b → is_simple b ≡ true
    → HasMatchesOf a words m → subcommand_rows_of m ≡ subcommand_of b words
simple_rows a b words m same simple has =
    (has (ap is_simple same ∙ simple)).1 ∙ ap (λ x. subcommand_of x words) same

-- For parse_words: a request that was read of the matches is one of the subcommand that the words name.
pub stated_of : {E : Type 0} (result : Result Request E) (found named : Option (Text × List Row)) → found ≡ named
    → IfOk result (IsOfRows found) → IfOk result (IsOfRows named)
stated_of result found named same stated = rw (← same) stated
