-- parse_words: its clause stated, by the matches that clap states, and its clause refused, where clap refuses and where
-- no request was read of the values.
use Rattle.std.proofs.Common.{map}
use Rattle.clap.specs.Words.{app_of, subcommand_of, subcommand_rows_of}
use Rattle.cj_args.specs.Command.{cronsim_app}
use Rattle.cj_args.proofs.words.parse_words.Goals as goal
use Rattle.cj_args.proofs.Refused.{by_clap, by_values}
use Rattle.cj_args.proofs.Simple.{simple_cronsim, simple_rows, stated_of}

pub returns-in_err-matches-clause-refused : goal.returns-in_err-matches-clause-refused
returns-in_err-matches-clause-refused c =
    by_clap _ c.in_err-matches.field-0.0 c.from_residual-in_err-matches.result _
    c.from_residual-in_err-matches.ensures.1
    c.in_ok-command.ensures c.in_err-matches.ensures.passes

pub returns-clause-stated : goal.returns-clause-stated
returns-clause-stated c =
    let words = map (λ w. w.now) c.args.words.now in
    stated_of c.request_of.result (subcommand_rows_of c.in_ok-matches.matches) (subcommand_of cronsim_app words)
    (simple_rows (app_of c.in_ok-command.command) cronsim_app words c.in_ok-matches.matches
    c.in_ok-command.ensures simple_cronsim c.in_ok-matches.ensures.matches)
    c.request_of.ensures.0

pub returns-clause-refused : goal.returns-clause-refused
returns-clause-refused c =
    by_values (map (λ w. w.now) c.args.words.now) (subcommand_rows_of c.in_ok-matches.matches) c.request_of.result
    c.request_of.ensures.1 c.request_of.ensures.2
    (simple_rows (app_of c.in_ok-command.command) cronsim_app
    (map (λ w. w.now) c.args.words.now) c.in_ok-matches.matches
    c.in_ok-command.ensures simple_cronsim c.in_ok-matches.ensures.matches)
