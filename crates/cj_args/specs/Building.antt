-- What the steps that build the command line state of an argument and of a command.
use Rattle.std.specs.Prelude.{◌≡◌, Some, true, false, codes}
use Rattle.clap.specs.Words.{App, Rule, Text, app_of, new_app, new_rule, rule_of}
use Rattle.clap.specs.declared.builder.arg.Arg.{Arg}
use Rattle.clap.specs.declared.builder.command.Command.{Command}
use Rattle.clap.specs.declared.builder.command.Command.TheViews.{out-Command}

-- an option with one value, whose long name is its id
abbrev pub option_rule : Text → Rule
option_rule id = record (new_rule id) { long = Some id; value_names = 1 }

-- such an option that has to be given
abbrev pub required_rule : Text → Rule
required_rule id = record (option_rule id) { required = true }

-- an argument that is known by its place, and has to be given
abbrev pub positional_rule : Text → Rule
positional_rule id = record (new_rule id) { required = true; value_names = 1 }

-- the program's command line with no command yet
abbrev pub bare_app : App
bare_app =
    let bare = new_app (codes "cronsim") in
    record bare { top = record bare.top { has_version = true; subcommand_required = true } }

-- the argument has the rule, for its own command alone
pub record IsArg (r : Rule) (a : Arg) : Type 0 where
  pub rule : rule_of a ≡ r
  pub local : a.global ≡ false

-- the command is the one that is meant, and passes none of its arguments on
pub record IsCommand (a : App) (c : Command) : Type 0 where
  pub app : app_of c ≡ a
  pub local : (out-Command c).has_globals ≡ false
