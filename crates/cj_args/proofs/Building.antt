-- What each step that builds the command line adds to an argument or to a command.
use Rattle.std.proofs.Common.{◌≡◌, ◌∙◌, ℕ, ◌∷◌, [], ap, false, true, Bool, Some, Option, Result, Ok, IfOk, Bor}
use Rattle.std.specs.Prelude.{◌||◌, None, IsSomeAnd}
use Rattle.clap.specs.declared.builder.range.ValueRange.{ValueRange}
use Rattle.std.proofs.lemmas.Result.{IfOk-weaker}
use Rattle.clap.specs.Words.{AddsArg, AddsSubcommand, App, Rule, Text, app_of, new_app, new_rule, rule_of, with_rule, with_subcommand}
use Rattle.clap.specs.Simple.{app_of_fields}
use Rattle.clap.specs.declared.builder.action.ArgAction.{ArgAction}
use Rattle.clap.specs.declared.builder.arg.Arg.{Arg}
use Rattle.clap.specs.declared.builder.command.Command.{Command}
use Rattle.clap.specs.declared.builder.command.Command.TheOpen.{Command-F}
use Rattle.clap.specs.declared.builder.command.Command.TheViews.{out-Command}
use Rattle.clap.specs.declared.builder.texts.Texts.TheVariants.{One}
use Rattle.clap.specs.declared.builder.value_parser.ValueParser.{ValueParser}
use Rattle.cj_args.specs.Building.{IsArg, IsCommand}

-- a new argument has no rule yet
pub new_is : (a : Arg) (id : Text) → rule_of a ≡ new_rule id → a.global ≡ false → IsArg (new_rule id) a
new_is a id rule local = record { rule = rule; local = local }

-- what help says of an argument is no rule of it
pub help_is : (r : Rule) (old new : Arg) (text : Bor Text) → new ≡ record old { help = Some text } → IsArg r old
    → IsArg r new
help_is r old new text is at = record {
  rule = ap rule_of is ∙ at.rule;
  local = ap (λ (a : Arg). a.global) is ∙ at.local;
}

-- a long name is one
pub long_is : (r : Rule) (old new : Arg) (name : Bor Text) → new ≡ record old { long = Some name } → IsArg r old
    → IsArg (record r { long = Some name.now }) new
long_is r old new name is at = record {
  rule = ap rule_of is ∙ ap (λ (x : Rule). record x { long = Some name.now }) at.rule;
  local = ap (λ (a : Arg). a.global) is ∙ at.local;
}

-- so is a letter
pub short_is : (r : Rule) (old new : Arg) (letter : ℕ) → new ≡ record old { short = Some letter } → IsArg r old
    → IsArg (record r { short = Some letter }) new
short_is r old new letter is at = record {
  rule = ap rule_of is ∙ ap (λ (x : Rule). record x { short = Some letter }) at.rule;
  local = ap (λ (a : Arg). a.global) is ∙ at.local;
}

-- so is the name of its value
pub value_name_is : (r : Rule) (old new : Arg) (name : Bor Text) → new ≡ record old { val_names = One name }
    → IsArg r old
    → IsArg (record r { value_names = 1 }) new
value_name_is r old new name is at = record {
  rule = ap rule_of is ∙ ap (λ (x : Rule). record x { value_names = 1 }) at.rule;
  local = ap (λ (a : Arg). a.global) is ∙ at.local;
}

-- so is whether it has to be given
pub required_is : (r : Rule) (old new : Arg) (needed : Bool) → new ≡ record old { required = needed } → IsArg r old
    → IsArg (record r { required = needed }) new
required_is r old new needed is at = record {
  rule = ap rule_of is ∙ ap (λ (x : Rule). record x { required = needed }) at.rule;
  local = ap (λ (a : Arg). a.global) is ∙ at.local;
}

-- so is what is done where it is given
pub action_is : (r : Rule) (old new : Arg) (action : ArgAction) → new ≡ record old { action = Some action }
    → IsArg r old
    → IsArg (record r { action = Some action }) new
action_is r old new action is at = record {
  rule = ap rule_of is ∙ ap (λ (x : Rule). record x { action = Some action }) at.rule;
  local = ap (λ (a : Arg). a.global) is ∙ at.local;
}

-- so is the value that it has where it is not given
pub default_is : (r : Rule) (old new : Arg) (value : Bor Text) → new ≡ record old { default_vals = One value }
    → IsArg r old
    → IsArg (record r { defaults = value.now ∷ [] }) new
default_is r old new value is at = record {
  rule = ap rule_of is ∙ ap (λ (x : Rule). record x { defaults = value.now ∷ [] }) at.rule;
  local = ap (λ (a : Arg). a.global) is ∙ at.local;
}

-- so is the reader of its value
pub parser_is : (r : Rule) (old new : Arg) (p q : ValueParser) → new ≡ record old { value_parser = new.value_parser }
    → new.value_parser ≡ Some q → q ≡ p → IsArg r old → IsArg (record r { parser = Some p }) new
parser_is r old new p q is given same at = record {
  rule = ap rule_of is ∙ ap (λ (x : Option ValueParser). record (rule_of old) { parser = x }) (given ∙ ap Some same)
      ∙ ap (λ (x : Rule). record x { parser = Some p }) at.rule;
  local = ap (λ (a : Arg). a.global) is ∙ at.local;
}

-- For range_is: some value that is this one.
some_and : {X : Type 0} (given : Option X) (x : X) → IsSomeAnd given (λ y. y ≡ x) → given ≡ Some x
some_and None x h = absurd h
some_and (Some y) x h = ap Some h

-- so is how many values a use takes
pub range_is : (r : Rule) (old new : Arg) (range : ValueRange)
    → (new ≡ record old { num_vals = new.num_vals }) × IsSomeAnd new.num_vals (λ x. x ≡ range) → IsArg r old
    → IsArg (record r { range = Some range }) new
range_is r old new range (is, given) at =
    let given : new.num_vals ≡ Some range = some_and new.num_vals range given in record {
      rule = ap rule_of is ∙ ap (λ (x : Option ValueRange). record (rule_of old) { range = x }) given
          ∙ ap (λ (x : Rule). record x { range = Some range }) at.rule;
      local = ap (λ (a : Arg). a.global) is ∙ at.local;
    }

-- a new command has no rule yet
pub new_command_is : (c : Command) (name : Text) → app_of c ≡ new_app name → (out-Command c).has_globals ≡ false
    → IsCommand (new_app name) c
new_command_is c name app local = record { app = app; local = local }

-- what help says of a command is nothing that a parse reads
pub about_is : (a : App) (old new : Command) (text : Bor Text)
    → out-Command new ≡ record (out-Command old) { about = Some text }
    → IsCommand a old → IsCommand a new
about_is a old new text is at = record {
  app = ap app_of_fields is ∙ at.app;
  local = ap (λ (f : Command-F Command). f.has_globals) is ∙ at.local;
}

-- nor is what help says after its options
pub after_help_is : (a : App) (old new : Command) (text : Bor Text)
    → out-Command new ≡ record (out-Command old) { after_help = Some text } → IsCommand a old → IsCommand a new
after_help_is a old new text is at = record {
  app = ap app_of_fields is ∙ at.app;
  local = ap (λ (f : Command-F Command). f.has_globals) is ∙ at.local;
}

-- a version is one, whatever it says
pub version_is : (a : App) (old new : Command) (text : Bor Text)
    → out-Command new ≡ record (out-Command old) { version = Some text } → IsCommand a old
    → IsCommand (record a { top = record a.top { has_version = true } }) new
version_is a old new text is at = record {
  app = ap app_of_fields is ∙ ap (λ (x : App). record x { top = record x.top { has_version = true } }) at.app;
  local = ap (λ (f : Command-F Command). f.has_globals) is ∙ at.local;
}

-- so is whether a subcommand has to follow
pub subcommand_required_is : (a : App) (old new : Command) (needed : Bool)
    → out-Command new ≡ record (out-Command old) { subcommand_required = needed } → IsCommand a old
    → IsCommand (record a { top = record a.top { subcommand_required = needed } }) new
subcommand_required_is a old new needed is at = record {
  app = ap app_of_fields is ∙ ap (λ (x : App). record x { top = record x.top { subcommand_required = needed } }) at.app;
  local = ap (λ (f : Command-F Command). f.has_globals) is ∙ at.local;
}

-- where a command could be made, it is the one that is meant
at_ok : {E : Type 0} (made : Result Command E) (a : App) (c : Command) → made ≡ Ok c → IfOk made (IsCommand a)
    → IsCommand a c
at_ok made a c is at = rw is at at

-- an argument that is added to a command is one more rule of it
pub arg_is : {E F : Type 0} (made : Result Command E) (result : Result Command F) (a : App) (r : Rule) (old : Command)
    (arg : Arg)
    → made ≡ Ok old → IfOk result (λ new. AddsArg old arg new) → IfOk made (IsCommand a) → IsArg r arg
    → IfOk result (IsCommand (with_rule a r))
arg_is made result a r old arg ok adds meant is =
    let at = at_ok made a old ok meant in
    IfOk-weaker result _ _ (λ new added. record {
      app = added.shape is.local ∙ ap (λ (x : App). with_rule x (rule_of arg)) at.app ∙ ap (with_rule a) is.rule;
      local = added.globals ∙ ap (λ g. g || arg.global) at.local ∙ is.local;
    }) adds

-- a command that is added below another is one more of its subcommands
pub subcommand_is : {E F G : Type 0} (made : Result Command E) (made_below : Result Command F)
    (result : Result Command G)
    (a b : App) (old below : Command) → made ≡ Ok old → made_below ≡ Ok below
    → IfOk result (λ new. AddsSubcommand old below new) → IfOk made (IsCommand a) → IfOk made_below (IsCommand b)
    → IfOk result (IsCommand (with_subcommand a b.top))
subcommand_is made made_below result a b old below ok ok_below adds meant meant_below =
    let at = at_ok made a old ok meant in
    let is = at_ok made_below b below ok_below meant_below in
    IfOk-weaker result _ _ (λ new added. record {
      app = added.shape is.local ∙ ap (λ (x : App). with_subcommand x (app_of below).top) at.app
          ∙ ap (λ (x : App). with_subcommand a x.top) is.app;
      local = added.globals ∙ ap (λ g. g || (out-Command below).has_globals) at.local ∙ is.local;
    }) adds
