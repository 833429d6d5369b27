-- push_quoted: the text has grown by one as JSON has it.
use Rattle.std.proofs.Common.{string_bytes}
use Rattle.cj_yaml.proofs.Printing.{grows_as_json}
use Rattle.cj_yaml.proofs.escape.push_quoted.Goals as goal

pub returns : goal.returns
returns c =
    grows_as_json c.args.text.now (string_bytes c.args.out.now) (string_bytes c.push_json.new.out) c.requires
    c.in_ok-push_json.ensures
