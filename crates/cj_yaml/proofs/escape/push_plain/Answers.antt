-- push_plain: the text has grown by one without quotes.
use Rattle.std.proofs.Common.{string_bytes}
use Rattle.cj_yaml.proofs.Printing.{grows_plain}
use Rattle.cj_yaml.proofs.escape.push_plain.Goals as goal

pub returns : goal.returns
returns c =
    grows_plain c.args.text.now (string_bytes c.args.out.now) (string_bytes c.push_str.new.self) c.requires.word
    c.requires.line c.in_ok-push_str.ensures.bytes
