-- push_odd: the text has grown by one with codes.
use Rattle.std.proofs.Common.{string_bytes}
use Rattle.cj_yaml.proofs.Printing.{grows_coded}
use Rattle.cj_yaml.proofs.escape.push_odd.Goals as goal

pub returns : goal.returns
returns c =
    grows_coded c.args.text.now (string_bytes c.args.out.now) (string_bytes c.push_coded.new.out) c.requires
    c.in_ok-push_coded.ensures
