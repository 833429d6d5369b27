-- Families::new: its ensures, since no gap has a family among none.
use Rattle.std.proofs.Common.{List, ap}
use Rattle.std.specs.BTreeMap as tree
use Rattle.std.specs.Map.{lookup}
use Rattle.cj_program.specs.declared.remarks.families.Kind.{Kind}
use Rattle.cj_program.specs.declared.remarks.families.Tally.{Tally}
use Rattle.cj_program.specs.remarks.Families.{kind_cmp}
use Rattle.cj_program.proofs.remarks.families.Families.new.Goals as goal

pub returns : goal.returns
returns c = λ k. ap (λ (es : List (Kind × Tally)). lookup (tree.is_at (kind_cmp k)) es) c.new.ensures.empty
