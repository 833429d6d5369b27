-- unfit_line: its ensures, by what the field holds.
use Rattle.std.proofs.Common.{◌≡◌, ◌++◌, subst, ℕ, List}
use Rattle.std.specs.Prelude.{IfOk, codes, string_bytes}
use Rattle.cj_check.specs.JobFields.{unfit_line}
use Rattle.cj_check.proofs.job_fields.unfit_line.Goals as goal

pub returns : goal.returns
unfolding unfit_line
returns c =
    subst (λ (w : List ℕ). IfOk c.format.result (λ s. string_bytes s ≡ c.args.prefix.now ++ (c.args.name.now
    ++ (codes ": want " ++ (w ++ codes "; the API server refuses another value\n"))))) c.wanted-wanted.ensures
    c.format.ensures.ok
