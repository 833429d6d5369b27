-- serve_given: its clauses served and failed, where the input is read.
use Rattle.std.proofs.Common.{◌≡◌, ◌≤◌, ℕ, List, length, subst, sym}
use Rattle.std.specs.Prelude.{Option, IfSome}
use Rattle.cj_program.specs.Replay.{IsRead}
use Rattle.cj_program.proofs.replay.serve_given.Goals as goal

-- a slice of all that was read
read_from : (input : Option (List ℕ)) (slice bytes : List ℕ) (count : ℕ) → slice ≡ bytes → length slice ≡ count
    → IfSome input (λ xs. bytes ≡ xs)
    → count ≤ 16_777_216 → IsRead input slice
read_from input slice bytes count e l are fits = record {
  are = subst (λ (bs : List ℕ). IfSome input (λ xs. bs ≡ xs)) (sym e) are;
  fits = subst (λ (n : ℕ). n ≤ 16_777_216) (sym l) fits;
}

pub returns-in-Ok-clause-served : goal.returns-in-Ok-clause-served
returns-in-Ok-clause-served g c = λ lt files zones.
    c.serve_bytes.ensures.served lt files (g.R.Read.remaining c.args.input.now) zones
    (read_from (g.R.Read.remaining c.args.input.now) c.as_slice.result.now c.in-Ok.bytes.items c.in-Ok.bytes.len
    c.as_slice.ensures.value c.as_slice.ensures.len c.in-Ok.ensures.all c.in-Ok.ensures.fits)

pub returns-in-Ok-clause-failed : goal.returns-in-Ok-clause-failed
returns-in-Ok-clause-failed g c = λ e files zones.
    c.serve_bytes.ensures.failed e files (g.R.Read.remaining c.args.input.now) zones
    (read_from (g.R.Read.remaining c.args.input.now) c.as_slice.result.now c.in-Ok.bytes.items c.in-Ok.bytes.len
    c.as_slice.ensures.value c.as_slice.ensures.len c.in-Ok.ensures.all c.in-Ok.ensures.fits)
