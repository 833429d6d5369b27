-- replay_answer: its ensures where the rules are taken, from what the script is answered under the zones.
use Rattle.std.proofs.Common.{◌≡◌, inr, ℕ, List, ◌≤◌, subst, sym}
use Rattle.std.proofs.lemmas.Result.{IfOk-weaker}
use Rattle.std.specs.Prelude.{IfSome, MatchOption, []}
use Rattle.cj_answers.specs.Given.{IsNoneGiven, IsReadUnder}
use Rattle.cj_program.proofs.played.replay_answer.Goals as goal

pub returns : goal.returns
returns g c =
    let r = c.args.replay.now in
    let under : IsReadUnder r.zones c.args.files.now c.in-Some.given =
    subst (λ o. MatchOption o (IsNoneGiven r.zones []) (IsReadUnder r.zones c.args.files.now)) c.in-Some.is
    c.in_ok-given.ensures in
    IfOk-weaker c.bytes_answer.result _ _ (λ a played. inr (record {
      given = c.in-Some.given;
      zones = under;
      bytes = c.as_slice.result.now;
      read = record {
        are = subst (λ (bs : List ℕ). IfSome (g.R.Read.remaining c.args.input.now) (λ xs. bs ≡ xs))
            (sym c.as_slice.ensures.value) c.in_ok-bytes.ensures.all;
        fits = subst (λ (n : ℕ). n ≤ 16_777_216) (sym c.as_slice.ensures.len) c.in_ok-bytes.ensures.fits;
      };
      played = played;
    }))
    c.bytes_answer.ensures
