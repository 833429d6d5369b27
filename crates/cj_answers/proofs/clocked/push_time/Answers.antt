-- push_time: its one clause, from the lemma adds_time of ClockedLemmas.
use Rattle.std.proofs.Common.{string_bytes}
use Rattle.cj_answers.proofs.ClockedLemmas.{adds_time}
use Rattle.cj_answers.proofs.clocked.push_time.Goals as goal

pub returns : goal.returns
returns c =
    adds_time _ c.args.time c.args.front.now (string_bytes c.in_ok-text.text) _ _ _ c.requires c.in_ok-text.ensures.ok
    c.in_ok-push_str.ensures.bytes (rw c.as_str.ensures.value at c.in_ok-push_str-2.ensures.bytes)
