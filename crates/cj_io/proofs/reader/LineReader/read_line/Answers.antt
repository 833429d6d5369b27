-- read_line: that the loop's invariant stays, where a part more was taken and no line ended in it.
use Rattle.std.proofs.Common.{◌≡◌, ◌≢◌, ◌++◌, false, rules}
use Rattle.std.proofs.lemmas.List.Elements.{All-append}
use Rattle.cj_io.specs.Lines.{coming}
use Rattle.cj_io.proofs.LineLemmas.{kept_same, seen_more, seen_same}
use Rattle.cj_io.proofs.reader.LineReader.read_line.Goals as goal

pub loop-preserved : goal.loop-preserved
loop-preserved g c =
    let start = coming c.clear.new.self (g.R.Read.remaining c.args.input.now) in
    let before = coming c.loop.self (g.R.Read.remaining c.loop.input) in
    let filled = coming c.refill.new.self (g.R.Read.remaining c.refill.new.input) in
    let after = coming c.take.new.self (g.R.Read.remaining c.refill.new.input) in
    let seen = c.loop.invariant.0 in
    let part = c.take.ensures.0 in
    let more : c.take.result ≡ false = search rules in
    let same : c.refill.new.self.line.items ≡ c.loop.self.line.items = search rules in
    let kept = kept_same c.loop.self.kept c.refill.new.self.kept c.loop.self.line.items c.refill.new.self.line.items
    seen
    c.refill.ensures.kept same c.loop.invariant.2 in (
      seen ++ part,
      All-append (λ b. b ≢ 10) seen part c.loop.invariant.1 c.take.ensures.1,
      c.take.ensures.3 seen kept,
      seen_more start filled after seen part c.take.result more
          (seen_same start before filled seen c.loop.invariant.3 c.in_ok-refill.ensures.same)
          (c.take.ensures.2 (g.R.Read.remaining c.refill.new.input)),
    )
