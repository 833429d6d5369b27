-- plain_end: a plain text that is printed ends where it stops.
use Rattle.std.proofs.Common.{◌<◌, length, refl, sym, ◌∙◌, arith}
use Rattle.cj_yaml.proofs.PlainEnds.{left_goes_on, left_over, left_stops}
use Rattle.cj_yaml.proofs.plain.plain_end.Goals as goal

pub returns-then-stops_plain : goal.returns-then-stops_plain
returns-then-stops_plain c =
    record {
      printed = λ t rest flat stands.
          left_stops c.args.text.now c.args.from c.loop-at.at _ _ t rest _ (c.loop-at.invariant t rest flat stands) refl
          c.byte.ensures (sym (c.stops_plain.ensures flat) ∙ c.if-stops_plain.true);
    }

pub loop-at-preserved : goal.loop-at-preserved
loop-at-preserved c = λ t rest flat stands.
    let h : c.loop-at.at < length c.args.text.now = omega arith in
    left_goes_on c.args.text.now c.args.from c.loop-at.at _ _ t rest _ h (c.loop-at.invariant t rest flat stands) refl
    c.byte.ensures (sym (c.stops_plain.ensures flat) ∙ c.if-stops_plain.false)

pub returns : goal.returns
returns c =
    record {
      printed = λ t rest flat stands.
          absurd (left_over c.args.text.now c.args.from c.loop-at.at t rest (omega arith)
          (c.loop-at.invariant t rest flat stands));
    }
