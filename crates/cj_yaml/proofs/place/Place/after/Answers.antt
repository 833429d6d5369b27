-- after: at the end all bytes are passed.
use Rattle.std.proofs.Common.{◌≡◌, ◌-◌, ap, ◌∙◌, arith}
use Rattle.cj_yaml.specs.Places.{place_after}
use Rattle.cj_yaml.proofs.place.Place.after.Goals as goal

pub returns : goal.returns
returns c =
    let all : c.loop-at.at - c.args.from ≡ c.args.to - c.args.from = omega (arith, c.loop-at.invariant.1) in
    c.loop-at.invariant.0 ∙ ap (λ n. place_after c.args.text.now c.args.from n c.args.self) all
