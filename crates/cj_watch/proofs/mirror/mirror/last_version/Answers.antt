-- last_version: its clause where there is a last event, whose version is before plus their number.
use Rattle.std.proofs.Common.{◌≡◌, ◌-◌, length, slice_get, Some, sym, ap, ◌∙◌}
use Rattle.std.specs.Option.{option_copied}
use Rattle.cj_watch.proofs.MirrorLemmas.Numbered.{last_is}
use Rattle.cj_watch.proofs.mirror.mirror.last_version.Goals as goal

pub returns-in-Some : goal.returns-in-Some
returns-in-Some c =
    let events = c.args.events.now in
    let item : slice_get events (length events - 1) ≡ Some c.in-Some.event.now =
    sym c.last.ensures.value ∙ ap option_copied c.in-Some.is in
    c.version.ensures ∙ last_is c.args.before events c.in-Some.event.now item c.requires
