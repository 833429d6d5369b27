-- object_of: no value is left at the end.
use Rattle.std.proofs.Common.{◌∙◌, ap, sym}
use Rattle.std.proofs.lemmas.List.{nil_from_length}
use Rattle.serde_json.specs.Data.{object}
use Rattle.serde_json.specs.View.{members_view}
use Rattle.serde_json.proofs.Views.{view-Object}
use Rattle.cj_json.specs.Named.{put_all}
use Rattle.cj_json.proofs.NamedLemmas.{put_all-none}
use Rattle.cj_json.proofs.named.object_of.Goals as goal

pub returns : goal.returns
returns g c =
    let names = c.loop-value.names.rest.now in
    let members = members_view c.loop-value.map.entries in
    let none = nil_from_length _ c.in-None.ensures.steps.0 in
    view-Object c.loop-value.map
    ∙ ap object (sym (put_all-none names members)
    ∙ sym (ap (λ vs. put_all names vs members) none)
    ∙ c.loop-value.invariant)
