-- table_of_file: its clause ok, that the local zone is the one made of the file.
use Rattle.std.proofs.Common.{◌≡◌, ◌∙◌, ap, refl, subst, [], ◌∷◌, ◌++◌, Some, codes}
use Rattle.cj_zone.specs.declared.zone.Zone.{Zone}
use Rattle.cj_zone.specs.declared.source.Source.TheVariants.{File}
use Rattle.cj_zone.specs.Zones.{utc_zone, zone_named}
use Rattle.cj_c.proofs.zones.table_of_file.Goals as goal

-- a zone of that name that was added to a new table is the one found there
zone_found : (zone : Zone) → zone.name ≡ codes "file"
    → zone_named (codes "file") (utc_zone (codes "UTC") ∷ utc_zone (codes "Etc/UTC") ∷ zone ∷ []) ≡ Some zone
zone_found zone e = rw e refl

pub returns-clause-ok : goal.returns-clause-ok
returns-clause-ok c = λ zone is.
    let a = c.in_ok-add_file.ensures.added in
    let b = c.in_ok-set_local.ensures.set in
    let there = ap (zone_named (codes "file")) (a.zones ∙ ap (λ zs. zs ++ a.zone ∷ []) c.in_ok-table.ensures.zones)
    ∙ zone_found a.zone a.name_is in
    let same : a.zone ≡ zone = cc (there, b.found, b.local, is) in
    let P : Zone → Type 0 = λ z. z.source ≡ File c.args.bytes.now in
    (subst P same a.source_is, a.clock)
