-- push_fresh: its clause ok where the name is among those before.
use Rattle.std.proofs.Common.{◌≡◌, ◌++◌, ◌∙◌, ℕ, List, [], ◌∷◌, true, Some, if◌then◌else◌, ap, sym, append-nil}
use Rattle.std.specs.List.{list_any}
use Rattle.std.specs.Prelude.{bytes_eq}
use Rattle.cj_upcoming.specs.Zones.{fresh}
use Rattle.cj_upcoming.proofs.zone_changes.push_fresh.Goals as goal

-- A name that is among those before isn't new.
none_fresh : (seen : List (List ℕ)) (name : List ℕ) → list_any (λ n. bytes_eq n name) seen ≡ true
    → seen ≡ seen ++ fresh seen (Some name)
none_fresh seen name e = sym (ap (λ b. seen ++ (if b then [] else name ∷ [])) e ∙ append-nil seen)

pub returns-then-is_among-clause-ok : goal.returns-then-is_among-clause-ok
returns-then-is_among-clause-ok c =
    none_fresh c.args.names.now.items c.args.name.now
    (ap (λ xs. list_any (λ n. bytes_eq n c.args.name.now) xs) (sym c.as_slice.ensures.value) ∙ sym c.is_among.ensures
    ∙ c.if-is_among.true)
