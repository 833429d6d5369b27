-- The values of an argument that may be given several times.
use Rattle.std.proofs.Common.{◌≡◌, List, [], map, Option, Result, IfOk, ap, sym, ◌∙◌, Bor, unwrap_or}
use Rattle.std.proofs.lemmas.Result.{IfOk-weaker}
use Rattle.std.specs.Prelude.{option_map, Vec}
use Rattle.clap.specs.Words.{Text, matched_of, raw_values, rows_of}
use Rattle.clap.specs.declared.parser.matches.Found.{Found}
use Rattle.clap.proofs.WalkLemmas.{raw_values-rows}
use Rattle.cj_args.specs.Command.{texts_of}

-- For texts: what get_strs states of the entries is what the rows state.
pub texts_found : (f : Found) (id : Text) (given : Option (List Text))
    → given ≡ option_map raw_values (matched_of f id) → texts_of id (rows_of f) ≡ unwrap_or given []
texts_found f id given at = ap (λ o. unwrap_or o []) (sym (at ∙ raw_values-rows f id))

-- For texts: a copy of the values has them in their order.
pub copied : {Z E : Type 0} (result : Result (Vec (Bor Text) Z) E) (wanted : List Text) (given : List (Bor Text))
    → wanted ≡ map (λ s. s.now) given → IfOk result (λ v. v.items ≡ given)
    → IfOk result (λ v. wanted ≡ map (λ s. s.now) v.items)
copied result wanted given at = IfOk-weaker result _ _ (λ v is. at ∙ ap (map (λ s. s.now)) (sym is))
