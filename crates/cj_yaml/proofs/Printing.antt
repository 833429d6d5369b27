-- A text that has grown by one that is printed.
use Rattle.std.proofs.Common.{◌≡◌, ℕ, List, ◌++◌, true, false, refl}
use Rattle.serde_json.specs.Data.{string}
use Rattle.serde_json.specs.Written.{compact_text}
use Rattle.cj_yaml.specs.Escapes.{coded_text}
use Rattle.cj_yaml.specs.Words.{IsPlainText, GrowsByPrinted, has_odd, is_plain_line, plain, as_json, coded}

-- For push_text: by a plain one.
pub grows_plain : (t old new : List ℕ) → IsPlainText t → is_plain_line t ≡ true → new ≡ old ++ t
    → GrowsByPrinted t old new
grows_plain t old new p l e = record { printed = t; grows = e; is = plain p l refl }

-- For push_text: by one as JSON has it.
pub grows_as_json : (t old new : List ℕ) → has_odd t ≡ false → new ≡ old ++ compact_text (string t)
    → GrowsByPrinted t old new
grows_as_json t old new h e = record { printed = compact_text (string t); grows = e; is = as_json h refl }

-- For push_text: by one with codes.
pub grows_coded : (t old new : List ℕ) → has_odd t ≡ true → new ≡ old ++ coded_text t → GrowsByPrinted t old new
grows_coded t old new h e = record { printed = coded_text t; grows = e; is = coded h refl }
