-- What a plain text that begins like no number is (YAML 1.2.2, 10.3.2), and how texts are printed.
use Rattle.std.specs.Prelude.{ℕ, List, [], ◌∷◌, Bool, true, false, cond, codes, ◌||◌, ◌&&◌, ◌==◌}
use Rattle.std.specs.Prelude.{◌≡◌, ◌++◌, nat_le, nat_lt, not, Some, None, slice_index}
use Rattle.std.specs.Char.{is_ascii_alphabetic, is_ascii_alphanumeric}
use Rattle.std.specs.List.{list_any}
use Rattle.std.specs.Str.{bytes_eq}
use Rattle.serde_json.specs.Data.{string}
use Rattle.serde_json.specs.Written.{compact_text}
use Rattle.cj_yaml.specs.declared.mark.WarningKind.TheVariants.{Boolean}
use Rattle.cj_yaml.specs.declared.resolve.Plain.{Plain}
use Rattle.cj_yaml.specs.declared.resolve.Plain.TheVariants.{Null, Bool as Truth, Text}
use Rattle.cj_yaml.specs.Escapes.{coded_text}

-- a text that begins with a digit, a sign or a dot, as numbers do
-- rule: yaml-words
abbrev pub begins_number : List ℕ → Bool
begins_number t =
    (nat_le 48 (slice_index t 0) && nat_le (slice_index t 0) 57)
    || (slice_index t 0 == 43) || (slice_index t 0 == 45) || (slice_index t 0 == 46)

abbrev pub is_null : List ℕ → Bool
is_null t =
    bytes_eq t [] || bytes_eq t (codes "~") || bytes_eq t (codes "null")
    || bytes_eq t (codes "Null") || bytes_eq t (codes "NULL")

abbrev pub is_true : List ℕ → Bool
is_true t = bytes_eq t (codes "true") || bytes_eq t (codes "True") || bytes_eq t (codes "TRUE")

abbrev pub is_false : List ℕ → Bool
is_false t = bytes_eq t (codes "false") || bytes_eq t (codes "False") || bytes_eq t (codes "FALSE")

-- a boolean of YAML 1.1 that is a text in YAML 1.2
abbrev pub is_old_true : List ℕ → Bool
is_old_true t =
    (bytes_eq t (codes "y") || bytes_eq t (codes "Y") || bytes_eq t (codes "on")
    || bytes_eq t (codes "On") || bytes_eq t (codes "ON"))
    || bytes_eq t (codes "yes") || bytes_eq t (codes "Yes") || bytes_eq t (codes "YES")

abbrev pub is_old_false : List ℕ → Bool
is_old_false t =
    (bytes_eq t (codes "n") || bytes_eq t (codes "N") || bytes_eq t (codes "no")
    || bytes_eq t (codes "No") || bytes_eq t (codes "NO"))
    || bytes_eq t (codes "off") || bytes_eq t (codes "Off") || bytes_eq t (codes "OFF")

-- what it is: nothing, a boolean, or a text, of which YAML 1.1 may read another
-- rule: yaml-words
abbrev pub word_of : List ℕ → Plain
word_of t =
    cond (is_null t) Null
    (cond (is_true t) (Truth true)
    (cond (is_false t) (Truth false)
    (cond (is_old_true t || is_old_false t) (Text (Some Boolean)) (Text None))))

-- a text that is one where it stands without quotes, in YAML 1.1 too
-- rules: yaml-printed, yaml-reads-back
pub record IsPlainText (t : List ℕ) : Type 0 where
  pub begins : begins_number t ≡ false
  pub word : word_of t ≡ Text None

-- three bytes begin with a character that readers of YAML 1.1 refuse, or take for a line break:
-- DEL, U+0080 to U+009F, U+2028, U+2029, U+FEFF, U+FFFE and U+FFFF
abbrev pub begins_odd : ℕ → ℕ → ℕ → Bool
begins_odd a b c =
    (a == 127) || ((a == 194) && nat_lt b 160)
    || ((a == 226) && (b == 128) && ((c == 168) || (c == 169)))
    || ((a == 239) && (((b == 187) && (c == 191)) || ((b == 191) && nat_lt 189 c)))

-- such a character is in a text
-- rule: yaml-printed
abbrev pub has_odd : List ℕ → Bool
has_odd [] = false
has_odd (a ∷ rest) = begins_odd a (slice_index rest 0) (slice_index rest 1) || has_odd rest

-- a byte that may stand in a plain text that is printed, but not everywhere in it (7.3.3)
abbrev pub is_plain_byte : ℕ → Bool
is_plain_byte b = is_ascii_alphanumeric b || list_any (λ c. c == b) (codes "_-./+=@% ();^~<$:")

-- it may stand behind another byte of such a text: no `:` is before a space
abbrev pub may_be_behind : ℕ → ℕ → Bool
may_be_behind before b = is_plain_byte b && not ((before == 58) && (b == 32))

-- behind a byte: each one may stand there, and neither a space nor a `:` ends them
abbrev pub is_plain_rest : ℕ → List ℕ → Bool
is_plain_rest before [] = not (before == 32) && not (before == 58)
is_plain_rest before (b ∷ rest) = may_be_behind before b && is_plain_rest b rest

-- a letter, `/` or `_`
abbrev pub begins_plain : ℕ → Bool
begins_plain b = is_ascii_alphabetic b || (b == 47) || (b == 95)

-- a text that may stand on a line without quotes (7.3.3)
-- rule: yaml-printed
abbrev pub is_plain_line : List ℕ → Bool
is_plain_line t = begins_plain (slice_index t 0) && is_plain_rest 32 t

-- how a text is printed: as it is, as JSON has it, or with codes where it has such characters
-- rule: yaml-printed
pub data IsPrinted : List ℕ → List ℕ → Type 0 where
  plain : {t printed : List ℕ} → IsPlainText t → is_plain_line t ≡ true → printed ≡ t
      → IsPrinted t printed
  as_json : {t printed : List ℕ} → has_odd t ≡ false → printed ≡ compact_text (string t)
      → IsPrinted t printed
  coded : {t printed : List ℕ} → has_odd t ≡ true → printed ≡ coded_text t → IsPrinted t printed

-- a text has grown by one that is printed
pub record GrowsByPrinted (t old new : List ℕ) : Type 0 where
  pub printed : List ℕ
  pub grows : new ≡ old ++ printed
  pub is : IsPrinted t printed
