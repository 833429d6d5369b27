-- A text that is printed as JSON has it reads as that text.
use Rattle.std.proofs.Common.{◌≡◌, ℕ, List, [], Option, Some, option_and_then, sym, ap, ◌∙◌, arith, append-nil}
use Rattle.json.specs.Token.{Token}
use Rattle.json.specs.Lex.{tokens}
use Rattle.json.specs.Json as json
use Rattle.json.specs.Tree.{json_tokens}
use Rattle.json.proofs.Printed.Tokens.{tokens-print}
use Rattle.json.proofs.Printed.Trees.{value-json_tokens, ArePrintable-json_tokens}
use Rattle.serde_json.specs.Data.{Data, string}
use Rattle.serde_json.specs.Read.{of_json, max_depth, read}
use Rattle.serde_json.specs.Written.{outline, compact_text}
use Rattle.serde_json.proofs.Texts.{print-outline}

-- Its tokens are the text alone.
tokens_again : (t : List ℕ) → tokens (compact_text (string t)) ≡ json_tokens (outline (string t))
tokens_again t =
    ap tokens (sym (print-outline (string t)))
    ∙ tokens-print (json_tokens (outline (string t))) (ArePrintable-json_tokens (outline (string t)) tt)

-- The value of what was parsed, where nothing is left behind it; a name for this part of read.
unfoldable pub last_alone : Option (json.Json × List Token) → Option Data
last_alone o = option_and_then of_json (option_and_then (λ p. json.if_last p.0 p.1) o)

-- The text in quotes reads as the text.
pub string_again : (t : List ℕ) → read (compact_text (string t)) ≡ Some (string t)
unfolding last_alone
string_again t =
    ap last_alone (ap (json.value max_depth) (tokens_again t ∙ sym (append-nil _))
    ∙ value-json_tokens (outline (string t)) max_depth [] (omega arith))
