-- Texts that are no JSON and that people have by mistake.
use Rattle.std.specs.Prelude.{ℕ, ◌||◌, Bool, List, [], ◌∷◌, codes, if◌then◌else◌}
use Rattle.cj_answers.specs.Suggestion.{begins}

-- what `kubectl get` prints without `-o json`
abbrev pub is_table : List ℕ → Bool
is_table bytes = begins (codes "NAME ") bytes || begins (codes "NAMESPACE ") bytes

-- what kubectl says where it has no objects
abbrev pub is_message : List ℕ → Bool
is_message bytes =
    begins (codes "Error from server") bytes || begins (codes "error: ") bytes
    || begins (codes "The connection to the server") bytes
    || begins (codes "Unable to connect") bytes
    || begins (codes "No resources found") bytes

-- what Helm makes manifests of
abbrev pub is_template : List ℕ → Bool
is_template bytes = begins (codes "{{") bytes

-- UTF-16 behind a byte order mark, and what gzip packs (RFC 1952)
abbrev pub encoding_words : List ℕ → List ℕ
encoding_words bytes =
    if begins (255 ∷ 254 ∷ []) bytes || begins (254 ∷ 255 ∷ []) bytes then codes
    "it is UTF-16, as PowerShell writes it; iconv -f UTF-16 -t UTF-8 FILE makes UTF-8 of it\n"
    else if begins (31 ∷ 139 ∷ []) bytes then codes
    "it is packed by gzip; gunzip -c FILE unpacks it, and - in the place of FILE reads that\n"
    else []

-- rule: explain-terminal
abbrev pub shape_words : List ℕ → List ℕ
shape_words bytes =
    if is_table bytes
    then codes "it is kubectl's table; kubectl get -o json prints JSON\n"
    else if is_message bytes then codes "it is a message of kubectl, and no object\n"
    else if is_template bytes
    then codes "it is a template of Helm; helm template . | cronsim check - checks what it makes\n"
    else encoding_words bytes
