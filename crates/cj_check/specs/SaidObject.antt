-- The object that a faulty manifest is of, as far as its value says it.
use Rattle.std.specs.Prelude.{ℕ, List, codes, Option, None, Some, option_and_then, unwrap_or}
use Rattle.serde_json.specs.Data.{Data, null, string}
use Rattle.serde_json.specs.Find.{as_str}
use Rattle.cj_manifest.specs.Members.{present}

-- a text, or null where there is none
abbrev pub text_or_null : Option (List ℕ) → Data
text_or_null None = null
text_or_null (Some text) = string text

-- the kind that a value says
abbrev pub kind_in : Data → Option (List ℕ)
kind_in d = option_and_then as_str (present (codes "kind") d)

-- the member of its metadata that has this name
abbrev pub meta_in : List ℕ → Data → Option (List ℕ)
meta_in name d = option_and_then (λ meta. option_and_then as_str (present name meta))
    (present (codes "metadata") d)

-- the namespace that it says, else `default`
abbrev pub home_in : Data → List ℕ
home_in d = unwrap_or (meta_in (codes "namespace") d) (codes "default")
