-- How texts stand in columns, and keys in them.
use Rattle.std.specs.Prelude.{ℕ, ◌-◌, List, ◌++◌, codes, length, replicate, Option, Some, None}
use Rattle.cj_types.specs.Keys.{Place}

-- a cell, and blanks behind it
abbrev pub cell : ℕ → List ℕ → List ℕ
cell width text = text ++ replicate (width - length text) 32

-- `NAMESPACE/NAME`
abbrev pub place_word : Place → List ℕ
place_word key = key.namespace ++ (codes "/" ++ key.name)

abbrev pub key_word : Option Place → List ℕ
key_word None = codes "-"
key_word (Some key) = place_word key
