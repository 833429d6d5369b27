-- The version of the library.
use Rattle.std.specs.Prelude.{ℕ, List, codes}

-- rule: library-version
abbrev pub version : List ℕ
version = codes "0.2.0"
