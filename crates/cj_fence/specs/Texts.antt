-- Names, uids and versions are opaque texts: they are compared, and never read or ordered
-- (Kubernetes API concepts, "Resource versions": "clients must treat them as opaque").
use Rattle.std.specs.Prelude.{ℕ, nat_eq, Bool, List}
use Rattle.std.specs.Cmp.Lexicographic.{pointwise}

-- whether two texts are one, byte by byte
unfoldable pub is_same : List ℕ → List ℕ → Bool
is_same a b = pointwise nat_eq a b
