-- The members of an object of JSON.
use Rattle.std.proofs.Common.{◌≡◌, refl, ℕ, List, [], ◌∷◌, Bor}
use Rattle.serde_json.specs.Data.{Members}
use Rattle.cj_json.specs.Named.{put_all}

-- no value gives no member
pub put_all-none : (names : List (Bor (List ℕ))) (ms : Members) → put_all names [] ms ≡ ms
put_all-none [] ms = refl
put_all-none (_ ∷ _) ms = refl
