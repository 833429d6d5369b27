-- The order in which a table keeps its keys.
use Rattle.std.specs.Prelude.{ℕ, ◌++◌}
use Rattle.std.specs.List.{fold}
use Rattle.std.specs.Hash as fed
use Rattle.std.specs.Hash.FoldHasher.{initial, write, finish}
use Rattle.std.specs.Ordering.{on, then_cmp, nat_cmp}
use Rattle.std.specs.Cmp.{IsTotalOrder, on_total, then_total, nat_cmp_total}
use Rattle.std.specs.Cmp.Lexicographic.{nat_list_cmp_total}
use Rattle.std.specs.declared.cmp.Ordering.{Ordering}
use Rattle.cj_types.specs.Keys.{Place, place_cmp}

-- the hash of a key by std's hasher, which has no secret
unfoldable pub hash_of : Place → ℕ
hash_of k = finish (fold write initial (fed.str k.namespace ++ fed.str k.name))

-- a key with its hash
abbrev pub tag : Place → ℕ × Place
tag k = (hash_of k, k)

-- the order of tagged keys: by the hash, and then by the key
abbrev pub tag_cmp : ℕ × Place → ℕ × Place → Ordering
tag_cmp = then_cmp (on (λ t. t.0) nat_cmp) (on (λ t. t.1) place_cmp)

-- the order of keys by their hash, and of those of one hash by their texts
-- rule: table
abbrev pub hash_cmp : Place → Place → Ordering
hash_cmp = on tag tag_cmp

-- the order of tagged keys is total
pub tag_total : IsTotalOrder tag_cmp
tag_total = then_total (on_total (λ t. t.0) nat_cmp_total)
    (on_total (λ t. t.1) (then_total (on_total (λ k. k.namespace) nat_list_cmp_total)
    (on_total (λ k. k.name) nat_list_cmp_total)))

-- the order of keys by their hash is total
pub hash_total : IsTotalOrder hash_cmp
hash_total = on_total tag tag_total
