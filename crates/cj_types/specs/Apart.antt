-- Uids identify objects, as Kubernetes says of `metadata.uid`: "Object Names and IDs", "UIDs".
use Rattle.std.specs.Prelude.{◌≡◌, ◌≤◌, ℕ}
use Rattle.cj_types.specs.Uids.{last_uid, uid_text}

-- different uids have different texts
-- rule: uid-text
abbrev pub AreApart : Type 0
AreApart = (m n : ℕ) → m ≤ last_uid → n ≤ last_uid → uid_text m ≡ uid_text n → m ≡ n
