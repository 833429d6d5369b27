-- The entries of a pass, counted from the oldest entry on.
use Rattle.std.specs.Prelude.{ℕ, ◌+◌, ◌==◌, if◌then◌else◌, List, [], ◌∷◌}
use Rattle.cj_calls.specs.Rows.{Told}
use Rattle.cj_hub.specs.declared.receipt.Receipt.{Receipt}
use Rattle.cj_hub.specs.Receipts.{receipt_of}

-- the entries with the number among these, the oldest first, where the first of all has this place
abbrev pub placed_from : ℕ → ℕ → List Told → List Receipt
placed_from n at [] = []
placed_from n at (e ∷ es) = if e.caller.number == n then receipt_of at e ∷ placed_from n (at + 1) es
    else placed_from n (at + 1) es
