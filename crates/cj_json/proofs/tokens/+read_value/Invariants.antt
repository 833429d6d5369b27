-- The loops of items and members, and that each nests less deep than what it is in.
use Rattle.std.proofs.Common.{◌≤◌, ◌+◌, ◌*◌, ℕ, length}
use Rattle.serde_json.specs.Data.{items_depth, members_depth}
use Rattle.serde_json.specs.View.{items_view, members_view}
use Rattle.cj_json.proofs.TokenLemmas.{Leads, MembersLead, followed}
use Rattle.cj_json.proofs.tokens.+read_value.Given as goal

abbrev pub decreases-read_value : goal.decreases-read_value
decreases-read_value l = 2 * l.levels

abbrev pub decreases-read_items : goal.decreases-read_items
decreases-read_items l = 2 * l.levels + 1

abbrev pub decreases-read_members : goal.decreases-read_members
decreases-read_members l = 2 * l.levels + 1

abbrev pub invariant-read_items-items : goal.invariant-read_items-items
invariant-read_items-items l = record {
  turns : (n : ℕ) × Leads l.levels l.initial.reader (λ ds. followed l.found.items ds) n l.reader;
  flat : items_depth (items_view l.found.items) ≤ l.levels;
  shorter : length l.reader ≤ length l.initial.reader;
}

abbrev pub decreases-read_items-items : goal.decreases-read_items-items
decreases-read_items-items l = length l.reader

abbrev pub invariant-read_members-members : goal.invariant-read_members-members
invariant-read_members-members l = record {
  turns : (n : ℕ) × MembersLead l.levels l.initial.reader (members_view l.found.entries) n l.reader;
  flat : members_depth (members_view l.found.entries) ≤ l.levels;
  shorter : length l.reader ≤ length l.initial.reader;
}

abbrev pub decreases-read_members-members : goal.decreases-read_members-members
decreases-read_members-members l = length l.reader
