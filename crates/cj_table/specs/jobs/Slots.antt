-- Jobs by the number of their slot, and those of a table of slots.
use Rattle.std.specs.Prelude.{◌≡◌, ℕ, ◌==◌, cond, List, Option, None, slice_index_or}
use Rattle.std.specs.List.{filter_map}
use Rattle.std.specs.Option.{option_map}
use Rattle.std.specs.FinMap as map
use Rattle.cj_types.specs.Keys.{Place, place_cmp}
use Rattle.cj_types.specs.declared.job.Job.{Job}

-- a map from slots to Jobs
abbrev pub Slots : Type 0
Slots = List (Option Job)

-- a map from keys to slots
abbrev pub Table : Type 0
Table = map.FinMap place_cmp ℕ

-- the Job in a slot, if there is one
abbrev pub job_at : Slots → ℕ → Option Job
job_at slots slot = slice_index_or slots slot None

-- the new slots have this Job, or none, in the slot, and are else as the old
abbrev pub Writes : Option Job → Slots → Slots → ℕ → Type 0
Writes there old new slot = (s : ℕ) → job_at new s ≡ cond (s == slot) there (job_at old s)

-- a key with the Job in its slot, if there is one
abbrev pub row_at : Slots → Place × ℕ → Option (Place × Job)
row_at slots row = option_map (λ job. (row.0, job)) (job_at slots row.1)

-- for each key of the table the Job in its slot
abbrev pub jobs_of : Table → Slots → map.FinMap place_cmp Job
jobs_of table slots = map.from_entries (filter_map (row_at slots) (map.entries table))
