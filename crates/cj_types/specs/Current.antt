-- Conditional updates: Kubernetes API conventions, "Concurrency Control and Consistency", and
-- preconditions on the uid.
use Rattle.std.specs.Prelude.{ℕ, Bool, true, ◌&&◌, List, Option, Some, None}
use Rattle.std.specs.Str.{bytes_eq}
use Rattle.std.specs.Fmt.{decimal}
use Rattle.cj_types.specs.declared.meta.Meta.{Meta}
use Rattle.cj_types.specs.declared.meta.DraftMeta.{DraftMeta}
use Rattle.cj_types.specs.Uids.{uid_text}

-- no text is given, or it is the current one
abbrev pub says : Option (List ℕ) → List ℕ → Bool
says None current = true
says (Some given) current = bytes_eq given current

-- the draft's uid and version, where it gives them, are those of the stored object
-- rule: update
abbrev pub is_current : DraftMeta → Meta → Bool
is_current draft meta = says draft.uid (uid_text meta.uid)
    && says draft.version (decimal meta.version)
