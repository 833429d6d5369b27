-- Members by their paths: one that must be there, and one that may be. Members that are null are
-- missing.
use Rattle.std.specs.Prelude.{ℕ, List, [], ◌∷◌, ◌++◌, codes, Option, Some, None, Result, Ok, Err, if◌then◌else◌}
use Rattle.serde_json.specs.Data.{Data}
use Rattle.cj_manifest.specs.Members.{present}
use Rattle.cj_explain.specs.declared.members.want.Want.{Want}
use Rattle.cj_explain.specs.declared.members.wrong.Wrong.{Wrong}
use Rattle.cj_explain.specs.declared.members.wrong.Wrong.TheVariants.{Member}
use Rattle.cj_explain.specs.members.Wants.{fits, words}

-- nothing is wrong, or this is
abbrev pub Checked : Type 0
Checked = Result (Unit {0}) Wrong

-- one after the other: the second is looked at where nothing was wrong in the first
abbrev pub both : Checked → Checked → Checked
both (Ok _) rest = rest
both (Err e) rest = Err e

-- the path of a member of the object at a path, which is empty for the whole
abbrev pub member_at : List ℕ → List ℕ → List ℕ
member_at [] name = name
member_at (b ∷ bs) name = (b ∷ bs) ++ (codes "." ++ name)

-- what is said of a member, and what it has to be
-- rule: explain-members
abbrev pub line : List ℕ → List ℕ → List ℕ → List ℕ → List ℕ
line path name said wanted = member_at path name ++ (said ++ (wanted ++ codes "\n"))

abbrev pub missing : List ℕ
missing = codes ": missing, want "

abbrev pub other : List ℕ
other = codes ": want "

abbrev pub at_fault : List ℕ → List ℕ → List ℕ → List ℕ → Checked
at_fault path name said wanted = Err (Member (line path name said wanted))

-- a value that is there
abbrev pub checked : List ℕ → List ℕ → Want → Data → Checked
checked path name want d = if fits want d then Ok tt else at_fault path name other (words want)

abbrev pub must_by : List ℕ → List ℕ → Want → Option Data → Checked
must_by path name want None = at_fault path name missing (words want)
must_by path name want (Some d) = checked path name want d

abbrev pub may_by : List ℕ → List ℕ → Want → Option Data → Checked
may_by path name want None = Ok tt
may_by path name want (Some d) = checked path name want d

-- a member that must be there
-- rule: explain-members
abbrev pub must : List ℕ → Data → List ℕ → Want → Checked
must path d name want = must_by path name want (present name d)

-- one that may be
-- rule: explain-members
abbrev pub may : List ℕ → Data → List ℕ → Want → Checked
may path d name want = may_by path name want (present name d)
