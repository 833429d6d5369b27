-- What can be said of a Job at a moment, in the words of batch/v1.
use Rattle.std.specs.Prelude.{ℕ, Bool, true, false, ◌&&◌, ◌||◌, not, List, [], ◌∷◌, Option, Some, None, if◌then◌else◌}
use Rattle.cj_fence.specs.declared.policy.Policy.{Policy}
use Rattle.cj_fence.specs.declared.policy.Policy.TheVariants.{Allow, Forbid, Replace}
use Rattle.cj_fence.specs.declared.table.Row.{Row}
use Rattle.cj_fence.specs.declared.refs.Ref.{Ref}
use Rattle.cj_fence.specs.declared.objects.Job.{Job}
use Rattle.cj_fence.specs.Texts.{is_same}
use Rattle.cj_fence.specs.Tables.{find}

-- one name and one uid
abbrev pub is_ref : Ref → Ref → Bool
is_ref a b = is_same a.name b.name && is_same a.uid b.uid

-- the Job, where its metadata.uid is this one
abbrev pub with_uid : List ℕ → Option Job → Option Job
with_uid u None = None
with_uid u (Some j) = if is_same j.uid u then Some j else None

-- the Job of a reference, if it stands: the one of the name, where its metadata.uid is the one of
-- the reference
abbrev pub look : List (Row Job) → Ref → Option Job
look jobs r = with_uid r.uid (find r.name jobs)

-- a reference as status.active has it (v1, ObjectReference: name, with the namespace, and uid)
abbrev pub ref : List ℕ → List ℕ → Ref
ref n u = record { name = n; uid = u }

-- the reference to a Job under its name
abbrev pub ref_of : Row Job → Ref
ref_of r = ref r.name r.object.uid

-- whether a name is one: it isn't empty
abbrev pub has_name : List ℕ → Bool
has_name [] = false
has_name (x ∷ xs) = true

-- whether a list of references has one
abbrev pub has_ref : List Ref → Ref → Bool
has_ref [] r = false
has_ref (x ∷ xs) r = is_ref x r || has_ref xs r

-- the references that name a Job: Kubernetes' own controller can leave such as don't
abbrev pub named : List Ref → List Ref
named [] = []
named (x ∷ xs) = if has_name x.name then x ∷ named xs else named xs

-- a list of references without one
abbrev pub without_ref : Ref → List Ref → List Ref
without_ref r [] = []
without_ref r (x ∷ xs) = if is_ref x r then without_ref r xs else x ∷ without_ref r xs

-- whether two are one (spec.concurrencyPolicy)
abbrev pub is_policy : Policy → Policy → Bool
is_policy Allow Allow = true
is_policy Forbid Forbid = true
is_policy Replace Replace = true
is_policy _ _ = false

-- held, and a start would make its Pods: it hasn't finished, and has no metadata.deletionTimestamp
abbrev pub waits : Job → Bool
waits j = j.held && not j.finished && not j.deleting

-- it may run Pods: it isn't held, hasn't finished, and has no metadata.deletionTimestamp
abbrev pub runs : Job → Bool
runs j = not j.held && not j.finished && not j.deleting

-- it runs no Pod any more, or will never run one: finished, or held and being deleted
abbrev pub is_dead : Job → Bool
is_dead j = j.finished || (j.held && j.deleting)
