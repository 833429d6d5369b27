-- The callers of a script: an object from their names to their roles, in the order of the names.
-- One whose role is null is none.
use Rattle.std.specs.Prelude.{ℕ, List, [], ◌∷◌, ◌++◌, length, codes, bytes_eq, if◌then◌else◌, Option, Some, None, option_map, option_and_then}
use Rattle.std.specs.List.{find}
use Rattle.serde_json.specs.Data.{Data, Members, no_members, member}
use Rattle.serde_json.specs.Find.{as_object, as_str}
use Rattle.cj_calls.specs.declared.caller.Role.{Role}
use Rattle.cj_calls.specs.declared.caller.Role.TheVariants as Is
use Rattle.cj_manifest.specs.Members.{present, unless_null}
use Rattle.cj_script.specs.declared.callers.Named.{Named}

abbrev pub role_named : List ℕ → Option Role
role_named word =
    if bytes_eq word (codes "User") then Some Is.User
    else (if bytes_eq word (codes "Runner") then Some Is.Runner
    else (if bytes_eq word (codes "Informer") then Some Is.Informer
    else (if bytes_eq word (codes "Worker") then Some Is.Worker
    else None)))

-- the role of a member, or none where the member is absent; nothing where it is no role
abbrev pub role_in : Option Data → Option (Option Role)
role_in None = Some None
role_in (Some d) = option_map (λ role. Some role) (option_and_then role_named (as_str d))

-- a caller more, whose number is its place
abbrev pub with_caller : List Named → List ℕ → Role → List Named
with_caller callers name role = callers ++ record
    { name = name; caller = record { number = length callers; role = role } } ∷ []

-- a caller more where there is a role
abbrev pub with_role : List Named → List ℕ → Option Role → List Named
with_role callers name None = callers
with_role callers name (Some role) = with_caller callers name role

-- the callers with those of the members
abbrev pub with_callers : List Named → Members → Option (List Named)
with_callers callers no_members = Some callers
with_callers callers (member name d ms) = option_and_then
    (λ role. with_callers (with_role callers name role) ms) (role_in (unless_null d))

-- rule: script
abbrev pub callers_in : Data → Option (List Named)
callers_in d = option_and_then (with_callers [])
    (option_and_then as_object (present (codes "callers") d))

-- the caller of that name, if one has it
-- rule: script
abbrev pub caller_named : List Named → List ℕ → Option Named
caller_named callers name = find (λ named. bytes_eq named.name name) callers
