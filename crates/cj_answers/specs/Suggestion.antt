-- What a member that isn't known may have been meant to be.
use Rattle.std.specs.Prelude.{ℕ, List, [], ◌∷◌, ◌++◌, length, take, drop, codes, Option, None, Some, Bool, nat_eq, if◌then◌else◌}
use Rattle.std.specs.Cmp.Lexicographic.{pointwise}
use Rattle.cj_answers.specs.declared.suggestion.Place.{Place}
use Rattle.cj_answers.specs.declared.suggestion.Place.TheVariants as In
use Rattle.cj_answers.specs.Nearest.{meant}

-- the members that a CronJob's manifest may have in an object
abbrev pub names_at : Place → List (List ℕ)
names_at In.Top = codes "apiVersion" ∷ codes "kind" ∷ codes "metadata" ∷ codes "spec" ∷ []
names_at In.Metadata =
    codes "name" ∷ codes "namespace" ∷ codes "labels" ∷ codes "annotations" ∷ codes "uid"
    ∷ codes "resourceVersion" ∷ []
names_at In.Spec =
    codes "schedule" ∷ codes "timeZone" ∷ codes "concurrencyPolicy" ∷ codes "suspend"
    ∷ codes "startingDeadlineSeconds" ∷ codes "successfulJobsHistoryLimit"
    ∷ codes "failedJobsHistoryLimit"
    ∷ codes "jobTemplate" ∷ []
names_at In.Template = codes "metadata" ∷ codes "spec" ∷ []
names_at In.TemplateMetadata = codes "labels" ∷ codes "annotations" ∷ []

-- the path begins so
abbrev pub begins : List ℕ → List ℕ → Bool
begins front path = pointwise nat_eq (take (length front) path) front

-- what follows what it begins with
abbrev pub behind : List ℕ → List ℕ → List ℕ
behind front path = drop (length front) path

-- the object that a path leads into, and the member in it
abbrev pub member_of : List ℕ → Place × List ℕ
member_of path =
    if begins (codes "spec.jobTemplate.metadata.") path then
    (In.TemplateMetadata, behind (codes "spec.jobTemplate.metadata.") path)
    else if begins (codes "spec.jobTemplate.") path then
    (In.Template, behind (codes "spec.jobTemplate.") path)
    else if begins (codes "spec.") path then (In.Spec, behind (codes "spec.") path)
    else if begins (codes "metadata.") path then (In.Metadata, behind (codes "metadata.") path)
    else (In.Top, path)

abbrev pub words_of : Option (List ℕ) → List ℕ
words_of None = []
words_of (Some name) = codes "; did you mean " ++ (name ++ codes "?")

-- the known member that the one at a path may be meant to be
-- rule: explain-suggestion
unfoldable pub suggestion : List ℕ → List ℕ
suggestion path = words_of (meant (member_of path).1 (names_at (member_of path).0))
