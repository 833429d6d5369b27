-- What is said of two objects of one name.
use Rattle.std.specs.Prelude.{ℕ, List, ◌++◌, codes}
use Rattle.cj_cluster.specs.declared.kubectl.notes.ListedKind.{ListedKind}
use Rattle.cj_cluster.specs.declared.kubectl.notes.ListedKind.TheVariants as Of

abbrev pub kind_name : ListedKind → List ℕ
kind_name Of.Cron = codes "CronJob"
kind_name Of.Run = codes "Job"

-- of the later one, by its namespace and name
-- rules: cluster-explained, json-faults
abbrev pub taken_message : ListedKind → List ℕ → List ℕ
taken_message kind key =
    codes "two "
    ++ (kind_name kind ++ (codes "s are named " ++ (key ++ codes "; the first one is read")))
