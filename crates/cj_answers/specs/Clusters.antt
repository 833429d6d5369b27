-- A list of a cluster's objects, in lines: the items that can't be used, and why bytes are no list.
use Rattle.std.specs.Prelude.{◌≡◌, ◌≢◌, ℕ, List, [], ◌∷◌, ◌++◌, Bool, true, false, Option, None, Some, codes, decimal}
use Rattle.std.specs.List.{list_all}
use Rattle.cj_base.specs.declared.faults.FieldFault.{FieldFault}
use Rattle.cj_explain.specs.Faults.{fault_words}
use Rattle.cj_explain.specs.Taken.{kind_name, taken_message}
use Rattle.cj_cluster.specs.declared.kubectl.notes.ItemNote.{ItemNote}
use Rattle.cj_cluster.specs.declared.kubectl.notes.ListedKind.{ListedKind}
use Rattle.cj_cluster.specs.declared.kubectl.notes.Said.{Said}
use Rattle.cj_cluster.specs.declared.kubectl.object.ObjectNamed.{ObjectNamed}
use Rattle.cj_cluster.specs.declared.kubectl.notes.Said.TheVariants as Was
use Rattle.cj_cluster.specs.declared.kubectl.fault.ListFault.{ListFault}
use Rattle.cj_cluster.specs.declared.kubectl.fault.ListFault.TheVariants as Why
use Rattle.cj_cluster.specs.kubectl.Reading.{IsRefusedList}
use Rattle.cj_answers.specs.declared.answer.Ending.{Ending}
use Rattle.cj_answers.specs.declared.answer.Ending.TheVariants.{Done, Refused}
use Rattle.cj_answers.specs.Lines.{fault_line}
use Rattle.cj_answers.specs.Json.{IsJsonWords}
use Rattle.cj_answers.specs.Outcome.{Outcome, explained, refusal}

-- ---- items

-- `item N `, N counted from 1
abbrev pub item_prefix : ℕ → List ℕ
item_prefix n = codes "item " ++ (decimal n ++ codes " ")

-- `item N refused 2 FIELD CAUSE`, a line for each fault
abbrev pub item_fault_lines : ℕ → List FieldFault → List ℕ
item_fault_lines n [] = []
item_fault_lines n (f ∷ fs) = (item_prefix n ++ fault_line f) ++ item_fault_lines n fs

-- `duplicate KIND NAMESPACE/NAME`
abbrev pub taken_line : ListedKind → List ℕ → List ℕ
taken_line kind key = codes "duplicate " ++ (kind_name kind ++ (codes " " ++ (key ++ codes "\n")))

-- `item N kind KIND` of an object that is neither a CronJob nor a Job, `item N duplicate KIND
-- NAMESPACE/NAME` of one whose name an earlier one has
-- rule: cluster-faults
abbrev pub said_lines : ℕ → Said → List ℕ
said_lines n (Was.Kind kind) = item_prefix n ++ (codes "kind " ++ (kind ++ codes "\n"))
said_lines n (Was.Refused faults) = item_fault_lines n faults
said_lines n (Was.Taken kind key) = item_prefix n ++ taken_line kind key

-- of all items that can't be used, in their order
-- rule: cluster-faults
abbrev pub note_lines : List ItemNote → List ℕ
note_lines [] = []
note_lines (note ∷ notes) = said_lines note.place note.said ++ note_lines notes

-- for people, `item N (KIND NAMESPACE/NAME) ` where the item says its name
-- rule: cluster-explained
abbrev pub named_prefix : ℕ → Option ObjectNamed → List ℕ
named_prefix n None = item_prefix n
named_prefix n (Some o) =
    codes "item " ++ (decimal n ++ (codes " (" ++ (o.kind ++ (codes " " ++ (o.namespace
    ++ (codes "/" ++ (o.name ++ codes ") ")))))))

-- what is wrong with an item, and what is wanted, behind its name
abbrev pub item_fault_words : List ℕ → List FieldFault → List ℕ
item_fault_words prefix [] = []
item_fault_words prefix (f ∷ fs) = (prefix ++ fault_words f) ++ item_fault_words prefix fs

-- rule: cluster-explained
abbrev pub taken_words : ListedKind → List ℕ → List ℕ
taken_words kind key = codes "duplicate: " ++ (taken_message kind key ++ codes "\n")

abbrev pub said_words : List ℕ → Said → List ℕ
said_words prefix (Was.Kind kind) = []
said_words prefix (Was.Refused faults) = item_fault_words prefix faults
said_words prefix (Was.Taken kind key) = prefix ++ taken_words kind key

-- rule: cluster-explained
abbrev pub note_words : List ItemNote → List ℕ
note_words [] = []
note_words (note ∷ notes) =
    said_words (named_prefix note.place note.object) note.said ++ note_words notes

abbrev pub is_other : Said → Bool
is_other (Was.Kind kind) = true
is_other (Was.Refused faults) = false
is_other (Was.Taken kind key) = false

-- no item was refused
-- rules: audit-status, why-status
abbrev pub is_read : List ItemNote → Bool
is_read notes = list_all (λ note. is_other note.said) notes

abbrev pub ending_by : Bool → Ending
ending_by true = Done
ending_by false = Refused

-- ---- bytes that are no list

-- rule: cluster-list
abbrev pub list_line : ListFault → List ℕ
list_line Why.Syntax = codes "cronsim: refused 1 Syntax\n"
list_line Why.Form = codes "cronsim: list\n"
list_line Why.Memory = codes "cronsim: out of memory\n"

abbrev pub wanted_list : List ℕ
wanted_list = codes "FILE: want what kubectl get cronjobs,jobs -o json prints, without -w: a List, or one CronJob or Job\n"

-- where it is no JSON, and what is wanted
-- rule: cluster-explained
pub record IsSyntaxWords (bytes words : List ℕ) : Type 0 where
  pub place : List ℕ
  pub said : IsJsonWords bytes place
  pub are : words ≡ place ++ wanted_list

-- rule: cluster-explained
abbrev pub IsListWords : List ℕ → ListFault → List ℕ → Type 0
IsListWords bytes Why.Syntax words = IsSyntaxWords bytes words
IsListWords bytes Why.Form words = words ≡ wanted_list
IsListWords bytes Why.Memory words = words ≡ []

-- the bytes are refused, for another cause than memory
-- rule: cluster-list
pub record RefusesList (explain : Bool) (bytes : List ℕ) (o : Outcome) : Type 0 where
  pub fault : ListFault
  pub refused : IsRefusedList bytes fault
  pub told : fault ≢ Why.Memory
  pub words : List ℕ
  pub are : IsListWords bytes fault words
  pub answer : o ≡ explained explain words (refusal (list_line fault))
