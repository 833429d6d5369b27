-- What `check` says of a list of manifests, as a client prints it: what it says of each alone, one
-- after another.
use Rattle.std.specs.Prelude.{◌≡◌, ◌⊎◌, ℕ, ◌+◌, ◌-◌, ◌&&◌, Bool, true, false, List, [], ◌∷◌, ◌++◌, length, codes, decimal, string_bytes, Option, None, Some}
use Rattle.std.specs.List.{count_by, list_all}
use Rattle.cj_args.specs.declared.request.CheckRequest.{CheckRequest}
use Rattle.cj_cluster.specs.kubectl.Texts.{IsNoList, IsSplit}
use Rattle.cj_manifest.specs.declared.manifest.Manifest.{Manifest}
use Rattle.cj_manifest.specs.Either.{key_of, kind_of}
use Rattle.cj_zone.specs.declared.zone.Zone.{Zone}
use Rattle.cj_answers.specs.declared.answer.Answer.{Answer}
use Rattle.cj_answers.specs.declared.answer.Ending.{Ending}
use Rattle.cj_answers.specs.declared.answer.Ending.TheVariants.{Done, Refused}
use Rattle.cj_check.specs.declared.several.Stream.{Stream}
use Rattle.cj_check.specs.declared.several.Stream.TheVariants as To
use Rattle.cj_check.specs.Check.{IsChecked, faulty, is_alone}
use Rattle.cj_answers.specs.Clusters.{ending_by, item_prefix}
use Rattle.cj_answers.specs.Marks.{marked}
use Rattle.cj_answers.specs.Outcome.{Outcome, explained, outcome_of}
use Rattle.cj_check.specs.Seen.{IsNoneSeen, NextItem}
use Rattle.cj_check.specs.declared.seen.SeenKeys.{SeenKeys}
use Rattle.cj_check.specs.Several.{several_pod}

-- `duplicate KIND NAMESPACE/NAME`
abbrev pub duplicate_line : Manifest → List ℕ
duplicate_line m = codes "duplicate "
    ++ (kind_of m
    ++ (codes " " ++ ((key_of m).namespace ++ (codes "/" ++ ((key_of m).name ++ codes "\n")))))

abbrev pub duplicate_words : Manifest → List ℕ
duplicate_words m = codes "duplicate: an item before is the "
    ++ (kind_of m ++ codes " of this name too; of the two one is kept\n")

-- an earlier item is the same object
-- rules: check-list, explain
abbrev pub duplicate : CheckRequest → Manifest → Outcome
duplicate r m = explained r.explain (duplicate_words m) (faulty (duplicate_line m))

-- of an item that an item before is that is said, of any other what is answered of its text alone
-- rule: check-list
abbrev pub IsItemAnswer : CheckRequest → List Zone → List ℕ → Outcome → Bool → Option Manifest
    → Type 0
IsItemAnswer r zones text o true (Some m) = o ≡ duplicate r m
IsItemAnswer r zones text o true None = ⊥
IsItemAnswer r zones text o false found = IsChecked r false zones text o

-- rule: check-list
abbrev pub AreChecked : CheckRequest → List Zone → SeenKeys → List (List ℕ) → List Answer → Type 0
AreChecked r zones seen [] [] = Unit {0}
AreChecked r zones seen [] (a ∷ answers) = ⊥
AreChecked r zones seen (text ∷ texts) [] = ⊥
AreChecked r zones seen (text ∷ texts) (a ∷ answers) =
    NextItem zones seen text (IsItemAnswer r zones text (outcome_of a))
    (λ later. AreChecked r zones later texts answers)

abbrev pub text_in : Stream → Answer → List ℕ
text_in To.Output a = string_bytes a.printed
text_in To.Error a = string_bytes a.said

-- the lines of the items from a place on, each with `item N ` before it
-- rule: check-list
abbrev pub item_lines : Stream → ℕ → List Answer → List ℕ
item_lines stream place [] = []
item_lines stream place (a ∷ answers) =
    marked (item_prefix place) (text_in stream a) ++ item_lines stream (place + 1) answers

abbrev pub is_done : Ending → Bool
is_done Done = true
is_done Refused = false

abbrev pub is_fine : Answer → Bool
is_fine a = is_done a.ending

-- how many are fine, and how many refused
-- rule: check-list
abbrev pub item_counts : Bool → List Answer → List ℕ
item_counts false answers = []
item_counts true answers =
    decimal (length answers) ++ (codes " items: " ++ (decimal (count_by is_fine answers)
    ++ (codes " fine, "
    ++ (decimal (length answers - count_by is_fine answers) ++ codes " refused\n"))))

-- that a Pod isn't looked at, once for all items, where one file alone is checked
abbrev pub list_words : CheckRequest → List Answer → List ℕ
list_words r answers = several_pod (r.explain && is_alone r) ++ item_counts r.strict answers

-- refused where one item is
-- rule: check-list
abbrev pub listed : CheckRequest → List Answer → Outcome
listed r answers = record {
  ending = ending_by (list_all is_fine answers);
  printed = item_lines To.Output 1 answers;
  said = item_lines To.Error 1 answers ++ list_words r answers;
}

-- of these texts
pub record IsListed (r : CheckRequest) (zones : List Zone) (texts : List (List ℕ)) (o : Outcome)
    : Type 0 where
  pub start : SeenKeys
  pub none : IsNoneSeen start
  pub answers : List Answer
  pub checked : AreChecked r zones start texts answers
  pub answer : o ≡ listed r answers

-- the bytes are a list
pub record IsListChecked (r : CheckRequest) (zones : List Zone) (bytes : List ℕ) (o : Outcome)
    : Type 0 where
  pub texts : List (List ℕ)
  pub split : IsSplit bytes texts
  pub listed_are : IsListed r zones texts o

-- they are none
pub record IsOneChecked (r : CheckRequest) (zones : List Zone) (bytes : List ℕ) (o : Outcome)
    : Type 0 where
  pub none : IsNoList bytes
  pub checked : IsChecked r (is_alone r) zones bytes o

-- rule: check-list
abbrev pub IsTextChecked : CheckRequest → List Zone → List ℕ → Outcome → Type 0
IsTextChecked r zones bytes o = IsListChecked r zones bytes o ⊎ IsOneChecked r zones bytes o
