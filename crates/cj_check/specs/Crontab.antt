-- What the lines of a crontab say (crontab(5)).
use Rattle.std.specs.Prelude.{◌≡◌, ◌≤◌, ℕ, ◌+◌, ◌==◌, ◌||◌, List, [], ◌∷◌, ◌++◌, Bool, true, false, Option, None, Some, if◌then◌else◌, codes, length, string_bytes, ⊤}
use Rattle.std.specs.List.{All, AllZip, list_any}
use Rattle.std.specs.Char.{is_ascii_whitespace}
use Rattle.cj_schedule.specs.Grammar.{IsSchedule}
use Rattle.cj_check.specs.declared.crontab.entries.Entry.{Entry}
use Rattle.cj_check.specs.declared.crontab.line.Job.{Job}
use Rattle.cj_check.specs.declared.crontab.line.Line.{Line}
use Rattle.cj_check.specs.declared.crontab.line.Line.TheVariants as Of
use Rattle.cj_check.specs.declared.crontab.when.Fields.{Fields}
use Rattle.cj_check.specs.declared.crontab.when.When.{When}
use Rattle.cj_check.specs.declared.crontab.when.When.TheVariants as By

-- ---- the lines of a text

-- the lines, the first of which has one more byte in front
abbrev pub onto_line : ℕ → List (List ℕ) → List (List ℕ)
onto_line b [] = (b ∷ []) ∷ []
onto_line b (l ∷ ls) = (b ∷ l) ∷ ls

-- the lines of a text: what stands between its line feeds
-- rule: crontab-lines
unfoldable pub lines_in : List ℕ → List (List ℕ)
lines_in [] = [] ∷ []
lines_in (b ∷ bs) = if b == 10 then [] ∷ lines_in bs else onto_line b (lines_in bs)

-- the lines behind a line feed, if there was one
abbrev pub lines_behind : Option (List ℕ) → List (List ℕ)
lines_behind None = []
lines_behind (Some text) = lines_in text

-- a blank: a space or a tab
abbrev pub is_blank : ℕ → Bool
is_blank b = (b == 32) || (b == 9)

abbrev pub without_blanks : List ℕ → List ℕ
without_blanks [] = []
without_blanks (b ∷ bs) = if is_blank b then without_blanks bs else b ∷ bs

-- a line says nothing if it is blank, or a comment
-- rule: crontab-lines
abbrev pub is_silent : List ℕ → Bool
is_silent [] = true
is_silent (b ∷ bs) = b == 35

-- of lines from a number on those that say something, each with its number and without the blanks
-- in front
-- rule: crontab-lines
abbrev pub telling : ℕ → List (List ℕ) → List (ℕ × List ℕ)
telling n [] = []
telling n (l ∷ ls) =
    if is_silent (without_blanks l) then telling (n + 1) ls
    else (n, without_blanks l) ∷ telling (n + 1) ls

-- ---- what a line says

abbrev pub is_refusal : Line → Bool
is_refusal (Of.Setting s) = false
is_refusal (Of.Job j) = false
is_refusal (Of.Reboot r) = false
is_refusal (Of.Refused fault) = true

-- the line is refused
abbrev pub is_refused : Entry → Bool
is_refused e = is_refusal e.line

-- five fields with a space between two
abbrev pub fields_text : Fields → List ℕ → List ℕ
fields_text f weekday =
    f.minute.now ++ (codes " " ++ (f.hour.now ++ (codes " " ++ (f.day.now ++ (codes " "
    ++ (f.month.now ++ (codes " " ++ weekday)))))))

-- the days of the week, which have a 7 only where the crontab has one
abbrev pub AreWeekdays : List ℕ → List ℕ → Type 0
AreWeekdays field text = list_any (λ b. b == 55) field ≡ false → text ≡ field

-- the schedule as Kubernetes takes it: the macro, or the five fields with other days of the week
-- where they have a 7
-- rule: crontab-schedule
abbrev pub IsScheduleText : When → List ℕ → Type 0
IsScheduleText (By.Fields f) text =
    (weekday : List ℕ) × AreWeekdays f.weekday.now weekday × (text ≡ fields_text f weekday)
IsScheduleText (By.Macro name) text = text ≡ name.now

-- what is started by a schedule is started by what its text says
-- rule: crontab-schedule
pub record IsJob (j : Job) : Type 0 where
  pub text : IsScheduleText j.when (string_bytes j.text)
  pub schedule : IsSchedule (string_bytes j.text) j.schedule

-- the first word of a text, which has no blank in it, and what is behind the blanks that follow
pub record IsFirstWord (text word rest : List ℕ) : Type 0 where
  pub gap : List ℕ
  pub is : text ≡ word ++ (gap ++ rest)
  pub whole : All (λ b. is_blank b ≡ false) word
  pub blanks : All (λ b. is_ascii_whitespace b ≡ true) gap
  pub ends : gap ≡ [] → rest ≡ []

-- a text begins with these words
pub data BeginsWith : List (List ℕ) → List ℕ → Type 0 where
  none : {text : List ℕ} → BeginsWith [] text
  word : {w : List ℕ} {ws : List (List ℕ)} {text : List ℕ} (rest : List ℕ) → IsFirstWord text w rest
      → BeginsWith ws rest → BeginsWith (w ∷ ws) text

-- the words of a schedule
abbrev pub words_of : When → List (List ℕ)
words_of (By.Fields f) =
    f.minute.now ∷ f.hour.now ∷ f.day.now ∷ f.month.now ∷ f.weekday.now ∷ []
words_of (By.Macro name) = name.now ∷ []

-- a line that starts a command begins with its schedule
-- rule: crontab-lines
abbrev pub IsLine : List ℕ → Line → Type 0
IsLine text (Of.Setting s) = ⊤
IsLine text (Of.Job j) = BeginsWith (words_of j.when) text × IsJob j
IsLine text (Of.Reboot r) = ⊤
IsLine text (Of.Refused fault) = ⊤

-- an entry is what a line says, with its number
abbrev pub IsEntry : Entry → ℕ × List ℕ → Type 0
IsEntry e l = (e.number ≡ l.0) × IsLine l.1 e.line

-- one entry more, of that line
pub record AddsOne (l : ℕ × List ℕ) (old new : List Entry) : Type 0 where
  pub entry : Entry
  pub is : IsEntry entry l
  pub grows : new ≡ old ++ entry ∷ []

abbrev pub AddsUnless : Bool → ℕ × List ℕ → List Entry → List Entry → Type 0
AddsUnless true l old new = new ≡ old
AddsUnless false l old new = AddsOne l old new

-- the line of that number has one entry more, unless it says nothing
abbrev pub Adds : ℕ → List ℕ → List Entry → List Entry → Type 0
Adds n line old new =
    AddsUnless (is_silent (without_blanks line)) (n, without_blanks line) old new

-- the entries of lines, of which others are left
pub record AreRead (lines left : List (ℕ × List ℕ)) (entries : List Entry) : Type 0 where
  pub read : List (ℕ × List ℕ)
  pub are : lines ≡ read ++ left
  pub entries_are : AllZip IsEntry entries read

-- a crontab has an entry for each line that says something, in their order; none is left out of the
-- first 100,000
-- rule: crontab-lines
pub record AreEntries (bytes : List ℕ) (entries : List Entry) : Type 0 where
  pub left : List (ℕ × List ℕ)
  pub read : AreRead (telling 1 (lines_in bytes)) left entries
  pub all : length entries ≤ 100_000 → left ≡ []
