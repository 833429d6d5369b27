-- What is said of a schedule that is refused: its fields, their numbers and the forms of their
-- elements are POSIX crontab's and those of Kubernetes CronJob, "Schedule syntax".
use Rattle.std.specs.Prelude.{◌≡◌, ℕ, ◌==◌, List, ◌++◌, codes, decimal, if◌then◌else◌}
use Rattle.cj_base.specs.declared.schedule_fault.ScheduleCause.{ScheduleCause}
use Rattle.cj_base.specs.declared.schedule_fault.ScheduleCause.TheVariants as Of
use Rattle.cj_base.specs.declared.schedule_fault.ScheduleFault.{ScheduleFault}
use Rattle.cj_explain.specs.Elements.{IsShown, field_count}

-- the name of a field, by its number
abbrev pub title : ℕ → List ℕ
title n =
    if n == 1 then codes "minute" else if n == 2 then codes "hour" else if n == 3 then codes
    "day of month"
    else if n == 4 then codes "month" else codes "day of week"

-- what a number is that isn't one of the field's
abbrev pub numbers : ℕ → List ℕ
numbers n =
    if n == 1 then codes "outside 0 to 59" else if n == 2 then codes "outside 0 to 23" else if n ==
    3 then codes "outside 1 to 31"
    else if n == 4 then codes "outside 1 to 12" else codes "outside 0 to 6; Sunday is 0"

-- what is wrong with an element, or with the whole text
-- rule: explain-schedule
abbrev pub cause_words : ℕ → ScheduleCause → List ℕ
cause_words field Of.Length = codes "longer than 1,024 bytes"
cause_words field Of.Empty = codes "nothing but blanks"
cause_words field Of.Zone = codes "no time zone may stand in it; give it by --zone, or in a manifest as spec.timeZone"
cause_words field Of.Macro = codes "no macro here; there are @hourly, @daily, @midnight, @weekly, @monthly, @yearly and @annually"
cause_words field Of.Fields = codes "5 fields are wanted: minute, hour, day of month, month, day of week"
cause_words field Of.Syntax = codes "none of the forms *, N, A-B, */S, N/S and A-B/S"
cause_words field Of.Range = numbers field
cause_words field Of.Order = codes "a range that ends before it begins"
cause_words field Of.Step = codes "a step that is 0 or has more than nine digits"

-- how many fields there are, and which are wanted
abbrev pub count_words_for : ℕ → List ℕ
count_words_for n =
    decimal n ++ (if n == 1 then codes " field, 5 are wanted: minute, hour, day of month, month, day of week"
    else codes " fields, 5 are wanted: minute, hour, day of month, month, day of week")

abbrev pub count_words : List ℕ → List ℕ
count_words text = count_words_for (field_count text)

-- which field, where, and what is wrong
abbrev pub placed : ScheduleFault → List ℕ → List ℕ
placed f wrong =
    codes "field " ++ (decimal f.field ++
    (codes " (" ++ (title f.field ++ (codes "), byte "
    ++ (decimal f.byte ++ (codes ": " ++ wrong))))))

-- what is wrong with an element, with the element itself
pub record IsElementWords (text : List ℕ) (f : ScheduleFault) (words : List ℕ) : Type 0 where
  pub shown : List ℕ
  pub stands : IsShown text f.byte shown
  pub are : words ≡ placed f (codes "'" ++
      (shown ++ (codes "' is " ++ cause_words f.field f.cause)))

-- by the cause
-- rule: explain-schedule
abbrev pub IsWordsFor : List ℕ → ScheduleFault → ScheduleCause → List ℕ → Type 0
IsWordsFor text f Of.Fields words = words ≡ count_words text
IsWordsFor text f Of.Syntax words = IsElementWords text f words
IsWordsFor text f Of.Range words = IsElementWords text f words
IsWordsFor text f Of.Order words = IsElementWords text f words
IsWordsFor text f Of.Step words = IsElementWords text f words
IsWordsFor text f _ words = words ≡ cause_words f.field f.cause

abbrev pub IsWords : List ℕ → ScheduleFault → List ℕ → Type 0
IsWords text f words = IsWordsFor text f f.cause words

-- the line
-- rule: explain-schedule
pub record IsExplained (text : List ℕ) (f : ScheduleFault) (line : List ℕ) : Type 0 where
  pub words : List ℕ
  pub are : IsWords text f words
  pub is : line ≡ codes "schedule: " ++ (words ++ codes "\n")
