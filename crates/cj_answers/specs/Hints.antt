-- What is wrong with texts that people take for schedules, beside the place of the fault.
use Rattle.std.specs.Prelude.{ℕ, ◌==◌, ◌&&◌, ◌||◌, nat_le, Bool, List, [], bytes_eq, codes, if◌then◌else◌}
use Rattle.std.specs.List.{count_by, list_any}
use Rattle.cj_base.specs.ScheduleCause.{cause_name}
use Rattle.cj_base.specs.declared.schedule_fault.ScheduleCause.{ScheduleCause}
use Rattle.cj_base.specs.declared.schedule_fault.ScheduleFault.{ScheduleFault}
use Rattle.cj_answers.specs.Suggestion.{begins}

-- the first byte, in UTF-8, of no-break spaces and wide blanks, long dashes, curly quotation marks
-- and wide digits
abbrev pub is_odd : ℕ → Bool
is_odd b = b == 194 || b == 226 || b == 227 || b == 239

abbrev pub is_quote : ℕ → Bool
is_quote b = b == 34 || b == 39

abbrev pub is_blank : ℕ → Bool
is_blank b = b == 32 || b == 9

-- from a to z
abbrev pub is_letter : ℕ → Bool
is_letter b = nat_le 97 b && nat_le b 122

-- or from A to Z
abbrev pub is_any_letter : ℕ → Bool
is_any_letter b = (nat_le 97 b && nat_le b 122) || (nat_le 65 b && nat_le b 90)

abbrev pub is_point : ℕ → Bool
is_point b = b == 46

abbrev pub is_fields : ScheduleCause → Bool
is_fields cause = bytes_eq (cause_name cause) (codes "Fields")

abbrev pub is_syntax : ScheduleCause → Bool
is_syntax cause = bytes_eq (cause_name cause) (codes "Syntax")

-- names in full, and what other programs have
-- rule: explain-hint
abbrev pub name_hint : List ℕ → List ℕ
name_hint text =
    if list_any is_any_letter text then codes
    "schedule: the names there are have three letters, JAN to DEC and SUN to SAT; L, W, # and H of other programs have no place here\n"
    else []

-- a line of a crontab, and the name of a file
-- rule: explain-hint
abbrev pub field_hint : List ℕ → List ℕ
field_hint text =
    if nat_le 5 (count_by is_blank text) && list_any is_letter text then codes
    "schedule: want the five fields alone, without the command of a crontab's line\n"
    else if count_by is_blank text == 0 && list_any is_point text then codes
    "schedule: it looks like the name of a file; describe -f says its schedules, and check, plan, run, why, audit and upcoming read files\n"
    else []

-- rule: explain-hint
abbrev pub schedule_hint : List ℕ → ScheduleFault → List ℕ
schedule_hint text fault =
    if list_any is_odd text then codes
    "schedule: it has characters that only look like plain ones, as a no-break space or a long dash; want plain blanks and -\n"
    else if list_any is_quote text then codes
    "schedule: it has quotation marks in it; those around it are for the shell alone\n"
    else if begins (codes "@every") text then codes
    "schedule: @every is of Go's cron library; a CronJob has */15 * * * * for each quarter of an hour, and @hourly\n"
    else if is_fields fault.cause then field_hint text
    else if is_syntax fault.cause then name_hint text
    else []
