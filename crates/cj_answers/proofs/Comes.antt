-- A schedule's text has one meaning, and a name one zone.
use Rattle.std.proofs.Common.{◌≡◌, ap, subst, ℕ, zero, Bool, true, false, List, Some, None}
use Rattle.std.specs.Prelude.{Option, Result, Ok, Err}
use Rattle.std.specs.Result.{is_ok}
use Rattle.cj_base.specs.declared.schedule_fault.ScheduleFault.{ScheduleFault}
use Rattle.cj_schedule.specs.Grammar.{IsSchedule}
use Rattle.cj_schedule.specs.Matches.{Sets}
use Rattle.cj_zone.specs.declared.zone.Zone.{Zone}
use Rattle.cj_answers.specs.Coming.{IsComing}

abbrev pub read_as : Sets → Result Sets ScheduleFault
read_as s = Ok s

abbrev pub fails_by : ScheduleFault → Result Sets ScheduleFault
fails_by f = Err f

abbrev pub meaning : Sets → Result Sets ScheduleFault → Sets
meaning d (Ok s) = s
meaning d (Err f) = d

abbrev pub zone_in : Zone → Option Zone → Zone
zone_in d None = d
zone_in d (Some z) = z

-- For schedule_advice: two zones that are found for the same name are the same.
pub zone_same : (a b : Zone) → Some a ≡ Some b → a ≡ b
zone_same a b e = ap (zone_in a) e

abbrev pub fits : Bool → Type 0
fits true = ⊥
fits false = ℕ

-- a text that is refused is no schedule
pub text_refused : (text : List ℕ) (fault : ScheduleFault)
    → ((s : Sets) → IsSchedule text s → fails_by fault ≡ read_as s)
    → (s : Sets) → IsSchedule text s → ⊥
text_refused text fault only s said = subst fits (ap is_ok (only s said)) zero

-- closes what is said of a text that is read
pub text_comes : (text : List ℕ) (zone : Zone) (words : List ℕ) (read : Sets)
    → ((s : Sets) → IsSchedule text s → read_as read ≡ read_as s)
    → IsComing read zone words → (s : Sets) → IsSchedule text s → IsComing s zone words
text_comes text zone words read only is s said = subst (λ x. IsComing x zone words) (ap (meaning read) (only s said)) is

-- and of one that isn't
pub text_fails : (text : List ℕ) (zone : Zone) (words : List ℕ) (fault : ScheduleFault)
    → ((s : Sets) → IsSchedule text s → fails_by fault ≡ read_as s)
    → (s : Sets) → IsSchedule text s → IsComing s zone words
text_fails text zone words fault only s said = absurd (text_refused text fault only s said)
