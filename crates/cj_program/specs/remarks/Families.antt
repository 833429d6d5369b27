-- Gaps of one CronJob with one cause.
use Rattle.std.specs.Prelude.{◌≡◌, ℕ, ◌==◌, ◌+◌, ◌&&◌, Bool, true, false, List, [], ◌∷◌, length, Option, Some, None, if◌then◌else◌}
use Rattle.std.specs.BTreeMap as tree
use Rattle.std.specs.List.{filter}
use Rattle.std.specs.declared.cmp.Ordering.{Ordering}
use Rattle.cj_history.specs.declared.gaps.gap.Gap.{Gap}
use Rattle.cj_history.specs.declared.gaps.gap.Why.{Why}
use Rattle.cj_history.specs.declared.gaps.gap.Why.TheVariants.{Suspended, TooLate, Forbidden, Earlier, NameTaken, NotMade, NeverSynced}
use Rattle.cj_program.specs.declared.remarks.families.Families.{Families}
use Rattle.cj_program.specs.declared.remarks.families.Kind.{Kind}
use Rattle.cj_program.specs.declared.remarks.families.Tally.{Tally}
use Rattle.cj_program.specs.contracts.remarks.families.KindOrd.TheImpl as kind

abbrev pub same_why : Why → Why → Bool
same_why Suspended Suspended = true
same_why TooLate TooLate = true
same_why Forbidden Forbidden = true
same_why Earlier Earlier = true
same_why NameTaken NameTaken = true
same_why NotMade NotMade = true
same_why NeverSynced NeverSynced = true
same_why a b = false

abbrev pub is_kind : Kind → Kind → Bool
is_kind a b = (a.uid == b.uid) && same_why a.why b.why

-- of which CronJob, by its uid, and with which cause
abbrev pub kind_of : Gap → Kind
kind_of g = record { uid = g.cron.meta.uid; why = g.why }

-- those of a list that are of that CronJob and have that cause
-- rule: explain-gaps
abbrev pub family : Kind → List Gap → List Gap
family k gs = filter (λ g. is_kind (kind_of g) k) gs

abbrev pub last_time : ℕ → List Gap → ℕ
last_time t [] = t
last_time t (g ∷ gs) = last_time g.time gs

-- how many there are, with the times of the first and the last
abbrev pub tally_of : List Gap → Option Tally
tally_of [] = None
tally_of (g ∷ gs) = Some (record { count = length (g ∷ gs); first = g.time; last = last_time g.time gs })

-- ---- what is known of them once they were counted

abbrev pub kind_cmp : Kind → Kind → Ordering
kind_cmp = kind.ghosts.cmp

abbrev pub tally_at : Families → Kind → Option Tally
tally_at f k = tree.get kind_cmp f.tallies k

abbrev pub count_in : Option Tally → ℕ
count_in None = 0
count_in (Some t) = t.count

-- with a gap more, at this time
abbrev pub tally_with : Option Tally → ℕ → Tally
tally_with None t = record { count = 1; first = t; last = t }
tally_with (Some was) t = record { count = was.count + 1; first = was.first; last = t }

-- what is known at each kind is the tally of its family
abbrev pub IsCounted : Families → List Gap → Type 0
IsCounted f gs = (k : Kind) → tally_at f k ≡ tally_of (family k gs)

-- the kind gets that tally, and the others keep theirs
abbrev pub Stands : Kind → Tally → Families → Families → Type 0
Stands k t before after = (other : Kind)
    → tally_at after other ≡ (if is_kind k other then Some t else tally_at before other)
