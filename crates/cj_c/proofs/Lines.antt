-- Lines, and what is before their end.
--     front_of, line_of        the text before the end; what is explained is a line
use Rattle.std.proofs.Common.{◌≡◌, ◌∙◌, sym, subst, ℕ, ◌-◌, List, ◌++◌, length, take, codes, arith}
use Rattle.std.proofs.Math.Seq.{take-append_seam}
use Rattle.std.proofs.lemmas.List.{append_assoc, length-append}
use Rattle.cj_base.specs.declared.schedule_fault.ScheduleFault.{ScheduleFault}
use Rattle.cj_explain.specs.Schedules.{IsExplained}

-- for without_end: all but the last byte is the text before it
pub front_of : (line text : List ℕ) → line ≡ text ++ codes "\n" → take (length line - 1) line ≡ text
front_of line text is =
    let e : length (text ++ codes "\n") - 1 ≡ length text = omega (arith, length-append text (codes "\n")) in
    subst (λ (l : List ℕ). take (length l - 1) l ≡ text) (sym is) (rw e (take-append_seam text (codes "\n")))

-- for sentence: what is explained is a line
pub line_of : (schedule : List ℕ) (fault : ScheduleFault) (line : List ℕ) → IsExplained schedule fault line
    → (text : List ℕ) × (line ≡ text ++ codes "\n")
line_of schedule fault line e =
    (codes "schedule: " ++ e.words, e.is ∙ sym (append_assoc (codes "schedule: ") e.words (codes "\n")))
