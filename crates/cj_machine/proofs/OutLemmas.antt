-- The lines of deeds, one after the other.
use Rattle.std.proofs.Common.{◌++◌, ◌∙◌, ℕ, List, [], ◌∷◌, refl, sym, ap}
use Rattle.std.specs.Prelude.{Option}
use Rattle.std.proofs.lemmas.List.{append_assoc, append-nil}
use Rattle.cj_control.specs.declared.deed.Deed.{Deed}
use Rattle.cj_machine.specs.Out.{AreLines, IsLineOf, listed, sent_by}

-- With one deed more there is its line.
pub lines_more : (ds : List Deed) (d : Deed) (texts : List (List ℕ)) (o : Option (List ℕ)) → AreLines ds texts
    → IsLineOf (sent_by d) o → AreLines (ds ++ (d ∷ [])) (texts ++ listed o)
lines_more [] d texts o h is =
    (o, [], is, refl, ap (λ ts. ts ++ listed o) h ∙ sym (append-nil (listed o)))
lines_more (x ∷ xs) d texts o (o', more, was, h, eq) is = (
  o',
  more ++ listed o,
  was,
  lines_more xs d more o h is,
  ap (λ ts. ts ++ listed o) eq ∙ append_assoc (listed o') more (listed o),
)
