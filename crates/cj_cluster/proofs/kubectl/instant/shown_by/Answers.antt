-- shown_by: its clause found, and its clause only at each way out.
use Rattle.std.proofs.Common.{◌≡◌, [], ◌∷◌, ◌++◌, ap, sym, ◌∙◌, subst, rules, List, ℕ}
use Rattle.std.proofs.lemmas.Option.{IfSome_then}
use Rattle.std.specs.Str.{IsUtf8}
use Rattle.cj_zone.specs.TimeText.{time_text_of}
use Rattle.cj_cluster.proofs.KubectlLemmas.InstantLemmas.{printed_utf8, zulu, before_zulu}
use Rattle.cj_cluster.proofs.kubectl.instant.shown_by.Goals as goal

pub returns-in_err-ok-clause-only : goal.returns-in_err-ok-clause-only
returns-in_err-ok-clause-only c = λ t h e.
    let text : List ℕ = c.copy_from_slice.new.self ++ 90 ∷ [] in
    let none : IsUtf8 text → ⊥ = search rules in
    let is : time_text_of t ≡ text = sym (zulu t h)
    ∙ ap (λ x. x ++ 90 ∷ []) (sym e ∙ sym c.copy_from_slice.ensures.after) in
    absurd (none (subst IsUtf8 is (printed_utf8 t h)))

pub returns-clause-found : goal.returns-clause-found
returns-clause-found c =
    let is : c.in_ok-ok.field-0.now ≡ c.copy_from_slice.new.self ++ 90 ∷ [] = search rules in
    IfSome_then c.read_time.result c.read_time.ensures.found
    (λ t e. before_zulu c.args.clock.now _ c.requires
    (ap (λ x. x ++ 90 ∷ []) (sym c.copy_from_slice.ensures.after) ∙ sym is ∙ e))

pub returns-clause-only : goal.returns-clause-only
returns-clause-only c = λ t h e.
    let is : c.in_ok-ok.field-0.now ≡ c.copy_from_slice.new.self ++ 90 ∷ [] = search rules in
    c.read_time.ensures.only t h (is ∙ ap (λ x. x ++ 90 ∷ []) (c.copy_from_slice.ensures.after ∙ e) ∙ zulu t h)
