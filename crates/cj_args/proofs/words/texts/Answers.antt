-- texts: its ensures, where the argument was given and where it wasn't.
use Rattle.std.proofs.Common.{Some, None, ap, map, sym, ◌∙◌}
use Rattle.std.proofs.lemmas.Result.{IfOk-weaker}
use Rattle.clap.specs.Words.{found_of}
use Rattle.cj_args.proofs.Texts.{copied, texts_found}
use Rattle.cj_args.proofs.words.texts.Goals as goal

pub returns-in-Some : goal.returns-in-Some
returns-in-Some c =
    copied c.to_vec.result _ c.in-Some.texts.now
    (texts_found (found_of c.args.found.now) c.args.id.now
    (Some (map (λ s. s.now) c.in-Some.texts.now)) c.in-Some.ensures)
    (IfOk-weaker c.to_vec.result _ _ (λ v all. all (λ x y same. same)) c.to_vec.ensures.items_if_clones_equal)

pub returns-in-None : goal.returns-in-None
returns-in-None c =
    texts_found (found_of c.args.found.now) c.args.id.now None c.in-None.ensures
    ∙ ap (map (λ s. s.now)) (sym c.new.ensures.items)
