-- words: its ensures, by whether the schedule allows some date.
use Rattle.std.proofs.Common.{ap, ◌∙◌}
use Rattle.std.proofs.lemmas.Result.{IfOk-weaker}
use Rattle.cj_upcoming.specs.Sentence.{date_words}
use Rattle.cj_upcoming.proofs.Said.{words_none, words_yes}
use Rattle.cj_upcoming.proofs.describe.words.Goals as goal

pub returns-in-Some : goal.returns-in-Some
returns-in-Some c =
    IfOk-weaker c.date_words.result _ _
    (λ s h. h ∙ ap date_words c.in-Some.ensures.some ∙ words_yes c.args.schedule.now c.in-Some.ensures.value)
    c.date_words.ensures

pub returns-in-None : goal.returns-in-None
returns-in-None c =
    IfOk-weaker c.no_time.result _ _ (λ s h. h
    ∙ words_none c.args.schedule.now c.in-None.ensures.value) c.no_time.ensures
