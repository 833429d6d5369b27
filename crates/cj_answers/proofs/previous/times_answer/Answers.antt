-- times_answer: its ensures, by the times and by what is said of the clock.
use Rattle.std.proofs.Common.{◌∙◌, List, ℕ, ap, string_bytes, subst}
use Rattle.cj_answers.specs.ClockWords.{IsClockWords, year_before}
use Rattle.cj_answers.specs.Outcome.{done, explained}
use Rattle.cj_answers.proofs.previous.times_answer.Goals as goal

pub returns : goal.returns
returns c = record {
  text = string_bytes c.in_ok-text.text;
  printed = c.in_ok-text.ensures.ok;
  words = string_bytes c.in_ok-words.words;
  clock = subst (λ (m : List ℕ). IsClockWords m c.args.schedule.now c.args.zone.now
      (year_before c.args.before) (string_bytes c.in_ok-words.words)) c.clock_mark-mark.ensures
      c.in_ok-words.ensures.ok;
  answer = c.in_ok-told.ensures
      ∙ ap (λ (w : List ℕ). explained c.args.previous.now.explain w
      (done (string_bytes c.in_ok-text.text))) c.as_str.ensures.value;
}
