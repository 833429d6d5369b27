-- fine_answer: its ensures, from what was read and what is told of it at the moment that is asked about.
use Rattle.std.proofs.Common.{refl, string_bytes, subst, ℕ, Option}
use Rattle.cj_answers.specs.Advice.{IsAdvice}
use Rattle.cj_check.proofs.Checked.{fine_checked}
use Rattle.cj_zone.specs.Table.{zones_of}
use Rattle.cj_check.proofs.manifest.fine_answer.Goals as goal

pub returns : goal.returns
returns c = λ bytes read.
    let told = subst (λ (moment : Option ℕ). IsAdvice c.args.manifest.now (zones_of c.args.zones.now) moment
    (string_bytes c.in_ok-words.words)) c.in_ok-moment.ensures c.in_ok-words.ensures.ok in
    fine_checked c.args.check.now c.args.alone (zones_of c.args.zones.now) bytes c.args.manifest.now
    (string_bytes c.in_ok-words.words) c.as_str-words.result.now c.coming_words-coming.result.now
    (string_bytes c.in_ok-unfit.unfit) c.as_str-unfit.result.now c.args.warnings.now c.args.warnings.now
    c.fine.result refl c.as_str-words.ensures.value c.as_str-unfit.ensures.value told c.coming_words-coming.ensures
    c.in_ok-unfit.ensures read c.fine.ensures
